-- The rules of a route: the first that is broken, each at its first place.
use Rattle.std.specs.Prelude.{ℕ, ◌+◌, Bool, List, [], ◌∷◌, length, nat_eq, nat_le, nat_lt, if◌then◌else◌, Option, None, Some, Result, Ok, Err}
use Rattle.ev_text.specs.Scans.{and_then}
use Rattle.route_plan.specs.FirstPlaces.{behind_first, ends_pass, first_before_last, or_later}
use Rattle.route_plan.specs.Limits.{most_route_nodes}
use Rattle.route_plan.specs.RouteWords.{nodes_in}
use Rattle.route_plan.specs.declared.route.RouteFault.{RouteFault}
use Rattle.route_plan.specs.declared.route.RouteFault.TheVariants.{Again, Ends, InnerDepot, TooLong, Unknown}

-- the first position, counted from `at`, whose node is not below the number of nodes
abbrev pub first_unknown : ℕ → ℕ → List ℕ → Option ℕ
first_unknown count at [] = None
first_unknown count at (n ∷ ns) =
    if nat_lt n count then first_unknown count (at + 1) ns else Some at

abbrev pub is_depot : ℕ → Bool
is_depot node = nat_eq node 0

-- there are at least two nodes, and the first and the last are the depot
abbrev pub has_ends : List ℕ → Bool
has_ends nodes = ends_pass is_depot nodes

-- the first position of the depot between the ends
abbrev pub first_inner_depot : List ℕ → Option ℕ
first_inner_depot nodes = first_before_last is_depot 1 (behind_first nodes)

-- the first position whose node equals the one before it; `at` is the position of the second node
abbrev pub first_again : ℕ → List ℕ → Option ℕ
first_again at [] = None
first_again at (n ∷ []) = None
first_again at (n ∷ m ∷ ns) = if nat_eq m n then Some at else first_again (at + 1) (m ∷ ns)

abbrev pub or_again : List ℕ → Option RouteFault
or_again nodes = or_later (first_again 1 nodes) (λ at. Again at) None

abbrev pub or_inner_depot : List ℕ → Option RouteFault
or_inner_depot nodes = or_later (first_inner_depot nodes) (λ at. InnerDepot at) (or_again nodes)

abbrev pub or_ends : List ℕ → Option RouteFault
or_ends nodes = if has_ends nodes then or_inner_depot nodes else Some Ends

-- the first broken rule of nodes, in a network of `count` nodes
abbrev pub route_fault : ℕ → List ℕ → Option RouteFault
route_fault count nodes =
    if nat_le (length nodes) most_route_nodes
    then or_later (first_unknown count 0 nodes) (λ at. Unknown at) (or_ends nodes)
    else Some TooLong

abbrev pub unless_fault : List ℕ → Option RouteFault → Result (List ℕ) RouteFault
unless_fault nodes None = Ok nodes
unless_fault nodes (Some fault) = Err fault

-- the route of a word in a network of `count` nodes, or the first broken rule: the text is tried first
abbrev pub route_in : ℕ → List ℕ → Result (List ℕ) RouteFault
route_in count word =
    and_then (nodes_in word) (λ nodes. unless_fault nodes (route_fault count nodes))
