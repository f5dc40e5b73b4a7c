-- Nodes are a route exactly where no rule of them is broken.
use Rattle.std.proofs.Common.{◌≡◌, ◌≢◌, ◌∙◌, ℕ, ◌+◌, ◌<◌, ◌≤◌, List, [], ◌∷◌, ◌++◌, length, Option, None, Some, Bool, true, false, nat_eq, nat_le, nat_lt, if◌then◌else◌, refl, sym, ap, subst}
use Rattle.std.specs.List.{All}
use Rattle.std.proofs.lemmas.Bool.{and_parts, eq-eqb, eqb-true, le-leb, leb-true, lt-ltb, ltb-true, ne_eqb, false≢true}
use Rattle.std.proofs.lemmas.Option.{none-some}
use Rattle.std.proofs.lemmas.List.Elements.{All-cons, All-head, All-nil, All-tail}
use Rattle.ev_model.specs.Network.{Network, node_count}
use Rattle.ev_model.specs.Route.{IsRoute, Moves}
use Rattle.route_plan.specs.RouteRules.{first_again, first_inner_depot, first_unknown, has_ends, is_depot, or_again, or_ends, or_inner_depot, route_fault}
use Rattle.route_plan.specs.FirstPlaces.{first_before_last, last_passes, or_later}
use Rattle.route_plan.specs.Limits.{most_route_nodes}
use Rattle.route_plan.specs.declared.route.RouteFault.{RouteFault}
use Rattle.route_plan.specs.declared.route.RouteFault.TheVariants.{Again, Ends, InnerDepot, TooLong, Unknown}

-- a choice by a test that gives nothing at false
chosen : {X : Type 0} (test : Bool) (found : Option X) (x : X) → (if test then found else Some x) ≡ None → (test ≡ true) × (found ≡ None)
chosen true found x none = (refl, none)
chosen false found x none = absurd (none-some x (sym none))

-- a choice by a test that gives nothing at true
passed : {X : Type 0} (test : Bool) (found : Option X) (x : X) → (if test then Some x else found) ≡ None → (test ≡ false) × (found ≡ None)
passed true found x none = absurd (none-some x (sym none))
passed false found x none = (refl, none)

no_fault : (found : Option ℕ) (fault : ℕ → RouteFault) (later : Option RouteFault) → or_later found fault later ≡ None → (found ≡ None) × (later ≡ None)
no_fault None fault later none = (refl, none)
no_fault (Some at) fault later none = absurd (none-some (fault at) (sym none))

-- every node is in the network
all_known : (count at : ℕ) (nodes : List ℕ) → first_unknown count at nodes ≡ None → All (λ node. node < count) nodes
all_known count at [] none = All-nil (λ node. node < count)
all_known count at (n ∷ ns) none =
    let here = chosen (nat_lt n count) (first_unknown count (at + 1) ns) at none in
    All-cons (λ node. node < count) n ns (ltb-true n count here.0) (all_known count (at + 1) ns here.1)

differs : (m n : ℕ) → nat_eq m n ≡ false → m ≢ n
differs m n test same = false≢true (sym test ∙ eq-eqb m n same)

all_move : (at : ℕ) (nodes : List ℕ) → first_again at nodes ≡ None → Moves nodes
all_move at [] none = tt
all_move at (n ∷ []) none = tt
all_move at (n ∷ m ∷ ns) none =
    let here = passed (nat_eq m n) (first_again (at + 1) (m ∷ ns)) at none in
    (differs m n here.0, all_move (at + 1) (m ∷ ns) here.1)

-- nodes that end at the depot, without it
without_end : (nodes : List ℕ) → last_passes is_depot nodes ≡ true → (inner : List ℕ) × (nodes ≡ inner ++ 0 ∷ [])
without_end [] ends = absurd (false≢true ends)
without_end (n ∷ []) ends = ([], ap (λ x. x ∷ []) (eqb-true n 0 ends))
without_end (n ∷ m ∷ ns) ends =
    let rest = without_end (m ∷ ns) ends in
    (n ∷ rest.0, ap (λ xs. n ∷ xs) rest.1)

no_depot_inside : (at : ℕ) (inner : List ℕ) → first_before_last is_depot at (inner ++ 0 ∷ []) ≡ None → All (λ node. node ≢ 0) inner
no_depot_inside at [] none = All-nil (λ node. node ≢ 0)
no_depot_inside at (n ∷ []) none =
    let here = passed (nat_eq n 0) (first_before_last is_depot (at + 1) (0 ∷ [])) at none in
    All-cons (λ node. node ≢ 0) n [] (differs n 0 here.0) (All-nil (λ node. node ≢ 0))
no_depot_inside at (n ∷ m ∷ ns) none =
    let here = passed (nat_eq n 0) (first_before_last is_depot (at + 1) (m ∷ ns ++ 0 ∷ [])) at none in
    All-cons (λ node. node ≢ 0) n (m ∷ ns) (differs n 0 here.0) (no_depot_inside (at + 1) (m ∷ ns) here.1)

-- from the depot on
route_from : (g : Network) (ns : List ℕ) → last_passes is_depot ns ≡ true → All (λ node. node < node_count g) (0 ∷ ns) → first_before_last is_depot 1 ns ≡ None → Moves (0 ∷ ns) → IsRoute g (0 ∷ ns)
route_from g ns ends known none moves =
    let cut = without_end ns ends in (
      cut.0,
      record {
        ends = ap (λ xs. 0 ∷ xs) cut.1;
        known = known;
        no_depot = no_depot_inside 1 cut.0 (subst (λ (xs : List ℕ). first_before_last is_depot 1 xs ≡ None) cut.1 none);
        moves = moves;
      },
    )

route_of_ends : (g : Network) (nodes : List ℕ) → has_ends nodes ≡ true → All (λ node. node < node_count g) nodes → first_inner_depot nodes ≡ None → Moves nodes → IsRoute g nodes
route_of_ends g [] ends known none moves = absurd (false≢true ends)
route_of_ends g (n ∷ ns) ends known none moves =
    let parts = and_parts (nat_eq n 0) (last_passes is_depot ns) ends in
    let depot : n ≡ 0 = eqb-true n 0 parts.0 in
    subst (λ x. IsRoute g (x ∷ ns)) (sym depot)
    (route_from g ns parts.1 (subst (λ x. All (λ node. node < node_count g) (x ∷ ns)) depot known) none (subst (λ x. Moves (x ∷ ns)) depot moves))

pub is_route : (g : Network) (nodes : List ℕ) → route_fault (node_count g) nodes ≡ None → IsRoute g nodes
is_route g nodes none =
    let count = node_count g in
    let few = chosen (nat_le (length nodes) most_route_nodes) (or_later (first_unknown count 0 nodes) (λ at. Unknown at) (or_ends nodes)) TooLong none in
    let known = no_fault (first_unknown count 0 nodes) (λ at. Unknown at) (or_ends nodes) few.1 in
    let ends = chosen (has_ends nodes) (or_inner_depot nodes) Ends known.1 in
    let inner = no_fault (first_inner_depot nodes) (λ at. InnerDepot at) (or_again nodes) ends.1 in
    let again = no_fault (first_again 1 nodes) (λ at. Again at) None inner.1 in
    route_of_ends g nodes ends.0 (all_known count 0 nodes known.0) inner.0 (all_move 1 nodes again.0)

pub is_short : (g : Network) (nodes : List ℕ) → route_fault (node_count g) nodes ≡ None → length nodes ≤ most_route_nodes
is_short g nodes none =
    leb-true (length nodes) most_route_nodes (chosen (nat_le (length nodes) most_route_nodes) (or_later (first_unknown (node_count g) 0 nodes) (λ at. Unknown at) (or_ends nodes)) TooLong none).0

-- and of a route no rule is broken

none_unknown : (count at : ℕ) (nodes : List ℕ) → All (λ node. node < count) nodes → first_unknown count at nodes ≡ None
none_unknown count at [] known = refl
none_unknown count at (n ∷ ns) known =
    let here : nat_lt n count ≡ true = lt-ltb n count (All-head (λ node. node < count) n ns known) in
    rw here (none_unknown count (at + 1) ns (All-tail (λ node. node < count) n ns known))

none_again : (at : ℕ) (nodes : List ℕ) → Moves nodes → first_again at nodes ≡ None
none_again at [] moves = refl
none_again at (n ∷ []) moves = refl
none_again at (n ∷ m ∷ ns) moves =
    let here : nat_eq m n ≡ false = ne_eqb m n moves.0 in
    rw here (none_again (at + 1) (m ∷ ns) moves.1)

ends_behind : (inner : List ℕ) → last_passes is_depot (inner ++ 0 ∷ []) ≡ true
ends_behind [] = refl
ends_behind (n ∷ []) = refl
ends_behind (n ∷ m ∷ ns) = ends_behind (m ∷ ns)

none_inside : (at : ℕ) (inner : List ℕ) → All (λ node. node ≢ 0) inner → first_before_last is_depot at (inner ++ 0 ∷ []) ≡ None
none_inside at [] others = refl
none_inside at (n ∷ []) others =
    let here : nat_eq n 0 ≡ false = ne_eqb n 0 (All-head (λ node. node ≢ 0) n [] others) in
    rw here refl
none_inside at (n ∷ m ∷ ns) others =
    let here : nat_eq n 0 ≡ false = ne_eqb n 0 (All-head (λ node. node ≢ 0) n (m ∷ ns) others) in
    rw here (none_inside (at + 1) (m ∷ ns) (All-tail (λ node. node ≢ 0) n (m ∷ ns) others))

pub is_unbroken : (g : Network) (nodes : List ℕ) → IsRoute g nodes → length nodes ≤ most_route_nodes → route_fault (node_count g) nodes ≡ None
is_unbroken g nodes (inner, is) short =
    let few : nat_le (length nodes) most_route_nodes ≡ true = le-leb (length nodes) most_route_nodes short in
    let known = none_unknown (node_count g) 0 nodes is.known in
    let ends : has_ends nodes ≡ true = ap has_ends is.ends ∙ ends_behind inner in
    let inside : first_inner_depot nodes ≡ None = ap (λ xs. first_inner_depot xs) is.ends ∙ none_inside 1 inner is.no_depot in
    let again = none_again 1 nodes is.moves in
    rw (few, known, ends, inside, again) refl
