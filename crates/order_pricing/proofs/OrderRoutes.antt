-- The route of an order, and its least time.
use Rattle.std.proofs.Common.{◌≡◌, ◌≢◌, ℕ, ◌+◌, ◌<◌, ◌≤◌, true, List, [], ◌∷◌, ◌++◌, refl, sym, subst, arith}
use Rattle.std.specs.List.{All}
use Rattle.std.proofs.lemmas.Bool.{eq-eqb, false≢true}
use Rattle.std.proofs.lemmas.List.Elements.{All-append, All-cons, All-head, All-nil, All-tail}
use Rattle.ev_model.specs.Fastest.{IsFastest}
use Rattle.ev_model.specs.Feasible.{IsFeasible}
use Rattle.ev_model.specs.Fleet.{times_in}
use Rattle.ev_model.specs.Network.{IsNetwork, Network, is_customer, node_count, scaled_limit}
use Rattle.ev_model.specs.Route.{FollowsRoute, IsRoute, Moves}
use Rattle.ev_model.specs.Time.{time_of}
use Rattle.ev_model.specs.declared.Stop.{Stop}
use Rattle.plan_check.specs.FleetRules.{IsCustomer}
use Rattle.frvcp_labels.specs.Answers.{HasNoneBelow}
use Rattle.order_pricing.specs.Orders.{IsLeastTime, IsOrder, route_over}
use Rattle.order_pricing.specs.Pricing.{HasNoTime}

outside : (g : Network) (x : ℕ) → IsCustomer g x → x ≢ 0
outside g x is home = false≢true (subst (λ n. is_customer g n ≡ true) home is.1)

at_head : (x y : ℕ) (xs : List ℕ) → y ≡ x → times_in (y ∷ xs) x ≡ 1 + times_in xs x
at_head x y xs same = rw (eq-eqb y x same) refl

apart : (g : Network) (x y : ℕ) (ys : List ℕ) → IsCustomer g x → times_in (x ∷ y ∷ ys) x ≤ 1 → y ≢ x
apart g x y ys is once same = omega (arith, once, at_head x x (y ∷ ys) refl, at_head x y ys same)

moves_from : (g : Network) (x : ℕ) (xs : List ℕ) → All (IsCustomer g) (x ∷ xs) → ((node : ℕ) → IsCustomer g node → times_in (x ∷ xs) node ≤ 1) → Moves (x ∷ xs ++ 0 ∷ [])
moves_from g x [] are once = ((λ home. outside g x (All-head (IsCustomer g) x [] are) (sym home)), tt)
moves_from g x (y ∷ ys) are once =
    let is = All-head (IsCustomer g) x (y ∷ ys) are in
    (apart g x y ys is (once x is), moves_from g y ys (All-tail (IsCustomer g) x (y ∷ ys) are) (λ node customer. omega (arith, once node customer)))

known_from : (g : Network) (xs : List ℕ) → All (IsCustomer g) xs → All (λ node. node < node_count g) xs
known_from g [] are = All-nil (λ node. node < node_count g)
known_from g (x ∷ xs) are = All-cons (λ node. node < node_count g) x xs (All-head (IsCustomer g) x xs are).0 (known_from g xs (All-tail (IsCustomer g) x xs are))

outside_from : (g : Network) (xs : List ℕ) → All (IsCustomer g) xs → All (λ node. node ≢ 0) xs
outside_from g [] are = All-nil (λ node. node ≢ 0)
outside_from g (x ∷ xs) are = All-cons (λ node. node ≢ 0) x xs (outside g x (All-head (IsCustomer g) x xs are)) (outside_from g xs (All-tail (IsCustomer g) x xs are))

pub known_order : (g : Network) (order : List ℕ) → IsOrder g order → All (λ node. node < node_count g) order
known_order g order is = known_from g order is.customers

pub route_of_order : (g : Network) (order : List ℕ) → IsNetwork g → IsOrder g order → order ≢ [] → IsRoute g (route_over order)
route_of_order g [] network is some = absurd (some refl)
route_of_order g (x ∷ xs) network is some =
    let depot : 0 < node_count g = omega (arith, network.depot) in
    let below = known_from g (x ∷ xs) is.customers in
    let end : All (λ node. node < node_count g) (0 ∷ []) = All-cons (λ node. node < node_count g) 0 [] depot (All-nil (λ node. node < node_count g)) in (
      x ∷ xs,
      record {
        ends = refl;
        known = All-cons (λ node. node < node_count g) 0 ((x ∷ xs) ++ 0 ∷ []) depot (All-append (λ node. node < node_count g) (x ∷ xs) (0 ∷ []) below end);
        no_depot = outside_from g (x ∷ xs) is.customers;
        moves = (outside g x (All-head (IsCustomer g) x xs is.customers), moves_from g x xs is.customers is.once);
      },
    )

pub least_of_plan : (g : Network) (order : List ℕ) (stops : List Stop) (time : ℕ) → order ≢ [] → IsFastest g (route_over order) g.capacity stops → time ≡ time_of g 1 g.capacity stops → IsLeastTime g order time
least_of_plan g [] stops time some is at = absurd (some refl)
least_of_plan g (x ∷ xs) stops time some is at = (stops, is, at)

pub least_of_none : (g : Network) (time : ℕ) (order : List ℕ) → order ≡ [] → time ≡ 0 → IsLeastTime g order time
least_of_none g time order none at = subst (λ l. IsLeastTime g l time) (sym none) at

pub no_time : (g : Network) (order : List ℕ) → HasNoTime g order → (time : ℕ) → IsLeastTime g order time → ⊥
no_time g [] none time least = none.some refl
no_time g (x ∷ xs) none time least = none.none 1 least.0 least.1.feasible least.1.follows

pub below_least : (g : Network) (order : List ℕ) (bound : ℕ) → order ≢ [] → ((stops : List Stop) → IsFeasible g 1 g.capacity stops → FollowsRoute (0 ∷ order ++ 0 ∷ []) stops → bound ≤ time_of g 1 g.capacity stops)
    → (time : ℕ) → IsLeastTime g order time → bound ≤ time
below_least g [] bound some below time least = absurd (some refl)
below_least g (x ∷ xs) bound some below time least = omega (arith, below least.0 least.1.feasible least.1.follows, least.2)

-- an order whose bound is past the limit has no least time
pub past_limit : (g : Network) (order : List ℕ) (bound other : ℕ) → order ≢ [] → ((stops : List Stop) → IsFeasible g 1 g.capacity stops → FollowsRoute (0 ∷ order ++ 0 ∷ []) stops → bound ≤ time_of g 1 g.capacity stops)
    → scaled_limit g < bound → (time : ℕ) → IsLeastTime g order time → other ≤ time
past_limit g [] bound other some below past time least = absurd (some refl)
past_limit g (x ∷ xs) bound other some below past time least = absurd (omega (arith, below least.0 least.1.feasible least.1.follows, least.1.feasible.in_time, past))

-- a plan that serves customers in an order takes no less than the least time
pub no_faster : (g : Network) (order : List ℕ) (time : ℕ) (stops : List Stop) → IsLeastTime g order time → IsFeasible g 1 g.capacity stops → FollowsRoute (route_over order) stops → time ≤ time_of g 1 g.capacity stops
no_faster g [] time stops least feasible follows = omega (arith, least)
no_faster g (x ∷ xs) time stops least feasible follows = omega (arith, least.2, least.1.fastest 1 stops feasible follows)

-- where no plan is below a bar, the least time isn't
pub none_below : (g : Network) (order : List ℕ) (bar : ℕ) → HasNoneBelow g (route_over order) g.capacity bar → order ≢ [] → (time : ℕ) → IsLeastTime g order time → bar ≤ time
none_below g [] bar none some time least = absurd (some refl)
none_below g (x ∷ xs) bar none some time least = let late = none 1 least.0 least.1.feasible least.1.follows in omega (arith, late, least.2)
