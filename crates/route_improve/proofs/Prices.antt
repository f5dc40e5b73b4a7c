-- Least times are unique, so what lists cost is what routes of these lists take.
use Rattle.std.proofs.Common.{◌≡◌, ◌∙◌, ℕ, zero, suc, ◌<◌, List, [], ◌∷◌, length, get_or, refl, sym, arith, sum}
use Rattle.std.specs.List.{All}
use Rattle.std.proofs.lemmas.List.Elements.{All-head, All-tail}
use Rattle.std.proofs.lemmas.List.Sums.{sum_by-cons}
use Rattle.ev_model.specs.Network.{Network}
use Rattle.order_pricing.specs.Orders.{IsLeastTime}
use Rattle.route_improve.specs.Orders.{AreLeastTimes}
use Rattle.route_improve.specs.Routes.{cost_of_routes, lists_of}
use Rattle.route_improve.specs.declared.route.Route.{Route}

-- each route takes the least time of its order
abbrev pub TakesLeast : Network → Route → Type 0
TakesLeast g r = IsLeastTime g r.order.items r.time

pub least_once : (g : Network) (order : List ℕ) (s t : ℕ) → IsLeastTime g order s → IsLeastTime g order t → s ≡ t
least_once g [] s t one other = one ∙ sym other
least_once g (x ∷ xs) s t one other =
    let below = one.1.fastest 1 other.0 other.1.feasible other.1.follows in
    let above = other.1.fastest 1 one.0 one.1.feasible one.1.follows in
    omega (arith, one.2, other.2, below, above)

pub priced : (g : Network) (routes : List Route) (times : List ℕ) → All (TakesLeast g) routes → AreLeastTimes g (lists_of routes) times → sum times ≡ cost_of_routes routes
priced g [] [] least are = refl
priced g [] (t ∷ ts) least are = absurd are
priced g (r ∷ rs) [] least are = absurd are
priced g (r ∷ rs) (t ∷ ts) least are =
    let here : t ≡ r.time = least_once g r.order.items t r.time are.0 (All-head (TakesLeast g) r rs least) in
    let rest = priced g rs ts (All-tail (TakesLeast g) r rs least) are.1 in
    let more = sum_by-cons (λ (q : Route). q.time) r rs in
    omega (arith, here, rest, more, sum_by-cons (λ x. x) t ts)

pub least_at : (g : Network) (lists : List (List ℕ)) (times : List ℕ) (k : ℕ) → AreLeastTimes g lists times → k < length lists → IsLeastTime g (get_or lists k []) (get_or times k 0)
least_at g [] times k are within = absurd (omega (arith, within))
least_at g (o ∷ os) [] k are within = absurd are
least_at g (o ∷ os) (t ∷ ts) zero are within = are.0
least_at g (o ∷ os) (t ∷ ts) (suc k) are within = least_at g os ts k are.1 (omega (arith, within))
