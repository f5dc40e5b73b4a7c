-- The searches of the rules of a route, at their ends.
use Rattle.std.proofs.Common.{◌≡◌, ◌∙◌, ℕ, ◌+◌, ◌-◌, ◌≤◌, ◌&&◌, List, [], ◌∷◌, length, length-drop, get_or, drop, nat_eq, refl, None, ap, arith}
use Rattle.route_plan.specs.RouteRules.{first_again, has_ends, is_depot}
use Rattle.route_plan.proofs.Ends.{ends_pass-two}

one_has_no_again : (at : ℕ) (ns : List ℕ) → length ns ≤ 1 → first_again at ns ≡ None
one_has_no_again at [] le = refl
one_has_no_again at (n ∷ []) le = refl
one_has_no_again at (n ∷ m ∷ ns) le = absurd (omega (arith, le))

pub first_again-end : (nodes : List ℕ) (n at : ℕ) → length nodes ≤ at + 1 → first_again n (drop at nodes) ≡ None
first_again-end nodes n at le = one_has_no_again n (drop at nodes) (omega (arith, length-drop at nodes, le))

-- at least two nodes, of which the first is the depot
pub has_ends-last : (nodes : List ℕ) → 2 ≤ length nodes → get_or nodes 0 0 ≡ 0 → has_ends nodes ≡ nat_eq (get_or nodes (length nodes - 1) 0) 0
has_ends-last nodes two begins = ends_pass-two is_depot nodes 0 two ∙ ap (λ n. nat_eq n 0 && nat_eq (get_or nodes (length nodes - 1) 0) 0) begins
