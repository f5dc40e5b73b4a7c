-- The order of the routes of a plan doesn't matter.
use Rattle.std.proofs.Common.{◌≡◌, ◌≢◌, ◌∙◌, ℕ, ◌<◌, List, [], ◌∷◌, length, refl, sym, arith, sum_by}
use Rattle.std.specs.List.Sorted.{IsPermutation}
use Rattle.std.proofs.lemmas.List.Sums.{sum_by-cons}
use Rattle.std.proofs.lemmas.List.Sorted.{All-permutation, IsPermutation-map, sum_by-IsPermutation}
use Rattle.ev_model.specs.Fleet.{customers_of, ServesOnly}
use Rattle.ev_model.specs.Network.{Network}
use Rattle.set_partitioning.proofs.RouteOrders.{permuted_times}
use Rattle.mixed_model.specs.Kinds.{first_of}
use Rattle.mixed_model.specs.Plans.{IsFeasibleIn, IsMixedPlan, KindPlan, mixed_cost, plain_plans, time_in}

cost_summed : (kinds : List Network) (k : ℕ) (plans : List KindPlan) → mixed_cost kinds k plans ≡ sum_by (time_in kinds k) plans
cost_summed kinds k [] = refl
cost_summed kinds k (p ∷ ps) =
    let more = sum_by-cons (time_in kinds k) p ps in
    omega (arith, cost_summed kinds k ps, more)

pub permuted_cost : (kinds : List Network) (k : ℕ) (xs ys : List KindPlan) → IsPermutation xs ys → mixed_cost kinds k ys ≡ mixed_cost kinds k xs
permuted_cost kinds k xs ys same = cost_summed kinds k ys ∙ sum_by-IsPermutation (time_in kinds k) xs ys same ∙ sym (cost_summed kinds k xs)

pub permuted_plan : (kinds : List Network) (k : ℕ) (xs ys : List KindPlan) → IsPermutation xs ys → IsMixedPlan kinds k xs → IsMixedPlan kinds k ys
permuted_plan kinds k xs ys same plan = record {
  known = All-permutation (λ (p : KindPlan). p.kind < length kinds) xs ys same plan.known;
  feasible = All-permutation (IsFeasibleIn kinds k) xs ys same plan.feasible;
  some = All-permutation (λ (p : KindPlan). customers_of (first_of kinds) p.stops ≢ []) xs ys same plan.some;
  only = All-permutation (λ (p : KindPlan). ServesOnly (first_of kinds) p.stops) xs ys same plan.only;
  once = λ node known is.
      permuted_times (first_of kinds) node (plain_plans xs) (plain_plans ys) (IsPermutation-map (λ (p : KindPlan). p.stops) xs ys same) ∙ plan.once node known is;
}
