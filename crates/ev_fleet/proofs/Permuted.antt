-- The order of the routes of a fleet plan doesn't matter.
use Rattle.std.proofs.Common.{◌≡◌, ◌≢◌, ◌∙◌, ℕ, List, [], ◌∷◌, refl, sym, arith, sum_by}
use Rattle.std.specs.List.Sorted.{IsPermutation}
use Rattle.std.proofs.lemmas.List.Sums.{sum_by-cons}
use Rattle.std.proofs.lemmas.List.Sorted.{All-permutation, sum_by-IsPermutation}
use Rattle.ev_model.specs.Feasible.{IsFeasible}
use Rattle.ev_model.specs.Fleet.{IsFleetPlan, ServesOnly, cost_of, customers_of}
use Rattle.ev_model.specs.Network.{Network}
use Rattle.ev_model.specs.Time.{time_of}
use Rattle.ev_model.specs.declared.Stop.{Stop}
use Rattle.set_partitioning.proofs.RouteOrders.{permuted_times}

cost_summed : (g : Network) (k : ℕ) (plans : List (List Stop)) → cost_of g k plans ≡ sum_by (λ stops. time_of g k g.capacity stops) plans
cost_summed g k [] = refl
cost_summed g k (p ∷ ps) =
    let more = sum_by-cons (λ stops. time_of g k g.capacity stops) p ps in
    omega (arith, cost_summed g k ps, more)

pub permuted_cost : (g : Network) (k : ℕ) (xs ys : List (List Stop)) → IsPermutation xs ys → cost_of g k ys ≡ cost_of g k xs
permuted_cost g k xs ys same = cost_summed g k ys ∙ sum_by-IsPermutation (λ stops. time_of g k g.capacity stops) xs ys same ∙ sym (cost_summed g k xs)

pub permuted_fleet : (g : Network) (k : ℕ) (xs ys : List (List Stop)) → IsPermutation xs ys → IsFleetPlan g k xs → IsFleetPlan g k ys
permuted_fleet g k xs ys same fleet = record {
  feasible = All-permutation (IsFeasible g k g.capacity) xs ys same fleet.feasible;
  some = All-permutation (λ stops. customers_of g stops ≢ []) xs ys same fleet.some;
  only = All-permutation (ServesOnly g) xs ys same fleet.only;
  once = λ node known is. permuted_times g node xs ys same ∙ fleet.once node known is;
}
