-- The order of the routes of a plan doesn't matter for how often a customer is served.
use Rattle.std.proofs.Common.{◌≡◌, ◌∙◌, ℕ, List, [], ◌∷◌, refl, sym, arith, sum_by}
use Rattle.std.specs.List.Sorted.{IsPermutation}
use Rattle.std.proofs.lemmas.List.Sums.{sum_by-cons}
use Rattle.std.proofs.lemmas.List.Sorted.{sum_by-IsPermutation}
use Rattle.ev_model.specs.Fleet.{all_customers, customers_of, times_in}
use Rattle.ev_model.specs.Network.{Network}
use Rattle.ev_model.specs.declared.Stop.{Stop}
use Rattle.fleet_model.proofs.Counts.{times_append}

module _ (g : Network) (x : ℕ) where
  abbrev times_by : List Stop → ℕ
  times_by stops = times_in (customers_of g stops) x

  times_summed : (plans : List (List Stop)) → times_in (all_customers g plans) x ≡ sum_by times_by plans
  times_summed [] = refl
  times_summed (p ∷ ps) =
      let more = sum_by-cons times_by p ps in
      omega (arith, times_append (customers_of g p) (all_customers g ps) x, times_summed ps, more)

  pub permuted_times : (xs ys : List (List Stop)) → IsPermutation xs ys → times_in (all_customers g ys) x ≡ times_in (all_customers g xs) x
  permuted_times xs ys same = times_summed ys ∙ sum_by-IsPermutation times_by xs ys same ∙ sym (times_summed xs)
