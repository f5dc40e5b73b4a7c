-- The helper list at the end of the first phase is a ray where helpers still have shares.
use Rattle.std.proofs.Common.{◌≡◌, ◌∙◌, ℕ, ◌+◌, ◌*◌, ◌<◌, ◌≤◌, arith, refl, ap, subst, pos, ◌*ℤ◌, ◌<ℤ◌, ◌≤ℤ◌, cond, nat_lt, lt-ltb, le-ltb, [], length}
use Rattle.std.proofs.lemmas.Int.{ints}
use Rattle.fleet_model.specs.Equations.{column_at, cost_of, entry}
use Rattle.master_table.specs.Tableau.{IsTableau, Tableau, charge, row_at, size}
use Rattle.master_simplex.specs.Answer.{IsRay}
use Rattle.master_simplex.specs.Phase.{HasNoGain}
use Rattle.master_simplex.specs.Sharing.{numbers}
use Rattle.master_simplex.specs.declared.phase.Goal.TheVariants.{Helpers}
use Rattle.master_simplex.proofs.SomeEntry.{entry_is}

pub ray_is : (t : Tableau) → IsTableau t → HasNoGain Helpers t → pos 0 <ℤ (row_at t (size t + 1)).right → IsRay t 0 (numbers Helpers t) 0 []
ray_is t h none above = record {
  weightless = refl;
  priced = record { whole = h.helper_list.list.whole; paid = λ j added. paid j added.0 added.1 };
  above = subst (λ z. pos 0 <ℤ z) (h.spelled (size t + 1) (omega arith)).right above;
  nowhere = refl;
  empty = refl;
}
  where
    paid : (j : ℕ) → size t ≤ j → j < length t.columns → entry (numbers Helpers t) (column_at t.columns j) ≤ℤ pos (0 * cost_of (column_at t.columns j))
    paid j added inside =
        let b = column_at t.columns j in
        let v = (row_at t (size t + 1)).weight in
        let at = entry_is t h j added inside (size t + 1) (omega arith) in
        let q : charge (size t) (size t + 1) b ≡ pos 0 = ap (λ u. cond u (pos 0) (pos (cost_of b))) (lt-ltb (size t) (size t + 1) (omega arith)) in
        let f : v *ℤ charge (size t) (size t + 1) b ≡ pos 0 = ap (λ z. v *ℤ z) q ∙ omega (arith, ints) in
        let g : cond (nat_lt j (size t)) v (pos 0) ≡ pos 0 = ap (λ u. cond u v (pos 0)) (le-ltb j (size t) added) in
        let gained = none j added inside in
        let nothing : 0 * cost_of b ≡ 0 = omega arith in
        omega (arith, ints)
