use Rattle.std.proofs.Common.{◌≡◌, ◌∙◌, ◌+◌, ◌*◌, ◌<◌, ◌≤◌, ◌^◌, pos, ◌+ℤ◌, length, arith, rules, sym, ap, subst, unsigned_abs, FitsSigned, to_z, of_z, get_or}
use Rattle.std.specs.Int.{w128}
use Rattle.std.specs.Prelude.{slice_index_or}
use Rattle.std.proofs.lemmas.Int.{ints, to_z-of_z}
use Rattle.near_tree.specs.Follows.{entry_earned}
use Rattle.near_tree.specs.Lasts.{last_at}
use Rattle.near_tree.specs.declared.counted.CountedSet.{CountedSet}
use Rattle.near_tree.proofs.LeafSums.{earned_step}
use Rattle.near_tree.proofs.site.entries_earned.Goals as goal

pub loop-i-preserved : goal.loop-i-preserved
loop-i-preserved c =
    let cs = c.args.counted.now in
    let ps = c.args.prices.now in
    let i = c.loop-i.i in
    let e = c.entry_earned-sum.result in
    let less : i < length cs = c.loop-i-test.true in
    let low : i < length ps = omega (arith, less, c.requires.one) in
    let fits : FitsSigned w128 e = search rules in
    let size : unsigned_abs e ≤ 2 ^ 84 = c.entry_earned-sum.ensures.small in
    let before_small : unsigned_abs (to_z w128 c.loop-i.sum-bits) ≤ i * 2 ^ 84 = c.loop-i.invariant.small in
    let few : length cs ≤ 64 = c.requires.few in
    let before = c.loop-i.invariant.sum in
    let step = earned_step cs ps i c.index-counted-i.result less c.index-counted-i.is low (last_at c.args.customers c.args.last) c.args.next in
    let same : to_z w128 (of_z w128 (to_z w128 c.loop-i.sum-bits +ℤ to_z w128 (of_z w128 e))) ≡ to_z w128 c.loop-i.sum-bits +ℤ e = omega (arith, ints) in
    let price : FitsSigned w128 (slice_index_or ps i (pos 0)) = search rules in
    let value : c.entry_earned-sum.result ≡ entry_earned c.index-counted-i.result.set (get_or c.args.prices.now c.loop-i.i (pos 0)) (last_at c.args.customers c.args.last) c.args.next =
    (simp to_z-of_z at c.entry_earned-sum.ensures.value) ∙ ap (λ (d : CountedSet). entry_earned d.set (get_or c.args.prices.now c.loop-i.i (pos 0)) (last_at c.args.customers c.args.last) c.args.next) (sym c.index-counted-i.is) in
    record {
      sum = omega (arith, ints, same, step, before, value);
      small = subst (λ z. unsigned_abs z ≤ (i + 1) * 2 ^ 84) (sym same) (omega (arith, ints, size, before_small));
    }
