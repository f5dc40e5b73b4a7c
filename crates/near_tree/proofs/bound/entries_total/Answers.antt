use Rattle.std.proofs.Common.{◌≡◌, ◌+◌, ◌*◌, ◌<◌, ◌≤◌, ◌^◌, pos, ◌+ℤ◌, length, arith, rules, sym, subst, unsigned_abs, FitsSigned, to_z, of_z, get_or}
use Rattle.std.specs.Int.{w128}
use Rattle.std.specs.Int.Signed.{lt_z}
use Rattle.std.specs.Prelude.{◌*ℤ◌, if◌then◌else◌, slice_index_or}
use Rattle.std.proofs.lemmas.Int.{ints, to_z-of_z}
use Rattle.near_tree.proofs.LeafSums.{total_end, total_step}
use Rattle.near_tree.proofs.bound.entries_total.Goals as goal

pub loop-i-preserved : goal.loop-i-preserved
loop-i-preserved c =
    let cs = c.args.counted.now in
    let ps = c.args.prices.now in
    let i = c.loop-i.i in
    let e = c.least_earned-sum.result in
    let less : i < length cs = c.loop-i-test.true in
    let low : i < length ps = omega (arith, less, c.requires.one) in
    let fits : FitsSigned w128 e = search rules in
    let size : unsigned_abs e ≤ 2 ^ 93 = c.least_earned-sum.ensures.small in
    let before_small : unsigned_abs (to_z w128 c.loop-i.sum-bits) ≤ i * 2 ^ 93 = c.loop-i.invariant.small in
    let few : length cs ≤ 64 = c.requires.few in
    let before = c.loop-i.invariant.sum in
    let step = total_step cs ps i c.index-counted-i.result less c.index-counted-i.is low in
    let same : to_z w128 (of_z w128 (to_z w128 c.loop-i.sum-bits +ℤ to_z w128 (of_z w128 e))) ≡ to_z w128 c.loop-i.sum-bits +ℤ e = omega (arith, ints) in
    let price : FitsSigned w128 (slice_index_or ps i (pos 0)) = search rules in
    let value : e ≡ get_or ps i (pos 0) *ℤ pos (if lt_z (pos 0) (get_or ps i (pos 0)) then c.index-counted-i.result.least else c.index-counted-i.result.most) =
    simp to_z-of_z at c.least_earned-sum.ensures.value in
    record {
      sum = omega (arith, ints, same, step, before, value);
      small = subst (λ z. unsigned_abs z ≤ (i + 1) * 2 ^ 93) (sym same) (omega (arith, ints, size, before_small));
    }

pub overflow_add-sum : goal.overflow_add-sum
overflow_add-sum c =
    let e = c.least_earned-sum.result in
    let fits : FitsSigned w128 e = search rules in
    let size : unsigned_abs e ≤ 2 ^ 93 = c.least_earned-sum.ensures.small in
    let before_small : unsigned_abs (to_z w128 c.loop-i.sum-bits) ≤ c.loop-i.i * 2 ^ 93 = c.loop-i.invariant.small in
    let few : length c.args.counted.now ≤ 64 = c.requires.few in
    let below : c.loop-i.i < length c.args.counted.now = c.loop-i-test.true in
    omega (arith, ints)

pub returns : goal.returns
returns c =
    let nothing = total_end c.args.counted.now c.args.prices.now c.loop-i.i c.loop-i-test.false in
    let all = c.loop-i.invariant.sum in
    let before_small : unsigned_abs (to_z w128 c.loop-i.sum-bits) ≤ c.loop-i.i * 2 ^ 93 = c.loop-i.invariant.small in
    let few : length c.args.counted.now ≤ 64 = c.requires.few in
    let end = c.loop-i.auto.i-end in
    record {
      value = omega (arith, ints, all, nothing);
      small = omega (arith, before_small, few, end);
    }
