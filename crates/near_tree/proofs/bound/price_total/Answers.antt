use Rattle.std.proofs.Common.{◌≡◌, ◌+◌, ◌*◌, ◌<◌, ◌≤◌, ◌^◌, pos, ◌+ℤ◌, length, drop, arith, rules, sym, subst, unsigned_abs, FitsSigned, to_z, of_z}
use Rattle.std.specs.Int.{w128}
use Rattle.std.specs.Prelude.{slice_index_or}
use Rattle.std.proofs.lemmas.Int.{ints}
use Rattle.fleet_model.specs.Prices.{price_total}
use Rattle.near_tree.proofs.PriceSums.{sum_end, sum_step}
use Rattle.near_tree.proofs.bound.price_total.Goals as goal

pub loop-c-preserved : goal.loop-c-preserved
loop-c-preserved c =
    let xs = c.args.prices.now in
    let at = c.loop-c.c in
    let fits : FitsSigned w128 (slice_index_or xs at (pos 0)) = search rules in
    let size : unsigned_abs (slice_index_or xs at (pos 0)) ≤ 2 ^ 84 = c.requires.small at (pos 0) c.loop-c-test.true in
    let before_small : unsigned_abs (to_z w128 c.loop-c.sum-bits) ≤ at * 2 ^ 84 = c.loop-c.invariant.small in
    let few : length xs ≤ 400 = c.requires.few in
    let below : at < length xs = c.loop-c-test.true in
    let before = c.loop-c.invariant.sum in
    let step : price_total (drop at xs) ≡ slice_index_or xs at (pos 0) +ℤ price_total (drop (at + 1) xs) = sum_step xs at below in
    let same : to_z w128 (of_z w128 (to_z w128 c.loop-c.sum-bits +ℤ to_z w128 (of_z w128 (slice_index_or xs at (pos 0))))) ≡ to_z w128 c.loop-c.sum-bits +ℤ slice_index_or xs at (pos 0) = omega (arith, ints) in
    record {
      sum = omega (arith, ints, same, step, before);
      small = subst (λ z. unsigned_abs z ≤ (at + 1) * 2 ^ 84) (sym same) (omega (arith, ints, size, before_small));
    }

pub overflow_add-sum : goal.overflow_add-sum
overflow_add-sum c =
    let xs = c.args.prices.now in
    let at = c.loop-c.c in
    let fits : FitsSigned w128 (slice_index_or xs at (pos 0)) = search rules in
    let size : unsigned_abs (slice_index_or xs at (pos 0)) ≤ 2 ^ 84 = c.requires.small at (pos 0) c.loop-c-test.true in
    let before_small : unsigned_abs (to_z w128 c.loop-c.sum-bits) ≤ at * 2 ^ 84 = c.loop-c.invariant.small in
    let few : length xs ≤ 400 = c.requires.few in
    let below : at < length xs = c.loop-c-test.true in
    omega (arith, ints)

pub returns : goal.returns
returns c =
    let xs = c.args.prices.now in
    let nothing : price_total (drop c.loop-c.c xs) ≡ pos 0 = sum_end xs c.loop-c.c c.loop-c-test.false in
    let all = c.loop-c.invariant.sum in
    let before_small : unsigned_abs (to_z w128 c.loop-c.sum-bits) ≤ c.loop-c.c * 2 ^ 84 = c.loop-c.invariant.small in
    let few : length xs ≤ 400 = c.requires.few in
    let end = c.loop-c.auto.c-end in
    record {
      value = omega (arith, ints, all, nothing);
      small = omega (arith, before_small, few, end);
    }
