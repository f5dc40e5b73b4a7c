use Rattle.std.proofs.Common.{◌≡◌, ◌∙◌, ◌+◌, ◌*◌, ◌<◌, ◌≤◌, ◌^◌, pos, ◌+ℤ◌, cond, get_or, length, drop, [], arith, rules, ap, sym, subst, unsigned_abs, FitsSigned, to_z, of_z}
use Rattle.std.specs.Int.{w128}
use Rattle.std.proofs.Math.ListN.{drop_of_length-le}
use Rattle.std.proofs.lemmas.Int.{ints}
use Rattle.customer_sets.specs.CustSet.{has}
use Rattle.fleet_model.specs.Equations.{total_from}
use Rattle.fleet_model.proofs.PriceSums.{price_sum_is_total}
use Rattle.fleet_model.proofs.Totals.{total_step}
use Rattle.closed_lists.proofs.paid.price_sum.Goals.{then-has, else-has}
use Rattle.closed_lists.proofs.paid.price_sum.Goals as goal

pub loop-c-preserved : goal.loop-c-preserved
loop-c-preserved c =
    let s = has c.args.set in
    let xs = c.args.prices.now in
    let at = c.loop-c.c in
    let price = get_or xs at (pos 0) in
    let size : unsigned_abs price ≤ 2 ^ 84 = c.requires.small at (pos 0) c.loop-c-test.true in
    let before_small : unsigned_abs (to_z w128 c.loop-c.sum-bits) ≤ at * 2 ^ 84 = c.loop-c.invariant.small in
    let few : length xs ≤ 128 = c.requires.few in
    let below : at < length xs = c.loop-c-test.true in
    let room : at * 2 ^ 84 ≤ 127 * 2 ^ 84 = omega arith in
    elim c.if-has.branch [
      | then-has w ↦
          let fits : FitsSigned w128 price = search rules in
          let part : price ≡ cond (s at) price (pos 0) = ap (λ b. cond b price (pos 0)) w.if-has.ensures.value in
          let same : to_z w128 (of_z w128 (to_z w128 c.loop-c.sum-bits +ℤ to_z w128 (of_z w128 price))) ≡ to_z w128 c.loop-c.sum-bits +ℤ price = omega (arith, ints) in
          let next = w.sum-is ∙ same in
          record {
            sum = ap (λ z. z +ℤ total_from s (at + 1) (drop (at + 1) xs)) next ∙ total_step s at xs (to_z w128 c.loop-c.sum-bits) price (total_from s 0 xs) below part c.loop-c.invariant.sum;
            small = subst (λ z. unsigned_abs z ≤ (at + 1) * 2 ^ 84) (sym next) (omega (arith, ints));
          }
      | else-has w ↦
          let none : pos 0 ≡ cond (s at) price (pos 0) = ap (λ b. cond b price (pos 0)) w.if-has.ensures.value in
          let next : to_z w128 c.if-has.sum-bits ≡ to_z w128 c.loop-c.sum-bits +ℤ pos 0 = omega (arith, ints, w.sum-is) in
          record {
            sum = ap (λ z. z +ℤ total_from s (at + 1) (drop (at + 1) xs)) next ∙ total_step s at xs (to_z w128 c.loop-c.sum-bits) (pos 0) (total_from s 0 xs) below none c.loop-c.invariant.sum;
            small = subst (λ z. unsigned_abs z ≤ (at + 1) * 2 ^ 84) (sym w.sum-is) (omega (arith, before_small));
          }
    ]

pub overflow_add-sum : goal.overflow_add-sum
overflow_add-sum c =
    let xs = c.args.prices.now in
    let at = c.loop-c.c in
    let price = get_or xs at (pos 0) in
    let size : unsigned_abs price ≤ 2 ^ 84 = c.requires.small at (pos 0) c.loop-c-test.true in
    let before_small : unsigned_abs (to_z w128 c.loop-c.sum-bits) ≤ at * 2 ^ 84 = c.loop-c.invariant.small in
    let few : length xs ≤ 128 = c.requires.few in
    let below : at < length xs = c.loop-c-test.true in
    let fits : FitsSigned w128 price = search rules in
    omega (arith, ints)

pub returns : goal.returns
returns c =
    let s = has c.args.set in
    let xs = c.args.prices.now in
    let none : drop c.loop-c.c xs ≡ [] = drop_of_length-le xs c.loop-c-test.false in
    let nothing : total_from s c.loop-c.c (drop c.loop-c.c xs) ≡ pos 0 = ap (total_from s c.loop-c.c) none in
    let all = c.loop-c.invariant.sum in
    let whole : to_z w128 c.loop-c.sum-bits ≡ total_from s 0 xs = omega (arith, ints, all, nothing) in
    let before_small : unsigned_abs (to_z w128 c.loop-c.sum-bits) ≤ c.loop-c.c * 2 ^ 84 = c.loop-c.invariant.small in
    let few : length xs ≤ 128 = c.requires.few in
    let end = c.loop-c.auto.c-end in
    record {
      value = whole ∙ sym (price_sum_is_total xs c.args.set c.len.ensures.set);
      small = omega (arith, before_small, few, end);
    }
