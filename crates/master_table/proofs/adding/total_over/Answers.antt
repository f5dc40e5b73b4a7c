use Rattle.std.proofs.Common.{◌≡◌, ◌∙◌, ◌+◌, ◌*◌, ◌<◌, ◌≤◌, ◌^◌, pos, ◌+ℤ◌, cond, get_or, length, drop, arith, rules, ap, sym, subst, unsigned_abs, FitsSigned, to_z, of_z}
use Rattle.std.proofs.lemmas.Grind.{common_steps}
use Rattle.std.specs.Int.{w128}
use Rattle.std.proofs.lemmas.Int.{ints, to_z-of_z}
use Rattle.fleet_model.specs.Equations.{serves, route, total_from}
use Rattle.master_table.proofs.Added.{cond_small, total_step}
use Rattle.master_table.proofs.adding.total_over.Goals as goal

pub loop-c-preserved : goal.loop-c-preserved
loop-c-preserved c =
    let s = serves (route c.args.set 0) in
    let xs = c.args.multipliers.now in
    let at = c.loop-c.c in
    let in_xs : FitsSigned w128 (get_or xs at (pos 0)) = search rules in
    let part : c.number_if_in-sum.result ≡ cond (s at) (get_or xs at (pos 0)) (pos 0) = simp to_z-of_z at c.number_if_in-sum.ensures in
    let size = c.requires.small at (pos 0) c.loop-c-test.true in
    let part_small : unsigned_abs c.number_if_in-sum.result ≤ 2 ^ 84 = subst (λ z. unsigned_abs z ≤ 2 ^ 84) (sym part) (cond_small (s at) (get_or xs at (pos 0)) (2 ^ 84) size) in
    let before_small : unsigned_abs (to_z w128 c.loop-c.sum-bits) ≤ at * 2 ^ 84 = c.loop-c.invariant.small in
    let few : length xs ≤ 128 = c.requires.count in
    let below : at < length xs = c.loop-c-test.true in
    let room : at * 2 ^ 84 ≤ 127 * 2 ^ 84 = omega arith in
    let fits : FitsSigned w128 c.number_if_in-sum.result = search rules in
    let same : to_z w128 (of_z w128 (to_z w128 c.loop-c.sum-bits +ℤ to_z w128 (of_z w128 c.number_if_in-sum.result))) ≡ to_z w128 c.loop-c.sum-bits +ℤ c.number_if_in-sum.result = omega (arith, ints) in
    record {
      sum = ap (λ z. z +ℤ total_from s (at + 1) (drop (at + 1) xs)) same ∙ total_step s at xs (to_z w128 c.loop-c.sum-bits) c.number_if_in-sum.result (total_from s 0 xs) below part c.loop-c.invariant.sum;
      small = subst (λ z. unsigned_abs z ≤ (at + 1) * 2 ^ 84) (sym same) (omega (arith, ints));
    }

pub overflow_add-sum : goal.overflow_add-sum
overflow_add-sum = grind (arith, common_steps)
