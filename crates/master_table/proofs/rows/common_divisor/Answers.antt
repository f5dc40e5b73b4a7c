use Rattle.std.proofs.Common.{◌≡◌, ◌≤◌, arith, rules, drop, get_or, pos, length, sym, subst, refl, [], drop_of_length-le, FitsSigned, unsigned_abs, to_z, of_z}
use Rattle.std.specs.Int.{w128, IsGcd}
use Rattle.std.proofs.lemmas.Int.{to_z-of_z}
use Rattle.master_table.proofs.Divided.{IsGcdWith, IsGcdWith-more, IsGcdWith-end, IsGcdWith-one, gcd_with}
use Rattle.master_table.proofs.rows.common_divisor.Goals as goal

pub loop-x-preserved : goal.loop-x-preserved
loop-x-preserved c g h =
    let fits : FitsSigned w128 (get_or c.args.xs.now c.loop-x.x-index (pos 0)) = search rules in
    let is : c.unsigned_abs.result ≡ unsigned_abs (get_or c.args.xs.now c.loop-x.x-index (pos 0)) = simp to_z-of_z at c.unsigned_abs.ensures.value in
    let step : IsGcd (unsigned_abs (get_or c.args.xs.now c.loop-x.x-index (pos 0))) c.loop-x.found c.gcd-found.result = subst (λ n. IsGcd n c.loop-x.found c.gcd-found.result) is c.gcd-found.ensures.greatest in
    c.loop-x.invariant g (IsGcdWith-more _ _ g c.loop-x.x-index c.args.xs.now (omega arith) step h)

pub returns-then-found-eq1 : goal.returns-then-found-eq1
returns-then-found-eq1 c =
    let first : FitsSigned w128 c.args.first = c.ranges.first in
    let e : to_z w128 (of_z w128 c.args.first) ≡ c.args.first = simp to_z-of_z refl in
    let one = subst (λ n. IsGcdWith n (drop c.loop-x.x-index c.args.xs.now) 1) (sym c.if-found-eq1.true) (IsGcdWith-one (drop c.loop-x.x-index c.args.xs.now)) in
    gcd_with c.args.first c.args.xs.now 1 (subst (λ z. IsGcdWith (unsigned_abs z) c.args.xs.now 1) e (c.loop-x.invariant 1 one))

pub returns : goal.returns
returns c =
    let first : FitsSigned w128 c.args.first = c.ranges.first in
    let e : to_z w128 (of_z w128 c.args.first) ≡ c.args.first = simp to_z-of_z refl in
    let past : length c.args.xs.now ≤ c.loop-x.x-index = omega arith in
    let none : drop c.loop-x.x-index c.args.xs.now ≡ [] = drop_of_length-le c.args.xs.now past in
    let all = c.loop-x.invariant c.loop-x.found (subst (λ zs. IsGcdWith c.loop-x.found zs c.loop-x.found) (sym none) (IsGcdWith-end c.loop-x.found)) in
    gcd_with c.args.first c.args.xs.now c.loop-x.found (subst (λ z. IsGcdWith (unsigned_abs z) c.args.xs.now c.loop-x.found) e all)
