use Rattle.std.proofs.Common.{rules, arith, ◌≡◌, ◌+ℤ◌, pos, to_z, of_z, FitsSigned}
use Rattle.std.proofs.lemmas.Int.{ints, to_z-of_z}
use Rattle.std.specs.Int.{int_div_euclid, int_rem_euclid, w128}
use Rattle.ev_units.proofs.Division.{IsFloor-div_euclid, IsCeiling-from_whole, IsCeiling-from_floor, div_euclid-rem_euclid}
use Rattle.ev_units.specs.Units.{IsFloor}
use Rattle.ev_units.proofs.ceil_div.Goals as goal

pub returns-then-rem_euclid-eq0 : goal.returns-then-rem_euclid-eq0
returns-then-rem_euclid-eq0 c =
    let fits : FitsSigned w128 c.div_euclid-floor.result = search rules in
    let given : FitsSigned w128 c.args.a = c.ranges.a in
    let wide : FitsSigned w128 c.from.result = search rules in
    let again : FitsSigned w128 c.from-2.result = search rules in
    let quotient : c.div_euclid-floor.result ≡ int_div_euclid c.args.a (pos c.args.b) = rw c.from.ensures at (simp to_z-of_z at c.div_euclid-floor.ensures) in
    let rest : c.rem_euclid.result ≡ int_rem_euclid c.args.a (pos c.args.b) = rw c.from-2.ensures at (simp to_z-of_z at c.rem_euclid.ensures.value) in
    let parts = div_euclid-rem_euclid c.args.a c.args.b c.requires in
    rw to_z-of_z (IsCeiling-from_whole _ _ _ c.requires (rw quotient (grind (arith, ints))))

pub returns-else-rem_euclid-eq0 : goal.returns-else-rem_euclid-eq0
returns-else-rem_euclid-eq0 c =
    let fits : FitsSigned w128 c.div_euclid-floor.result = search rules in
    let given : FitsSigned w128 c.args.a = c.ranges.a in
    let wide : FitsSigned w128 c.from.result = search rules in
    let again : FitsSigned w128 c.from-2.result = search rules in
    let quotient : c.div_euclid-floor.result ≡ int_div_euclid c.args.a (pos c.args.b) = rw c.from.ensures at (simp to_z-of_z at c.div_euclid-floor.ensures) in
    let rest : c.rem_euclid.result ≡ int_rem_euclid c.args.a (pos c.args.b) = rw c.from-2.ensures at (simp to_z-of_z at c.rem_euclid.ensures.value) in
    let parts = div_euclid-rem_euclid c.args.a c.args.b c.requires in
    let floor : IsFloor c.args.a c.args.b c.div_euclid-floor.result = rw quotient (IsFloor-div_euclid _ _ c.requires) in
    let next : FitsSigned w128 (c.div_euclid-floor.result +ℤ pos 1) = search rules in
    let sum : to_z w128 (of_z w128 (to_z w128 (of_z w128 c.div_euclid-floor.result) +ℤ to_z w128 1)) ≡ c.div_euclid-floor.result +ℤ pos 1 = omega (arith, ints) in
    rw sum (IsCeiling-from_floor _ _ _ floor (λ whole. c.if-rem_euclid-eq0.false (let product = rw (← quotient) at parts in grind (arith, ints))))
