-- Where places stand on a map: the program holds it.
use Rattle.std.proofs.Common.{◌≡◌, ℕ, ◌-◌, ◌*◌, ◌/◌, ◌^◌, ◌<◌, ◌≤◌, arith}
use Rattle.std.proofs.Math.Nat.{div-le_self, mul-le-mul}

pub span_fits : (a b side : ℕ) → a < 2 ^ 64 → side ≤ 40000 → (a - b) * side < 2 ^ 80
span_fits a b side small few =
    let up_to : a - b ≤ 2 ^ 64 = omega (arith, small) in
    let most : (a - b) * side ≤ 2 ^ 64 * 40000 = mul-le-mul up_to few in
    omega (arith, most)

pub span_small : (a b side over : ℕ) → a < 2 ^ 64 → side ≤ 40000 → (a - b) * side / over < 2 ^ 80
span_small a b side over small few =
    let most = span_fits a b side small few in
    let less : (a - b) * side / over ≤ (a - b) * side = div-le_self ((a - b) * side) over in
    omega (arith, most, less)

pub ruleset spans = (span_fits, span_small)
