use Rattle.std.proofs.Common.{◌≡◌, ◌<◌, arith, rules, sym, subst, Some, ℤ, FitsSigned, to_z, of_z}
use Rattle.std.specs.Int.{w128}
use Rattle.std.proofs.lemmas.Int.{ints, to_z-of_z}
use Rattle.ev_units.specs.Units.{IsCeiling}
use Rattle.fleet_model.specs.Prices.{price_total}
use Rattle.certificate_check.specs.Bounds.{IsBoundOf}
use Rattle.certificate_check.proofs.SectionBounds.{rounded_for}
use Rattle.certificate_check.proofs.bound.bound_of.Goals as goal

pub returns-then-weight-gt0 : goal.returns-then-weight-gt0
returns-then-weight-gt0 c =
    let prices = c.args.prices.now in
    let fits : FitsSigned w128 c.ceil_div.result = search rules in
    let sum_fits : FitsSigned w128 c.price_total-sum.result = search rules in
    let same : to_z w128 (of_z w128 c.ceil_div.result) ≡ c.ceil_div.result = omega (arith, ints) in
    let is : IsCeiling c.price_total-sum.result c.args.weight c.ceil_div.result = simp to_z-of_z at c.ceil_div.ensures in
    let whole : IsCeiling (price_total prices) c.args.weight c.ceil_div.result = subst (λ z. IsCeiling z c.args.weight c.ceil_div.result) c.price_total-sum.ensures.value is in
    let some : 0 < c.args.weight = let t = c.if-weight-gt0.true in grind (arith, t) in
    λ s has. subst (λ (z : ℤ). IsBoundOf s (Some z)) (sym same) (rounded_for c.args.weight prices s has c.ceil_div.result some whole)
