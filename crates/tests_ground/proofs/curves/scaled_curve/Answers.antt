use Rattle.std.proofs.Common.{◌≡◌, IfOk, Ok, Result, subst, sym}
use Rattle.charge_curve.specs.CutCurve.{CutCurve}
use Rattle.ev_model.specs.Curve.{IsMultipleOfSlopes}
use Rattle.ev_model.specs.Examples.OneStation.{curve}
use Rattle.ev_model.proofs.Fits.{curve_fits}
use Rattle.tests_ground.proofs.curves.scaled_curve.Goals as goal

at_ok : {V E : Type 0} (P : V → Type 0) (made : Result V E) (x : V) → made ≡ Ok x → IfOk made P → P x
at_ok {V} {E} P made x is value = subst (λ (r : Result V E). IfOk r P) is value

pub scale-requires-clause-multiple : goal.scale-requires-clause-multiple
scale-requires-clause-multiple g c =
    let here = at_ok (λ (x : CutCurve). x ≡ record { points = curve; full = c.args.full }) c.new.result c.expect-curve.result c.expect-curve.ensures c.new.ensures.value in
    subst (λ (x : CutCurve). IsMultipleOfSlopes x.full x.points 2) (sym here) (curve_fits c.args.full)
