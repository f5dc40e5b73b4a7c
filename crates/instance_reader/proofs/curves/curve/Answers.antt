use Rattle.std.proofs.Common.{◌≡◌, ◌≢◌, ◌∙◌, Some, ap, refl, sym}
use Rattle.charge_curve.specs.Faults.{curve_fault}
use Rattle.charge_curve.specs.declared.fault.CurveFault.TheVariants.{Memory}
use Rattle.instance_reader.proofs.CurvesLemmas.{Refuses-curve}
use Rattle.instance_reader.specs.Contents.{points_of}
use Rattle.instance_reader.specs.Views.{curve_view}
use Rattle.instance_reader.proofs.curves.curve.Goals as goal

pub returns-clause-err : goal.returns-clause-err
returns-clause-err c =
    let points : c.as_slice.result.now ≡ points_of (curve_view c.args.entry.now) = c.as_slice.ensures.value ∙ c.in_ok-points.ensures in
    let told : c.in-Err.fault ≢ Memory → curve_fault c.args.max_q (points_of (curve_view c.args.entry.now)) ≡ Some c.in-Err.fault =
    λ other. ap (curve_fault c.args.max_q) (sym points) ∙ (c.in-Err.ensures.fault c.in-Err.fault other).0 refl in
    rw c.read_fault.ensures (Refuses-curve c.args.index (curve_fault c.args.max_q (points_of (curve_view c.args.entry.now))) c.in-Err.fault told)
