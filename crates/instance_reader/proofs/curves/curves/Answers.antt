use Rattle.std.proofs.Common.{arith}
use Rattle.std.proofs.lemmas.Grind.{common_steps}
use Rattle.charge_curve.specs.CutCurve.{IsSmall}
use Rattle.instance_reader.proofs.CurvesLemmas.{All-map-at}
use Rattle.instance_reader.specs.Contents.{points_of}
use Rattle.instance_reader.specs.Views.{curve_view}
use Rattle.instance_reader.proofs.curves.curves.Goals as goal

pub curve-requires : goal.curve-requires
curve-requires c =
    All-map-at (λ entry. IsSmall (points_of entry) c.args.max_q) curve_view c.args.entries.now c.loop-index.index c.index-entries-index.result
    c.requires c.loop-index-test.true c.index-entries-index.is

pub loop-index-preserved : goal.loop-index-preserved
loop-index-preserved = grind (arith, common_steps)

pub returns-clause-value : goal.returns-clause-value
returns-clause-value = grind (arith, common_steps)

pub returns-clause-good : goal.returns-clause-good
returns-clause-good = grind (arith, common_steps)

pub returns-in_err-curve-clause-err : goal.returns-in_err-curve-clause-err
returns-in_err-curve-clause-err = grind (arith, common_steps)
