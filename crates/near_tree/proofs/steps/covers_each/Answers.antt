use Rattle.std.proofs.Common.{length, refl, arith}
use Rattle.std.proofs.lemmas.Option.{slice_get_read, slice_get_within}
use Rattle.near_tree.proofs.StationSteps.{covered_more}
use Rattle.near_tree.proofs.steps.covers_each.Goals as goal

pub returns-then-not-covers_value : goal.returns-then-not-covers_value
returns-then-not-covers_value c =
    let here = slice_get_read c.args.values.now (length c.args.values.now) c.loop-value.value-index c.value-item.result refl c.loop-value-test.true c.value-item.is in
    (c.loop-value.value-index, c.value-item.result, here, c.covers_value.ensures.missed c.if-not-covers_value.true)

pub loop-value-preserved : goal.loop-value-preserved
loop-value-preserved c =
    covered_more c.args.asked.now c.args.values.now c.loop-value.value-index c.value-item.result c.loop-value-test.true c.value-item.is c.loop-value.invariant (c.covers_value.ensures.covered c.if-not-covers_value.false)

pub returns : goal.returns
returns c k w here =
    c.loop-value.invariant k w (omega (arith, slice_get_within c.args.values.now k w here, c.loop-value-test.false)) here
