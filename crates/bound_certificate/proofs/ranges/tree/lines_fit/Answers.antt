use Rattle.std.proofs.Common.{arith}
use Rattle.std.proofs.lemmas.Grind.{common_steps}
use Rattle.std.proofs.lemmas.List.Elements.{All-more}
use Rattle.bound_certificate.specs.Ranges.{LineFits}
use Rattle.certificate_parts.proofs.EachItem.{all_hold}
use Rattle.bound_certificate.proofs.ranges.tree.lines_fit.Goals as goal

pub loop-line-preserved : goal.loop-line-preserved
loop-line-preserved c =
    All-more (LineFits c.args.customers c.args.sections) c.args.lines.now c.loop-line.line-index _ c.loop-line-test.true c.loop-line.invariant (c.line_fits.ensures.0 c.if-not-line_fits.false)

pub returns : goal.returns
returns c = all_hold (LineFits c.args.customers c.args.sections) c.args.lines.now c.loop-line.line-index c.loop-line.auto.line-index-end c.loop-line-test.false c.loop-line.invariant

pub returns-then-not-line_fits : goal.returns-then-not-line_fits
returns-then-not-line_fits = grind (arith, common_steps)
