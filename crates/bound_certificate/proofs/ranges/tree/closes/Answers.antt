use Rattle.std.proofs.Common.{arith}
use Rattle.std.proofs.lemmas.Grind.{common_steps}
use Rattle.bound_certificate.proofs.TreeLines.{closed_too_early, few_behind, line_closes}
use Rattle.bound_certificate.proofs.ranges.tree.closes.Goals as goal

pub returns-then-trees-eq0 : goal.returns-then-trees-eq0
returns-then-trees-eq0 c = closed_too_early c.args.lines.now c.loop-line.line-index c.loop-line.trees c.loop-line-test.true c.if-trees-eq0.true c.loop-line.invariant.told

pub loop-line-preserved : goal.loop-line-preserved
loop-line-preserved c = record {
  few = few_behind _ c.loop-line.trees c.loop-line.line-index c.open_behind-trees.result c.loop-line.invariant.few c.open_behind-trees.ensures;
  told = line_closes c.args.lines.now c.loop-line.line-index c.loop-line.trees c.open_behind-trees.result _ c.loop-line-test.true (omega arith) c.open_behind-trees.ensures c.loop-line.invariant.told;
}

pub returns : goal.returns
returns = grind (arith, common_steps)
