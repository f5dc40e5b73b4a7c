use Rattle.std.proofs.Common.{length}
use Rattle.ev_text.specs.Scans.{rest_of}
use Rattle.bound_certificate.proofs.TreeLoops.{AreLinesTo}
use Rattle.bound_certificate.proofs.text.reading.tree.take_tree.Given as goal

abbrev pub invariant-loop-trees : goal.invariant-loop-trees
invariant-loop-trees l = AreLinesTo l.inst l.sections l.fn.scan l.lines.items l.trees l.scan

abbrev pub decreases-loop-trees : goal.decreases-loop-trees
decreases-loop-trees l = length (rest_of l.scan)
