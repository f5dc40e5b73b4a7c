use Rattle.std.proofs.Common.{length}
use Rattle.ev_text.specs.Scans.{rest_of}
use Rattle.tree_text.proofs.NodeLoops.{AreNodesTo}
use Rattle.tree_text.proofs.reading.take_nodes.Given as goal

abbrev pub invariant-loop-last : goal.invariant-loop-last
invariant-loop-last l = AreNodesTo l.inst l.fn.scan l.nodes.items l.lasts.items l.ways.items l.scan

abbrev pub decreases-loop-last : goal.decreases-loop-last
decreases-loop-last l = length (rest_of l.scan)
