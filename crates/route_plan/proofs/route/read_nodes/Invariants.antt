use Rattle.std.proofs.Common.{◌≡◌, ◌≤◌, ℕ, length}
use Rattle.ev_text.specs.Scans.{rest_of}
use Rattle.route_plan.specs.RouteWords.{more_nodes, nodes_in, with_nodes}
use Rattle.route_plan.proofs.route.read_nodes.Given as goal

-- the nodes so far and those that follow are all
abbrev pub invariant-loop-scan : goal.invariant-loop-scan
invariant-loop-scan l = (most : ℕ) × (length (rest_of l.scan) ≤ most) × (with_nodes l.nodes.items (more_nodes most l.scan) ≡ nodes_in l.word)

abbrev pub decreases-loop-scan : goal.decreases-loop-scan
decreases-loop-scan l = length (rest_of l.scan)
