use Rattle.std.proofs.Common.{◌+◌, ◌<◌, ◌≤◌, ℕ}
use Rattle.std.specs.Prelude.{slice_index}
use Rattle.frvcp_labels.specs.Rest.{step_cost}
use Rattle.frvcp_labels.proofs.bounds.go_directly.Given as goal

abbrev pub invariant-loop-from : goal.invariant-loop-from
invariant-loop-from l = (node : ℕ) → node < l.from → slice_index l.layer node ≤ step_cost l.arcs.inst.now l.arcs.rate node l.to + 0
