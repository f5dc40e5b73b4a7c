use Rattle.std.proofs.Common.{◌-◌, length}
use Rattle.closed_lists.specs.Targets.{state_of}
use Rattle.closed_lists.proofs.CoveredStates.{IsLeft}
use Rattle.closed_lists.proofs.coverage.Asked.reach_any.Given as goal

abbrev pub invariant-loop-entries : goal.invariant-loop-entries
invariant-loop-entries l = IsLeft l.self.question (state_of l.self.target l.value l.level) l.entries l.begin l.at

abbrev pub decreases-loop-entries : goal.decreases-loop-entries
decreases-loop-entries l = length l.entries - l.at
