use Rattle.std.proofs.Common.{◌-◌, length}
use Rattle.near_proof.specs.Targets.{state_at}
use Rattle.near_proof.proofs.CoveredStates.{IsLeft}
use Rattle.near_proof.proofs.coverage.AskedCovering.reach.Given as goal

abbrev pub invariant-loop-entries : goal.invariant-loop-entries
invariant-loop-entries l = IsLeft l.self-inside.weight l.self-inside.labels.now (state_at l.self-inside.target l.level l.time) l.entries l.begin l.at

abbrev pub decreases-loop-entries : goal.decreases-loop-entries
decreases-loop-entries l = length l.entries - l.at
