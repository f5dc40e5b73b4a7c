use Rattle.std.proofs.Common.{ℕ, ◌<◌}
use Rattle.route_proof.specs.Broken.{at_home}
use Rattle.route_proof.specs.Faults.{Breaks}
use Rattle.route_proof.proofs.judged.Judged.first_end.Given as goal

abbrev pub invariant-loop-label : goal.invariant-loop-label
invariant-loop-label l = (m : ℕ) → m < l.label → (Breaks l.self (at_home m) → ⊥)
