use Rattle.std.proofs.Common.{ℕ, ◌<◌, Bool}
use Rattle.route_proof.specs.Broken.{at_step}
use Rattle.route_proof.specs.Faults.{Breaks}
use Rattle.route_proof.proofs.judged.Judged.first_step.Given as goal

abbrev pub invariant-loop-label : goal.invariant-loop-label
invariant-loop-label l = (m x : ℕ) (via : Bool) → m < l.label → (Breaks l.self (at_step m x via) → ⊥)
