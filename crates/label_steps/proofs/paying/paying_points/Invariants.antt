use Rattle.std.proofs.Common.{◌≡◌, ◌≤◌, ◌++◌, drop, None}
use Rattle.std.specs.Prelude.{IfSome}
use Rattle.label_steps.specs.Paying.{paying}
use Rattle.label_steps.proofs.paying.paying_points.Given as goal

abbrev pub invariant-loop-index : goal.invariant-loop-index
invariant-loop-index l = record {
  found : l.starts.items ++ paying l.curve l.before (drop l.index l.points) ≡ paying l.curve None l.points;
  fits : IfSome l.before (λ b. b.0 ≤ l.full);
}
