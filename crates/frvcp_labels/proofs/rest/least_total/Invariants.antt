use Rattle.std.proofs.Common.{ℕ, ◌+◌, ◌-◌, ◌*◌, ◌<◌, ◌≤◌, get_or}
use Rattle.frvcp_labels.proofs.rest.least_total.Given as goal

abbrev pub invariant-loop-point : goal.invariant-loop-point
invariant-loop-point l = (n : ℕ) (d : ℕ × ℕ) → n < l.point-index → l.least ≤ (get_or l.points n d).1 + l.rest - l.rate * (get_or l.points n d).0
