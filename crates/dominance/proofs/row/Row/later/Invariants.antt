use Rattle.std.proofs.Common.{◌≡◌, ℕ, ◌+◌, ◌<◌, ◌≤◌, get_or, length}
use Rattle.dominance.proofs.row.Row.later.Given as goal

abbrev pub invariant-loop-before : goal.invariant-loop-before
invariant-loop-before l = (length l.times.items ≡ l.before-index) × ((k : ℕ) → k < l.before-index → (get_or l.times.items k 0 ≡ get_or l.before-items k 0 + l.time) × (get_or l.before-items k 0 + l.time ≤ l.limit))
