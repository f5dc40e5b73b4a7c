use Rattle.std.proofs.Common.{ℕ, ◌+◌, ◌<◌, get_or}
use Rattle.dominance.specs.Coverage.{Reaches}
use Rattle.dominance.proofs.row.RowLabelValue.covers.Given as goal

abbrev pub invariant-loop-index : goal.invariant-loop-index
invariant-loop-index l = (k : ℕ) → k < l.index → Reaches l.self l.extra (l.other-inside.first + k) (get_or l.time-items k 0)
