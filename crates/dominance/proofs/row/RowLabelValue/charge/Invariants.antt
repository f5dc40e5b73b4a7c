use Rattle.dominance.proofs.Rows.{AreCharges}
use Rattle.dominance.proofs.row.RowLabelValue.charge.Given as goal

abbrev pub invariant-loop-index : goal.invariant-loop-index
invariant-loop-index l = AreCharges l.self l.curve l.limit l.index l.rows.items
