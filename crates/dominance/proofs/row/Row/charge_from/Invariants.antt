use Rattle.dominance.proofs.Rows.{IsChargedTo}
use Rattle.dominance.proofs.row.Row.charge_from.Given as goal

abbrev pub invariant-loop-level : goal.invariant-loop-level
invariant-loop-level l = IsChargedTo l.self l.curve l.limit l.first l.level l.times.items
