use Rattle.std.proofs.Common.{take}
use Rattle.std.specs.List.{All}
use Rattle.certificate_parts.specs.Ranges.{EntryFits}
use Rattle.certificate_parts.proofs.ranges.basis.entries_fit.Given as goal

abbrev pub invariant-loop-entry : goal.invariant-loop-entry
invariant-loop-entry l = All (EntryFits l.customers l.columns) (take l.entry-index l.basis)
