use Rattle.std.proofs.Common.{◌≡◌, ◌++◌, drop, map}
use Rattle.certificate_check.specs.Columns.{entry_number}
use Rattle.certificate_check.proofs.basis.numbers_of.Given as goal

abbrev pub invariant-loop-entry : goal.invariant-loop-entry
invariant-loop-entry l = l.numbers.items ++ map (entry_number l.customers) (drop l.entry-index l.basis) ≡ map (entry_number l.customers) l.basis
