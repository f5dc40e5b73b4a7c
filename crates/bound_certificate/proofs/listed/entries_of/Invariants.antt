use Rattle.std.proofs.Common.{◌≡◌, ◌++◌, drop, map}
use Rattle.bound_certificate.specs.Entries.{entry_of}
use Rattle.bound_certificate.proofs.listed.entries_of.Given as goal

abbrev pub invariant-loop-number : goal.invariant-loop-number
invariant-loop-number l = l.entries.items ++ map (entry_of l.helpers) (drop l.number-index l.basis) ≡ map (entry_of l.helpers) l.basis
