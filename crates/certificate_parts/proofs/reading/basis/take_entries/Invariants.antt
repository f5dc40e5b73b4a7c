use Rattle.std.proofs.Common.{◌-◌}
use Rattle.certificate_parts.proofs.RowReading.{AreEntriesTo}
use Rattle.certificate_parts.proofs.reading.basis.take_entries.Given as goal

abbrev pub invariant-loop : goal.invariant-loop
invariant-loop l = AreEntriesTo l.inst l.columns l.fn.scan l.count l.basis.items (l.count - l.counter) l.scan
