use Rattle.std.proofs.Common.{◌-◌}
use Rattle.certificate_parts.proofs.ItemLoops.{AreManyTo}
use Rattle.tree_text.specs.Reading.{entry_at}
use Rattle.tree_text.proofs.reading.section.take_entry_prices.Given as goal

abbrev pub invariant-loop : goal.invariant-loop
invariant-loop l = AreManyTo entry_at l.fn.scan l.count l.prices.items (l.count - l.counter) l.scan
