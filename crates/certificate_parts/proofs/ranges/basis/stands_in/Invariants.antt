use Rattle.std.proofs.Common.{◌≡◌, drop}
use Rattle.std.specs.List.{list_any}
use Rattle.certificate_parts.specs.Ranges.{same_entry}
use Rattle.certificate_parts.proofs.ranges.basis.stands_in.Given as goal

abbrev pub invariant-loop-other : goal.invariant-loop-other
invariant-loop-other l = list_any (same_entry l.entry) (drop l.other-index l.others) ≡ list_any (same_entry l.entry) l.others
