use Rattle.std.proofs.Common.{subst}
use Rattle.std.specs.List.{All}
use Rattle.certificate_parts.specs.Ranges.{HasSet}
use Rattle.ev_fleet.proofs.kept.know_section.Goals as goal

pub returns : goal.returns
returns c = record { pairs_are = c.customers-customers.ensures.pairs; sets = subst (All HasSet) c.as_slice.ensures c.know_sets.ensures }
