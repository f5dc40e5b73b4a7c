use Rattle.std.proofs.Common.{take}
use Rattle.std.specs.List.{All}
use Rattle.certificate_parts.specs.Ranges.{HasSet}
use Rattle.mixed_fleet.proofs.kept.know_lists.Given as goal

abbrev pub invariant-loop-labels : goal.invariant-loop-labels
invariant-loop-labels l = All (All HasSet) (take l.labels-index l.lists)
