use Rattle.std.proofs.Common.{take}
use Rattle.std.specs.List.{All}
use Rattle.certificate_parts.specs.Ranges.{LabelFits}
use Rattle.certificate_parts.proofs.ranges.label.labels_fit.Given as goal

abbrev pub invariant-loop-label : goal.invariant-loop-label
invariant-loop-label l = All (LabelFits l.inst) (take l.label-index l.labels)
