use Rattle.std.proofs.Common.{◌-◌}
use Rattle.std.specs.List.{All}
use Rattle.certificate_parts.specs.Ranges.{HasSet}
use Rattle.certificate_parts.specs.Ranges.{LabelFits}
use Rattle.certificate_parts.specs.Reading.{label_at}
use Rattle.certificate_parts.specs.Written.{written_label}
use Rattle.certificate_parts.proofs.ItemLoops.{AreTakenTo}
use Rattle.certificate_parts.proofs.reading.label.take_labels.Given as goal

abbrev pub invariant-loop : goal.invariant-loop
invariant-loop l = AreTakenTo (label_at l.inst) (written_label l.inst) l.fn.scan l.count l.labels.items (l.count - l.counter) l.scan × All (LabelFits l.inst) l.labels.items × All HasSet l.labels.items
