use Rattle.std.proofs.Common.{◌-◌}
use Rattle.std.specs.List.{All}
use Rattle.certificate_parts.proofs.ItemLoops.{AreTakenTo}
use Rattle.near_proof.specs.Ranges.{NearLabelFits}
use Rattle.near_text.specs.NearIn.{HasMemory}
use Rattle.near_text.specs.Reading.{near_label_at}
use Rattle.near_text.specs.Written.{written_near_label}
use Rattle.near_text.proofs.reading.labels.take_labels.Given as goal

abbrev pub invariant-loop : goal.invariant-loop
invariant-loop l = AreTakenTo (near_label_at l.inst) (written_near_label l.inst) l.fn.scan l.count l.labels.items (l.count - l.counter) l.scan × All (NearLabelFits l.inst) l.labels.items × All HasMemory l.labels.items
