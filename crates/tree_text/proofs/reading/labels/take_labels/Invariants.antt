use Rattle.std.proofs.Common.{◌-◌}
use Rattle.std.specs.List.{All}
use Rattle.certificate_parts.proofs.ItemLoops.{AreTakenTo}
use Rattle.near_tree.specs.Ranges.{SectionLabelFits}
use Rattle.tree_text.specs.TreeIn.{HasMemory}
use Rattle.tree_text.specs.Reading.{section_label_at}
use Rattle.tree_text.specs.Written.{written_section_label}
use Rattle.tree_text.proofs.reading.labels.take_labels.Given as goal

abbrev pub invariant-loop : goal.invariant-loop
invariant-loop l = AreTakenTo (section_label_at l.inst) (written_section_label l.inst) l.fn.scan l.count l.labels.items (l.count - l.counter) l.scan × All (SectionLabelFits l.inst) l.labels.items × All HasMemory l.labels.items
