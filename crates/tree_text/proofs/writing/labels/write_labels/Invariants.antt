use Rattle.std.proofs.Common.{◌≡◌, ◌++◌, drop, map}
use Rattle.ev_text.specs.Texts.{joined_texts}
use Rattle.tree_text.specs.TreeTexts.{section_label_text}
use Rattle.tree_text.specs.Written.{written_section_label}
use Rattle.tree_text.proofs.writing.labels.write_labels.Given as goal

abbrev pub invariant-loop-label : goal.invariant-loop-label
invariant-loop-label l = l.text.items ++ joined_texts section_label_text (map (written_section_label l.inst) (drop l.label-index l.labels)) ≡ l.fn.text.items ++ joined_texts section_label_text (map (written_section_label l.inst) l.labels)
