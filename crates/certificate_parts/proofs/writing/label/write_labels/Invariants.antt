use Rattle.std.proofs.Common.{◌≡◌, ◌++◌, drop, map}
use Rattle.ev_text.specs.Texts.{joined_texts}
use Rattle.certificate_parts.specs.Texts.{label_text}
use Rattle.certificate_parts.specs.Written.{written_label}
use Rattle.certificate_parts.proofs.writing.label.write_labels.Given as goal

abbrev pub invariant-loop-label : goal.invariant-loop-label
invariant-loop-label l = l.text.items ++ joined_texts label_text (map (written_label l.inst) (drop l.label-index l.labels)) ≡ l.fn.text.items ++ joined_texts label_text (map (written_label l.inst) l.labels)
