use Rattle.std.proofs.Common.{◌≡◌, ◌++◌, drop, map}
use Rattle.ev_text.specs.Texts.{joined_texts}
use Rattle.near_text.specs.NearTexts.{near_label_text}
use Rattle.near_text.specs.Written.{written_near_label}
use Rattle.near_text.proofs.writing.write_labels.Given as goal

abbrev pub invariant-loop-label : goal.invariant-loop-label
invariant-loop-label l = l.text.items ++ joined_texts near_label_text (map (written_near_label l.inst) (drop l.label-index l.labels)) ≡ l.fn.text.items ++ joined_texts near_label_text (map (written_near_label l.inst) l.labels)
