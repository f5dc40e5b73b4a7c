use Rattle.std.proofs.Common.{◌≡◌, ◌++◌, drop}
use Rattle.ev_text.specs.Texts.{joined_texts}
use Rattle.route_proof.specs.ProofTexts.{label_text}
use Rattle.route_proof.proofs.writing.write_each_label.Given as goal

abbrev pub invariant-loop-label : goal.invariant-loop-label
invariant-loop-label l = l.text.items ++ joined_texts label_text (drop l.label-index l.labels) ≡ l.fn.text.items ++ joined_texts label_text l.labels
