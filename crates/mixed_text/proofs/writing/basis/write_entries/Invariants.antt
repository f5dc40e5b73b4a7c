use Rattle.std.proofs.Common.{◌≡◌, ◌++◌, codes, drop, map}
use Rattle.ev_text.specs.Texts.{marked_texts}
use Rattle.certificate_parts.specs.Texts.{entry_text}
use Rattle.certificate_parts.specs.Written.{written_entry}
use Rattle.mixed_text.proofs.writing.basis.write_entries.Given as goal

abbrev pub invariant-loop-entry : goal.invariant-loop-entry
invariant-loop-entry l = l.text.items ++ marked_texts (codes " ") entry_text (map (written_entry l.inst) (drop l.entry-index l.basis)) ≡ l.fn.text.items ++ marked_texts (codes " ") entry_text (map (written_entry l.inst) l.basis)
