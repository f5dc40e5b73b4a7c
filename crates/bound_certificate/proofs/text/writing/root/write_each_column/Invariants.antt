use Rattle.std.proofs.Common.{◌≡◌, ◌++◌, drop}
use Rattle.ev_text.specs.Texts.{joined_texts}
use Rattle.bound_certificate.specs.CertificateTexts.{column_text}
use Rattle.bound_certificate.proofs.text.writing.root.write_each_column.Given as goal

abbrev pub invariant-loop-column : goal.invariant-loop-column
invariant-loop-column l = l.text.items ++ joined_texts column_text (drop l.column-index l.columns) ≡ l.fn.text.items ++ joined_texts column_text l.columns
