use Rattle.std.proofs.Common.{◌≡◌, ◌++◌, drop, map}
use Rattle.ev_text.specs.Texts.{joined_texts}
use Rattle.bound_certificate.specs.CertificateTexts.{line_text}
use Rattle.bound_certificate.specs.Written.{written_line}
use Rattle.bound_certificate.proofs.text.writing.write_tree.Given as goal

abbrev pub invariant-loop-line : goal.invariant-loop-line
invariant-loop-line l = l.text.items ++ joined_texts line_text (map (written_line l.inst) (drop l.line-index l.lines)) ≡ l.fn.text.items ++ joined_texts line_text (map (written_line l.inst) l.lines)
