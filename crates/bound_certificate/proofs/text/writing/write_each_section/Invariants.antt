use Rattle.std.proofs.Common.{◌≡◌, ◌++◌, drop, map}
use Rattle.ev_text.specs.Texts.{joined_texts}
use Rattle.bound_certificate.specs.CertificateTexts.{section_text}
use Rattle.bound_certificate.specs.Written.{written_section}
use Rattle.bound_certificate.proofs.text.writing.write_each_section.Given as goal

abbrev pub invariant-loop-section : goal.invariant-loop-section
invariant-loop-section l = l.text.items ++ joined_texts section_text (map (written_section l.inst) (drop l.section-index l.sections)) ≡ l.fn.text.items ++ joined_texts section_text (map (written_section l.inst) l.sections)
