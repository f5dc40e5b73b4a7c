use Rattle.std.proofs.Common.{◌≡◌, ◌++◌, drop}
use Rattle.ev_text.specs.Texts.{joined_texts}
use Rattle.bound_certificate.specs.CertificateTexts.{pair_text}
use Rattle.bound_certificate.proofs.text.writing.section.write_pairs.Given as goal

abbrev pub invariant-loop-pair : goal.invariant-loop-pair
invariant-loop-pair l = l.text.items ++ joined_texts pair_text (drop l.pair-index l.pairs) ≡ l.fn.text.items ++ joined_texts pair_text l.pairs
