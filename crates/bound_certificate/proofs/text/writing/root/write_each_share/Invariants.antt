use Rattle.std.proofs.Common.{◌≡◌, ◌++◌, drop}
use Rattle.ev_text.specs.Texts.{joined_texts}
use Rattle.bound_certificate.specs.CertificateTexts.{share_text}
use Rattle.bound_certificate.proofs.text.writing.root.write_each_share.Given as goal

abbrev pub invariant-loop-share : goal.invariant-loop-share
invariant-loop-share l = l.text.items ++ joined_texts share_text (drop l.share-index l.shares) ≡ l.fn.text.items ++ joined_texts share_text l.shares
