use Rattle.bound_certificate.proofs.WrittenWhole.{text_is_read}
use Rattle.bound_certificate.proofs.text.laws.written_certificates_are_read.Goals as goal

pub returns : goal.returns
returns c = text_is_read
