use Rattle.bound_certificate.proofs.CertificateLaws.{certificate_is_spelled}
use Rattle.bound_certificate.proofs.text.laws.texts_spell_certificates.Goals as goal

pub returns : goal.returns
returns c = certificate_is_spelled
