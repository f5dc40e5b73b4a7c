use Rattle.bound_certificate.proofs.OneCertificate.{one_certificate, one_written}
use Rattle.bound_certificate.proofs.text.laws.texts_mean_one_certificate.Goals as goal

pub returns : goal.returns
returns c = record { text = one_certificate; written = one_written }
