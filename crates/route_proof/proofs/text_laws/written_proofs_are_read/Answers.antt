use Rattle.route_proof.proofs.ProofLaws.{text_is_read}
use Rattle.route_proof.proofs.text_laws.written_proofs_are_read.Goals as goal

pub returns : goal.returns
returns c = text_is_read
