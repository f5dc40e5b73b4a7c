use Rattle.route_proof.proofs.ProofLaws.{one_proof}
use Rattle.route_proof.proofs.text_laws.texts_mean_one_proof.Goals as goal

pub returns : goal.returns
returns c = one_proof
