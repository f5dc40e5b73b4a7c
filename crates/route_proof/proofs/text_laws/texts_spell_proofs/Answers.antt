use Rattle.route_proof.proofs.ProofLaws.{proof_is_spelled}
use Rattle.route_proof.proofs.text_laws.texts_spell_proofs.Goals as goal

pub returns : goal.returns
returns c = proof_is_spelled
