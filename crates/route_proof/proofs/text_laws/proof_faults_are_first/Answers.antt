use Rattle.route_proof.proofs.ProofLaws.{length_told, range_is_first, text_is_first, version_told}
use Rattle.route_proof.proofs.text_laws.proof_faults_are_first.Goals as goal

pub returns : goal.returns
returns c = record {
  range = range_is_first;
  text = text_is_first;
  version = version_told;
  too_long = length_told;
}
