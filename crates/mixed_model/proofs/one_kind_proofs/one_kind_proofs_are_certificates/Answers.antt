use Rattle.mixed_model.proofs.OneProof.{proof_from, proof_to}
use Rattle.mixed_model.proofs.one_kind_proofs.one_kind_proofs_are_certificates.Goals as goal

pub returns : goal.returns
returns c = λ g p pairs fits all. (proof_to g p pairs fits all, proof_from g p pairs fits all)
