use Rattle.near_proof.proofs.Rules.{not_broken}
use Rattle.near_proof.proofs.laws.accepted_proofs_break_no_rule.Goals as goal

pub returns : goal.returns
returns c = λ g p at accepted. not_broken g p accepted at
