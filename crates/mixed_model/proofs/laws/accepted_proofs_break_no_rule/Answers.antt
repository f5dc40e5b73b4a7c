use Rattle.mixed_model.proofs.Rules.{not_broken}
use Rattle.mixed_model.proofs.laws.accepted_proofs_break_no_rule.Goals as goal

pub returns : goal.returns
returns c = not_broken
