use Rattle.tree_text.proofs.BoundLaws.{accepted_keeps}
use Rattle.tree_text.proofs.bounds.laws.accepted_bound_proofs_break_no_rule.Goals as goal

pub returns : goal.returns
returns c = accepted_keeps
