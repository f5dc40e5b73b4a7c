use Rattle.route_proof.proofs.Rules.{closed_by_rules}
use Rattle.route_proof.proofs.laws.closed_where_no_rule_is_broken.Goals as goal

pub returns : goal.returns
returns c = closed_by_rules
