use Rattle.fleet_model.proofs.Rules.{closed_by_rules}
use Rattle.fleet_model.proofs.laws.closed_where_no_rule_is_broken.Goals as goal

pub returns : goal.returns
returns c = closed_by_rules
