use Rattle.certificate_check.proofs.Rules.{accepted_unless, none_where_accepted}
use Rattle.certificate_check.proofs.laws.accepted_where_no_rule_is_broken.Goals as goal

pub returns : goal.returns
returns c g cert fits settled = (none_where_accepted g cert, λ none. accepted_unless g cert fits none settled)
