use Rattle.certificate_check.proofs.Truths.{exact_cost, least_cost}
use Rattle.certificate_check.proofs.laws.exact_roots_are_least_covers.Goals as goal

pub returns-clause-least : goal.returns-clause-least
returns-clause-least c = least_cost

pub returns-clause-cost : goal.returns-clause-cost
returns-clause-cost c = exact_cost
