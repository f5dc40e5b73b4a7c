use Rattle.mixed_model.proofs.Truths.{exact_cost, least_of}
use Rattle.mixed_model.proofs.laws.exact_roots_are_least_covers.Goals as goal

pub returns-clause-least : goal.returns-clause-least
returns-clause-least c = λ kinds p over shares networks are fits accepted is. least_of kinds p networks are fits accepted

pub returns-clause-cost : goal.returns-clause-cost
returns-clause-cost c = exact_cost
