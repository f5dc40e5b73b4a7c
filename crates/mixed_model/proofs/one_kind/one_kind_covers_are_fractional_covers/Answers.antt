use Rattle.mixed_model.proofs.OneKind.{cover_cost, cover_from, cover_to}
use Rattle.mixed_model.proofs.one_kind.one_kind_covers_are_fractional_covers.Goals as goal

pub returns-clause-same : goal.returns-clause-same
returns-clause-same c = λ g k weight shares ones. (cover_to g k weight shares ones, cover_from g k weight shares ones)

pub returns-clause-cost : goal.returns-clause-cost
returns-clause-cost c = λ g k shares ones. cover_cost g k shares ones
