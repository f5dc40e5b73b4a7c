use Rattle.fleet_model.proofs.Margins.{covers_by_margin, covers_nothing}
use Rattle.fleet_model.proofs.laws.a_label_covers_by_a_margin.Goals as goal

pub returns-clause-margin : goal.returns-clause-margin
returns-clause-margin c = covers_by_margin

pub returns-clause-none : goal.returns-clause-none
returns-clause-none c = covers_nothing
