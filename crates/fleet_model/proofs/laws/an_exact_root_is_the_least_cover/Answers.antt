use Rattle.fleet_model.proofs.Bounds.{optimum, whole_optimum}
use Rattle.fleet_model.proofs.laws.an_exact_root_is_the_least_cover.Goals as goal

pub returns-clause-pairs : goal.returns-clause-pairs
returns-clause-pairs c = optimum

pub returns-clause-all : goal.returns-clause-all
returns-clause-all c = whole_optimum
