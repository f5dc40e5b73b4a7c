use Rattle.fleet_model.proofs.Fleets.{fleet_bound}
use Rattle.fleet_model.proofs.WholeFleets.{fraction_bound}
use Rattle.fleet_model.proofs.laws.a_fleet_costs_the_bound.Goals as goal

pub returns-clause-whole : goal.returns-clause-whole
returns-clause-whole c = fleet_bound

pub returns-clause-fraction : goal.returns-clause-fraction
returns-clause-fraction c = fraction_bound
