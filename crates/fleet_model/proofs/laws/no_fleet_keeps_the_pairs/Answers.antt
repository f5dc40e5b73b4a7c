use Rattle.fleet_model.proofs.Fleets.{fleet_none}
use Rattle.fleet_model.proofs.WholeFleets.{fraction_none}
use Rattle.fleet_model.proofs.laws.no_fleet_keeps_the_pairs.Goals as goal

pub returns-clause-whole : goal.returns-clause-whole
returns-clause-whole c = fleet_none

pub returns-clause-fraction : goal.returns-clause-fraction
returns-clause-fraction c = fraction_none
