use Rattle.fleet_model.proofs.Covers.{cover_cost}
use Rattle.fleet_model.proofs.laws.no_cover_costs_less.Goals as goal

pub returns : goal.returns
returns c = cover_cost
