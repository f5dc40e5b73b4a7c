use Rattle.fleet_model.proofs.Bounds.{bound_rounds_up}
use Rattle.fleet_model.proofs.laws.the_bound_rounds_up.Goals as goal

pub returns : goal.returns
returns c = bound_rounds_up
