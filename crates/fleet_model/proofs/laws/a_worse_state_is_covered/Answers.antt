use Rattle.fleet_model.proofs.Steps.{covered_by_good}
use Rattle.fleet_model.proofs.laws.a_worse_state_is_covered.Goals as goal

pub returns : goal.returns
returns c = covered_by_good
