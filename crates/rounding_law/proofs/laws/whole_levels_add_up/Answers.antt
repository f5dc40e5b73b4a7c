use Rattle.rounding_law.proofs.Floors.{levels_add_up}
use Rattle.rounding_law.proofs.laws.whole_levels_add_up.Goals as goal

pub returns : goal.returns
returns c = levels_add_up
