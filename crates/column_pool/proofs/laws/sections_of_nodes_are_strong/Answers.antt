use Rattle.column_pool.proofs.Strength.{strong}
use Rattle.column_pool.proofs.laws.sections_of_nodes_are_strong.Goals as goal

pub returns : goal.returns
returns c = strong
