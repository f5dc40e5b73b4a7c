use Rattle.master_simplex.proofs.Duality.{no_cover}
use Rattle.master_simplex.proofs.laws.beside_a_ray_there_is_no_cover.Goals as goal

pub returns : goal.returns
returns c t weight prices over shares other others ray cover = no_cover t weight prices over shares other others ray cover
