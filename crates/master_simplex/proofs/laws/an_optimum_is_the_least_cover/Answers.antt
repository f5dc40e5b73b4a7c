use Rattle.master_simplex.proofs.Duality.{least_cover}
use Rattle.master_simplex.proofs.laws.an_optimum_is_the_least_cover.Goals as goal

pub returns : goal.returns
returns c t weight prices over shares other others best cover = least_cover t weight prices over shares other others best cover
