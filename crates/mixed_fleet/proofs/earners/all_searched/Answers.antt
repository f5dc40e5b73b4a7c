use Rattle.std.proofs.Common.{arith}
use Rattle.std.proofs.lemmas.Grind.{common_steps}
use Rattle.mixed_fleet.proofs.earners.all_searched.Goals as goal

pub returns : goal.returns
returns = grind (arith, common_steps)

pub loop-route-preserved : goal.loop-route-preserved
loop-route-preserved = grind (arith, common_steps)

pub as_searched-requires : goal.as_searched-requires
as_searched-requires = grind (arith, common_steps)
