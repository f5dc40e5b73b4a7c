use Rattle.std.proofs.Common.{arith}
use Rattle.std.proofs.lemmas.Grind.{common_steps}
use Rattle.route_improve.proofs.settling.served.Goals as goal

pub loop-route-preserved : goal.loop-route-preserved
loop-route-preserved = grind (arith, common_steps)

pub loop-route-preserved-in-Continue-1 : goal.loop-route-preserved-in-Continue-1
loop-route-preserved-in-Continue-1 = grind (arith, common_steps)
