use Rattle.std.proofs.Common.{arith}
use Rattle.std.proofs.lemmas.Grind.{common_steps}
use Rattle.route_pool.proofs.Alone.{own_route}
use Rattle.mixed_fleet.proofs.own.own_by.Goals as goal

pub solve_route-requires-clause-route : goal.solve_route-requires-clause-route
solve_route-requires-clause-route c = own_route c.args.inst.now c.args.node c.requires.customer c.nodes-nodes.ensures.network c.requires.known

pub returns : goal.returns
returns = grind (arith, common_steps)
