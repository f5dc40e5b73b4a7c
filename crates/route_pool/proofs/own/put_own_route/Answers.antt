use Rattle.std.proofs.Common.{[], ◌∷◌, arith}
use Rattle.std.proofs.lemmas.Grind.{common_steps}
use Rattle.route_pool.proofs.Alone.{own_route}
use Rattle.route_pool.proofs.GrownPools.{grown_result}
use Rattle.route_pool.proofs.own.put_own_route.Goals as goal

pub solve_route-requires-clause-route : goal.solve_route-requires-clause-route
solve_route-requires-clause-route c = own_route c.args.inst.now c.args.node c.requires.customer c.nodes-count.ensures.network c.requires.known

pub returns-clause-grown : goal.returns-clause-grown
returns-clause-grown c = grown_result c.put.result c.args.inst.now (c.args.node ∷ []) c.in-Some.plan.stops c.args.pool.now c.put.new.self c.put.ensures.put c.put.ensures.unchanged

pub put-requires-clause-column : goal.put-requires-clause-column
put-requires-clause-column = grind (arith, common_steps)
