use Rattle.ev_fleet.proofs.Owned.{own_way}
use Rattle.ev_fleet.proofs.own.own_route.Goals as goal

pub solve_route-requires-clause-route : goal.solve_route-requires-clause-route
solve_route-requires-clause-route c = own_way c.args.inst.now c.args.node c.nodes-nodes.ensures.network c.requires.known c.requires.customer
