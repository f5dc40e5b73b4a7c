use Rattle.std.proofs.Common.{rules}
use Rattle.route_plan.proofs.Routes.{is_route}
use Rattle.route_plan.proofs.Spelled.{spells_what_is_read}
use Rattle.route_plan.proofs.route.read_route.Goals as goal

pub returns-in-None-clause-route : goal.returns-in-None-clause-route
returns-in-None-clause-route c =
    is_route c.args.inst.now c.in_ok-nodes.nodes.items (search rules)

pub returns-in-None-clause-spelled : goal.returns-in-None-clause-spelled
returns-in-None-clause-spelled c = spells_what_is_read c.args.word.now c.in_ok-nodes.nodes.items (search rules)
