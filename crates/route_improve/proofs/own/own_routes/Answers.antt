use Rattle.std.proofs.Common.{◌+◌, subst, sym, take, arith}
use Rattle.std.proofs.lemmas.Grind.{common_steps}
use Rattle.std.specs.Prelude.{slice_index}
use Rattle.route_improve.specs.Own.{AreOwn, IsOwnOrAlone}
use Rattle.route_improve.proofs.OwnRoutes.{first_alone, own_more}
use Rattle.route_improve.proofs.own.own_routes.Goals as goal

pub returns-in-Ok-None-clause-fault : goal.returns-in-Ok-None-clause-fault
returns-in-Ok-None-clause-fault c =
    first_alone c.args.inst.now c.customers-customers.result.now c.loop-node.routes.items c.loop-node.node-index c.in-Ok-None.field-0 c.customers-customers.ensures.value c.customers-customers.ensures.rising
    c.customers-customers.ensures.known c.customers-customers.ensures.customers c.loop-node-test.true c.loop-node.invariant c.in-Ok-None.field-0-is c.in-Ok-None.ensures

pub loop-node-preserved : goal.loop-node-preserved
loop-node-preserved c =
    subst (AreOwn c.args.inst.now (take (c.loop-node.node-index + 1) c.customers-customers.result.now)) (sym c.in-Ok.ensures.items)
    (own_more c.args.inst.now c.customers-customers.result.now c.loop-node.routes.items c.loop-node.node-index c.in-Ok-Some.route c.loop-node-test.true c.loop-node.invariant
    (subst (IsOwnOrAlone c.args.inst.now (slice_index c.customers-customers.result.now c.loop-node.node-index)) c.in-Ok-Some.field-0-is c.in-Ok-Some.ensures))

pub returns-clause-own : goal.returns-clause-own
returns-clause-own = grind (arith, common_steps)
