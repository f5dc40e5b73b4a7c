use Rattle.std.proofs.Common.{◌≡◌, ◌∙◌, ℕ, List, ap, arith, below_more, length}
use Rattle.std.proofs.lemmas.Grind.{common_steps}
use Rattle.ev_model.specs.Network.{Network}
use Rattle.route_improve.specs.Routes.{IsSettledTo, count_at}
use Rattle.route_improve.specs.declared.route.Route.{Route}
use Rattle.route_improve.proofs.Changed.{list_is}
use Rattle.route_improve.proofs.Clocks.{not_before}
use Rattle.route_improve.proofs.PlaceLooks.{at_same}
use Rattle.route_improve.proofs.pass.improve_pair.Goals as goal

pub loop-i-preserved : goal.loop-i-preserved
loop-i-preserved g c = record {
  network = c.improve_customer.ensures.network ∙ c.loop-i.invariant.network;
  same = c.in_ok-improve_customer.ensures.tried.same c.if-branch.false ∙ c.loop-i.invariant.same;
  stays = λ was. c.improve_customer.ensures.stays (c.loop-i.invariant.stays was);
  settled = λ none. below_more (λ (n : ℕ). IsSettledTo c.args.pricer.now c.args.routes.now.items c.args.a n c.args.b) c.loop-i.i (c.loop-i.invariant.settled (not_before _ _ c.improve_customer.ensures.stays none))
      (at_same (λ (h : Network) (rs : List Route). IsSettledTo h rs c.args.a c.loop-i.i c.args.b) c.args.pricer.now c.loop-i.pricer c.args.routes.now.items c.loop-i.routes.items c.loop-i.invariant.network c.loop-i.invariant.same (c.in_ok-improve_customer.ensures.tried.settled c.if-branch.false none));
}

pub returns-clause-settled : goal.returns-clause-settled
returns-clause-settled g c = λ none ended i within.
    let count : c.len-i-end.result ≡ count_at c.args.routes.now.items c.args.a = omega (arith, c.len-i-end.ensures, ap (λ (r : Route). length r.order.items) c.index.ensures, ap length (list_is c.args.routes.now.items c.args.a c.index.result.now c.requires.list)) in
    c.loop-i.invariant.settled ended i (omega (arith, within, count, c.loop-i-test.false))

pub returns-then-branch-clause-made : goal.returns-then-branch-clause-made
returns-then-branch-clause-made = grind (arith, common_steps)

pub improve_customer-requires : goal.improve_customer-requires
improve_customer-requires = grind (arith, common_steps)
