use Rattle.std.proofs.Common.{◌∙◌, ℕ, List, length, below_more, subst, sym, arith}
use Rattle.std.proofs.lemmas.Grind.{common_steps}
use Rattle.std.proofs.lemmas.Bool.{false≢true}
use Rattle.ev_model.specs.Network.{Network}
use Rattle.route_improve.specs.Routes.{AreCheaper, IsSettledList}
use Rattle.route_improve.specs.declared.route.Route.{Route}
use Rattle.route_improve.proofs.Clocks.{not_before}
use Rattle.route_improve.proofs.PlaceLooks.{at_same, going_made, going_not}
use Rattle.route_improve.proofs.pass.pass.Goals as goal
use Rattle.route_improve.proofs.pass.pass.Goals.{then-branch, else-branch}

pub loop-a-preserved : goal.loop-a-preserved
loop-a-preserved g c = record {
  network = c.improve_route.ensures.network ∙ c.loop-a.invariant.network;
  going = elim c.if-branch.branch [
    | then-branch w ↦
        going_made c.args.pricer.now c.args.routes.now.items c.loop-a.routes.items c.improve_route.new.routes.items c.loop-a.made c.if-branch.made c.loop-a.invariant.going
        (subst (λ (h : Network). AreCheaper h c.loop-a.routes.items c.improve_route.new.routes.items) c.loop-a.invariant.network (c.in_ok-improve_route.ensures.made w.if-branch.true)) w.made-is
    | else-branch w ↦
        going_not c.args.pricer.now c.args.routes.now.items c.loop-a.routes.items c.improve_route.new.routes.items c.loop-a.made c.if-branch.made c.loop-a.invariant.going
        (c.in_ok-improve_route.ensures.same w.if-branch.false) w.made-is
  ];
  stays = λ was. c.improve_route.ensures.stays (c.loop-a.invariant.stays was);
  settled = λ no ended. elim c.if-branch.branch [
    | then-branch w ↦ absurd (false≢true (sym no ∙ w.made-is))
    | else-branch w ↦
        let none = sym w.made-is ∙ no in
        below_more (λ (n : ℕ). IsSettledList c.args.pricer.now c.args.routes.now.items (length c.args.routes.now.items) n) c.loop-a.a (c.loop-a.invariant.settled none (not_before _ _ c.improve_route.ensures.stays ended))
        (at_same (λ (h : Network) (rs : List Route). IsSettledList h rs (length rs) c.loop-a.a) c.args.pricer.now c.loop-a.pricer c.args.routes.now.items c.loop-a.routes.items c.loop-a.invariant.network (c.loop-a.invariant.going.same none) (c.in_ok-improve_route.ensures.settled w.if-branch.false ended))
  ];
}

pub improve_route-requires-clause-routes : goal.improve_route-requires-clause-routes
improve_route-requires-clause-routes = grind (arith, common_steps)
