use Rattle.std.proofs.Common.{◌∙◌, ℕ, List, below_more, subst, sym, arith}
use Rattle.std.proofs.lemmas.Grind.{common_steps}
use Rattle.std.proofs.lemmas.Bool.{false≢true}
use Rattle.ev_model.specs.Network.{Network}
use Rattle.route_improve.specs.Routes.{AreCheaper, IsSettledPair, count_at}
use Rattle.route_improve.specs.declared.route.Route.{Route}
use Rattle.route_improve.proofs.Clocks.{not_before}
use Rattle.route_improve.proofs.PlaceLooks.{at_same, going_made, going_not}
use Rattle.route_improve.proofs.pass.improve_route.Goals as goal
use Rattle.route_improve.proofs.pass.improve_route.Goals.{then-branch, else-branch}

pub loop-b-preserved : goal.loop-b-preserved
loop-b-preserved g c = record {
  network = c.improve_pair.ensures.network ∙ c.loop-b.invariant.network;
  going = elim c.if-branch.branch [
    | then-branch w ↦
        going_made c.args.pricer.now c.args.routes.now.items c.loop-b.routes.items c.improve_pair.new.routes.items c.loop-b.made c.if-branch.made c.loop-b.invariant.going
        (subst (λ (h : Network). AreCheaper h c.loop-b.routes.items c.improve_pair.new.routes.items) c.loop-b.invariant.network (c.in_ok-improve_pair.ensures.made w.if-branch.true)) w.made-is
    | else-branch w ↦
        going_not c.args.pricer.now c.args.routes.now.items c.loop-b.routes.items c.improve_pair.new.routes.items c.loop-b.made c.if-branch.made c.loop-b.invariant.going
        (c.in_ok-improve_pair.ensures.same w.if-branch.false) w.made-is
  ];
  stays = λ was. c.improve_pair.ensures.stays (c.loop-b.invariant.stays was);
  settled = λ no ended. elim c.if-branch.branch [
    | then-branch w ↦ absurd (false≢true (sym no ∙ w.made-is))
    | else-branch w ↦
        let none = sym w.made-is ∙ no in
        below_more (λ (n : ℕ). IsSettledPair c.args.pricer.now c.args.routes.now.items (count_at c.args.routes.now.items c.args.a) c.args.a n) c.loop-b.b (c.loop-b.invariant.settled none (not_before _ _ c.improve_pair.ensures.stays ended))
        (at_same (λ (h : Network) (rs : List Route). IsSettledPair h rs (count_at rs c.args.a) c.args.a c.loop-b.b) c.args.pricer.now c.loop-b.pricer c.args.routes.now.items c.loop-b.routes.items c.loop-b.invariant.network (c.loop-b.invariant.going.same none) (c.in_ok-improve_pair.ensures.settled w.if-branch.false ended))
  ];
}

pub returns-clause-made : goal.returns-clause-made
returns-clause-made = grind (arith, common_steps)

pub improve_pair-requires-clause-routes : goal.improve_pair-requires-clause-routes
improve_pair-requires-clause-routes = grind (arith, common_steps)
