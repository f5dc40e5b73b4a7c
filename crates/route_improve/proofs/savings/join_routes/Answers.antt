use Rattle.std.proofs.Common.{◌∙◌, subst, arith}
use Rattle.std.proofs.lemmas.Grind.{common_steps}
use Rattle.ev_model.specs.Network.{Network}
use Rattle.route_improve.specs.Routes.{AreCheaper}
use Rattle.route_improve.proofs.PlaceLooks.{going_made, going_not}
use Rattle.route_improve.proofs.savings.join_routes.Goals as goal
use Rattle.route_improve.proofs.savings.join_routes.Goals.{then-branch, else-branch}

pub join-requires : goal.join-requires
join-requires = grind (arith, common_steps)

pub loop-saving-preserved : goal.loop-saving-preserved
loop-saving-preserved g c = record {
  network = c.join.ensures.network ∙ c.loop-saving.invariant.network;
  stays = λ was. c.is_over.ensures.stays (c.loop-saving.invariant.stays was);
  going = elim c.if-branch.branch [
    | then-branch w ↦
        going_made c.args.pricer.now c.args.routes.now.items c.loop-saving.routes.items c.join.new.routes.items c.loop-saving.made c.if-branch.made c.loop-saving.invariant.going
        (subst (λ (h : Network). AreCheaper h c.loop-saving.routes.items c.join.new.routes.items) c.loop-saving.invariant.network (c.in_ok-join.ensures.made w.if-branch.true)) w.made-is
    | else-branch w ↦
        going_not c.args.pricer.now c.args.routes.now.items c.loop-saving.routes.items c.join.new.routes.items c.loop-saving.made c.if-branch.made c.loop-saving.invariant.going
        (c.in_ok-join.ensures.same w.if-branch.false) w.made-is
  ];
}
