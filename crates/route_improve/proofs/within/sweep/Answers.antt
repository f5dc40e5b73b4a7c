use Rattle.std.proofs.Common.{◌∙◌, subst}
use Rattle.ev_model.specs.Network.{Network}
use Rattle.route_improve.specs.Routes.{AreCheaper}
use Rattle.route_improve.proofs.PlaceLooks.{going_made, going_not}
use Rattle.route_improve.proofs.within.sweep.Goals as goal
use Rattle.route_improve.proofs.within.sweep.Goals.{then-branch, else-branch}

pub loop-preserved : goal.loop-preserved
loop-preserved g c = record {
  network = c.look.ensures.network ∙ c.loop.invariant.network;
  going = elim c.if-branch.branch [
    | then-branch w ↦
        going_made c.args.pricer.now c.args.routes.now.items c.loop.routes.items c.look.new.routes.items c.loop.made c.if-branch.made c.loop.invariant.going
        (subst (λ (h : Network). AreCheaper h c.loop.routes.items c.look.new.routes.items) c.loop.invariant.network (c.in_ok-look.ensures.made w.if-branch.true)) w.made-is
    | else-branch w ↦
        going_not c.args.pricer.now c.args.routes.now.items c.loop.routes.items c.look.new.routes.items c.loop.made c.if-branch.made c.loop.invariant.going
        (c.in_ok-look.ensures.same w.if-branch.false) w.made-is
  ];
}
