use Rattle.std.proofs.Common.{◌≡◌, ◌∙◌, ℕ, List, ap, arith, below_more, get_or, length, subst}
use Rattle.std.proofs.lemmas.Grind.{common_steps}
use Rattle.ev_model.specs.Network.{Network}
use Rattle.route_improve.specs.Routes.{AreCheaper, IsSettledAt, count_at}
use Rattle.route_improve.specs.declared.route.Route.{Route}
use Rattle.route_improve.proofs.Changed.{list_is}
use Rattle.route_improve.proofs.PlaceLooks.{at_same, settled_to}
use Rattle.route_improve.proofs.Made.{kept_by}
use Rattle.route_improve.proofs.TriedMoves.{tried_made, tried_next}
use Rattle.route_improve.proofs.pass.improve_customer.Goals as goal

pub loop-j-preserved : goal.loop-j-preserved
loop-j-preserved g c = record {
  network = c.try_moves.ensures.network ∙ c.loop-j.invariant.network;
  same = c.in_ok-try_moves.ensures.tried.same c.if-branch.false ∙ c.loop-j.invariant.same;
  stays = λ was. c.is_over.ensures.stays (c.loop-j.invariant.stays was);
  settled = below_more (λ (n : ℕ). IsSettledAt c.args.pricer.now c.args.routes.now.items c.args.a c.args.i c.args.b n) c.loop-j.j c.loop-j.invariant.settled
      (at_same (λ (h : Network) (rs : List Route). IsSettledAt h rs c.args.a c.args.i c.args.b c.loop-j.j) c.args.pricer.now c.loop-j.pricer c.args.routes.now.items c.loop-j.routes.items c.loop-j.invariant.network c.loop-j.invariant.same (c.in_ok-try_moves.ensures.tried.settled c.if-branch.false));
}

pub returns-clause-tried : goal.returns-clause-tried
returns-clause-tried g c =
    let count : c.len-j-end.result ≡ count_at c.args.routes.now.items c.args.b = omega (arith, c.len-j-end.ensures, ap (λ (r : Route). length r.order.items) c.index.ensures, ap length (list_is c.args.routes.now.items c.args.b c.index.result.now c.requires.to)) in
    let here : c.index-2.result.now ≡ get_or c.args.routes.now.items c.args.b c.index-2.result.now = c.index-2.ensures ∙ ap (λ (rs : List Route). get_or rs c.args.b c.index-2.result.now) c.loop-j.invariant.same in
    let last : c.len-last.result ≡ count_at c.args.routes.now.items c.args.b = omega (arith, c.len-last.ensures, ap (λ (r : Route). length r.order.items) here, ap length (list_is c.args.routes.now.items c.args.b c.index-2.result.now c.requires.to)) in
    kept_by c.try_moves-2.result _ _ (λ made. tried_next c.args.pricer.now c.loop-j.pricer c.args.routes.now.items c.loop-j.routes.items _ _ _ made c.loop-j.invariant.network c.loop-j.invariant.same (λ none ended.
    settled_to c.args.pricer.now c.args.routes.now.items c.args.a c.args.i c.args.b c.requires.from (λ j within. c.loop-j.invariant.settled j (omega (arith, within, count, c.loop-j-test.false)))
    (subst (IsSettledAt c.args.pricer.now c.args.routes.now.items c.args.a c.args.i c.args.b) last
    (at_same (λ (h : Network) (rs : List Route). IsSettledAt h rs c.args.a c.args.i c.args.b c.len-last.result) c.args.pricer.now c.loop-j.pricer c.args.routes.now.items c.loop-j.routes.items c.loop-j.invariant.network c.loop-j.invariant.same none))))
    c.try_moves-2.ensures.tried

pub returns-then-branch-clause-tried : goal.returns-then-branch-clause-tried
returns-then-branch-clause-tried g c =
    tried_made c.args.pricer.now c.args.routes.now.items c.try_moves.new.routes.items _
    (subst (λ (rs : List Route). AreCheaper c.args.pricer.now rs c.try_moves.new.routes.items) c.loop-j.invariant.same
    (subst (λ (h : Network). AreCheaper h c.loop-j.routes.items c.try_moves.new.routes.items) c.loop-j.invariant.network (c.in_ok-try_moves.ensures.tried.cheaper c.if-branch.true)))

pub try_moves-requires : goal.try_moves-requires
try_moves-requires = grind (arith, common_steps)

pub try_moves-requires-2 : goal.try_moves-requires-2
try_moves-requires-2 = grind (arith, common_steps)
