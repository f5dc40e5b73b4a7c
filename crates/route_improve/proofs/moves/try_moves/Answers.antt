use Rattle.std.proofs.Common.{arith}
use Rattle.std.proofs.lemmas.Grind.{common_steps}
use Rattle.route_improve.proofs.PlaceLooks.{settled_at}
use Rattle.route_improve.proofs.Made.{kept_by}
use Rattle.route_improve.proofs.TriedMoves.{tried_next}
use Rattle.route_improve.proofs.moves.try_moves.Goals as goal

pub returns-clause-tried : goal.returns-clause-tried
returns-clause-tried c =
    kept_by c.exchange.result _ _ (λ made. tried_next c.args.pricer.now c.relocate.new.pricer c.args.routes.now.items c.relocate.new.routes.items _ _ _ made c.relocate.ensures.network (c.in_ok-relocate.ensures.tried.same c.if-branch.false)
    (λ none. settled_at c.args.pricer.now c.relocate.new.pricer c.args.routes.now.items c.relocate.new.routes.items c.args.a c.args.i c.args.b c.args.j c.relocate.ensures.network (c.in_ok-relocate.ensures.tried.same c.if-branch.false)
    (c.in_ok-relocate.ensures.tried.settled c.if-branch.false) none))
    c.exchange.ensures.tried

pub exchange-requires : goal.exchange-requires
exchange-requires = grind (arith, common_steps)

pub returns-then-branch-clause-tried : goal.returns-then-branch-clause-tried
returns-then-branch-clause-tried = grind (arith, common_steps)
