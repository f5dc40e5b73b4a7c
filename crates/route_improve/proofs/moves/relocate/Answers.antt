use Rattle.std.proofs.Common.{◌≤◌, length, subst}
use Rattle.index_links.specs.Lists.{list_at}
use Rattle.route_improve.specs.Moves.{relocated, taken_out}
use Rattle.route_improve.specs.Routes.{AreNoCheaper, lists_of}
use Rattle.route_improve.proofs.Made.{kept_by}
use Rattle.route_improve.proofs.TriedMoves.{shows}
use Rattle.route_improve.proofs.moves.relocate.Goals as goal

pub returns-then-a-b-clause-tried : goal.returns-then-a-b-clause-tried
returns-then-a-b-clause-tried c =
    kept_by c.relocate_within.result _ _ (λ made. shows _ _ _ _ _ made (λ none.
    subst (λ b. c.args.j ≤ length (list_at (taken_out (lists_of c.args.routes.now.items) c.args.a c.args.i) b) → AreNoCheaper c.args.pricer.now c.args.routes.now.items (relocated (lists_of c.args.routes.now.items) c.args.a c.args.i b c.args.j)) c.if-a-b.true none))
    c.relocate_within.ensures.tried
