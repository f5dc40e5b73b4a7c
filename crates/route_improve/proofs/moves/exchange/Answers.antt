use Rattle.std.proofs.Common.{subst, arith}
use Rattle.std.proofs.lemmas.Grind.{common_steps}
use Rattle.route_improve.specs.Moves.{exchanged}
use Rattle.route_improve.specs.Routes.{AreNoCheaper, lists_of}
use Rattle.route_improve.proofs.Made.{kept_by}
use Rattle.route_improve.proofs.TriedMoves.{shows}
use Rattle.route_improve.proofs.moves.exchange.Goals as goal

pub returns-then-a-b-clause-tried : goal.returns-then-a-b-clause-tried
returns-then-a-b-clause-tried c =
    kept_by c.exchange_within.result _ _ (λ made. shows _ _ _ _ _ made (λ none within.
    subst (λ b. AreNoCheaper c.args.pricer.now c.args.routes.now.items (exchanged (lists_of c.args.routes.now.items) c.args.a c.args.i b c.args.j)) c.if-a-b.true none))
    c.exchange_within.ensures.tried

pub returns-else-a-b-clause-tried : goal.returns-else-a-b-clause-tried
returns-else-a-b-clause-tried c = kept_by c.exchange_between.result _ _ (λ made. shows _ _ _ _ _ made (λ none within. none)) c.exchange_between.ensures.tried

pub exchange_within-requires-clause-other : goal.exchange_within-requires-clause-other
exchange_within-requires-clause-other = grind (arith, common_steps)

pub returns-then-j-len-clause-tried : goal.returns-then-j-len-clause-tried
returns-then-j-len-clause-tried = grind (arith, common_steps)

pub exchange_between-requires-clause-other : goal.exchange_between-requires-clause-other
exchange_between-requires-clause-other = grind (arith, common_steps)
