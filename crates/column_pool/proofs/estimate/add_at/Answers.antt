use Rattle.std.proofs.Common.{ℕ, List, subst, sym}
use Rattle.route_pool.specs.Pool.{IsColumn}
use Rattle.column_pool.proofs.estimate.add_at.Goals as goal

pub add_if_kept-requires-clause-column : goal.add_if_kept-requires-clause-column
add_if_kept-requires-clause-column c =
    let column = c.in-Some.ensures.column c.args.inst.now c.requires.pool in
    subst (λ (ns : List ℕ). IsColumn c.args.inst.now ns c.in-Some.pooled.now.plan.stops) (sym c.deref.ensures.value) column
