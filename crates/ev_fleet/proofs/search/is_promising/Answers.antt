use Rattle.std.proofs.Common.{refl, sym, subst}
use Rattle.std.specs.Prelude.{IsNone}
use Rattle.ev_fleet.specs.Held.{cost_at}
use Rattle.ev_fleet.proofs.PromisingNodes.{done_where_none_lives}
use Rattle.ev_fleet.proofs.search.is_promising.Goals as goal

pub returns-in-None-default-clause-done : goal.returns-in-None-default-clause-done
returns-in-None-default-clause-done c = λ _.
    done_where_none_lives c.args.search.now.tree.nodes (cost_at c.args.search.now.held)
    (c.least_bound.ensures.none.0 (subst (λ r. IsNone r) (sym c.in-None-default.is-0) refl))
