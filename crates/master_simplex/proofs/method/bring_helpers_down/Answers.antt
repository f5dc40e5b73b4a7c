use Rattle.std.proofs.Common.{◌≡◌, rules, sym, subst}
use Rattle.master_simplex.specs.Phase.{IsPhase}
use Rattle.master_simplex.proofs.HelperStarts.{start}
use Rattle.master_simplex.proofs.Tables.{then_reached}
use Rattle.master_simplex.proofs.method.bring_helpers_down.Goals as goal

pub run-requires : goal.run-requires
run-requires c =
    let same : c.deref.result.now ≡ c.restore.new.t.basis = search rules in
    subst (λ places. IsPhase places c.restore.new.t) (sym same) (start c.restore.new.t c.basis_of.ensures.tableau c.in_ok-restore.ensures.feasible)

pub returns-clause-reached : goal.returns-clause-reached
returns-clause-reached c = then_reached c.args.t.now c.restore.new.t c.run.new.t c.restore.ensures.reached c.run.ensures.reached
