use Rattle.std.proofs.Common.{arith, subst, sym}
use Rattle.std.proofs.lemmas.Result.{err_from_is_err_and}
use Rattle.ev_model.specs.Network.{Network}
use Rattle.plan_check.specs.LaterRules.{IsFirstLater, KeepsLater}
use Rattle.plan_check.specs.Tallies.{AllKnown}
use Rattle.mixed_model.specs.MixedRules.{plain_routes}
use Rattle.mixed_model.proofs.KindNumbers.{kind_is}
use Rattle.mixed_model.proofs.Broken.{all_known, kept_is_plan, later_is_first, walk_is_first}
use Rattle.mixed_model.proofs.plan_judge.check_mixed_plan.Goals as goal

pub returns-in_err-cost-clause-broken : goal.returns-in_err-cost-clause-broken
returns-in_err-cost-clause-broken c =
    let returned = err_from_is_err_and c.from_residual.result c.from_residual.ensures.1 in
    rw (returned.1, returned.2) (walk_is_first c.args.kinds.now c.args.plan.now c.in_err-cost.field-0.0 c.in_err-cost.ensures.fault)

pub fault_behind_walks-requires-clause-known : goal.fault_behind_walks-requires-clause-known
fault_behind_walks-requires-clause-known c =
    let kinds = c.args.kinds.now in
    let plan = c.args.plan.now in
    let same = kind_is kinds 0 c.index-kinds-0.result (omega (arith, c.requires.kinds.some)) c.index-kinds-0.is in
    subst (λ (g : Network). AllKnown g (plain_routes plan)) same (all_known kinds plan c.requires.known c.requires.kinds c.in_ok-cost.ensures.feasible)

pub returns-in-Some-clause-broken : goal.returns-in-Some-clause-broken
returns-in-Some-clause-broken c =
    let kinds = c.args.kinds.now in
    let plan = c.args.plan.now in
    let same = kind_is kinds 0 c.index-kinds-0.result (omega (arith, c.requires.kinds.some)) c.index-kinds-0.is in
    later_is_first kinds plan c.in-Some.fault c.in_ok-cost.ensures.feasible (subst (λ (g : Network). IsFirstLater g (plain_routes plan) c.in-Some.fault) (sym same) c.in-Some.ensures.first)

pub returns-in-None-clause-valid : goal.returns-in-None-clause-valid
returns-in-None-clause-valid c =
    let kinds = c.args.kinds.now in
    let plan = c.args.plan.now in
    let same = kind_is kinds 0 c.index-kinds-0.result (omega (arith, c.requires.kinds.some)) c.index-kinds-0.is in
    kept_is_plan kinds plan c.requires.known c.in_ok-cost.ensures.feasible (subst (λ (g : Network). KeepsLater g (plain_routes plan)) (sym same) c.in-None.ensures.none)
