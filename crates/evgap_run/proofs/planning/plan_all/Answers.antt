use Rattle.std.proofs.Common.{◌≡◌, ◌∙◌, ℕ, Bool, false, true, Option, ap, inr, refl, subst, sym}
use Rattle.std.specs.Prelude.{◌&&◌}
use Rattle.std.specs.Option.{option_map}
use Rattle.evgap_run.proofs.Outcomes.{bounds_cost, held_is_orderly, is_found, told_ended, unended}
use Rattle.evgap_run.proofs.Written.{held_fits, takes}
use Rattle.evgap_run.specs.PlanAnswer.{IsPlanFound, alone_in, found_cause, plan_status}
use Rattle.evgap_run.specs.Report.{found_text}
use Rattle.report_lines.specs.Lines.{IsBoundOf}
use Rattle.gap_search.specs.Gap.{IsGapOutcome, cost_held}
use Rattle.tree_text.specs.BoundProofs.{bound_of}
use Rattle.route_plan.specs.PlanTexts.{FitsFile, fleet_plan_text}
use Rattle.route_plan.specs.declared.plan.FleetPlan.{FleetPlan}
use Rattle.evgap_run.proofs.planning.plan_all.Goals as goal
use Rattle.evgap_run.proofs.planning.plan_all.Goals.{In_ok-cert}

pub held_cost-requires : goal.held_cost-requires
held_cost-requires g c =
    held_is_orderly c.args.inst.now (option_map (λ p. p.now.routes) c.args.start) (c.args.options.ends_moves && g.C.MoveClock.has_ended c.close_gap.new.clock) c.in_ok-outcome.outcome.plan c.in_ok-outcome.ensures.plan

pub report-requires-clause-bound : goal.report-requires-clause-bound
report-requires-clause-bound g c =
    bounds_cost c.in_ok-cost.cost (cost_held c.args.inst.now c.in_ok-outcome.outcome.plan) c.bound.result
    c.in_ok-cost.ensures.cost (subst (λ (b : Option ℕ). IsBoundOf (cost_held c.args.inst.now c.in_ok-outcome.outcome.plan) b) (sym c.bound.ensures) c.in_ok-outcome.ensures.bound)

pub plan_text-requires : goal.plan_text-requires
plan_text-requires g c =
    subst (λ (p : Option FleetPlan). FitsFile p) (sym c.plan_held.ensures)
    (held_fits c.args.inst.now (option_map (λ p. p.now.routes) c.args.start) (c.args.options.ends_moves && g.C.MoveClock.has_ended c.close_gap.new.clock) c.in_ok-outcome.outcome.plan c.in_ok-outcome.ensures.plan)

pub proof_text-requires : goal.proof_text-requires
proof_text-requires g c = takes c.args.inst.now c.in_ok-outcome.outcome.proof c.in_ok-outcome.ensures.proof

-- what was found, where this is said of its moves
found_by : (g : _) (c : In_ok-cert g) (may_end ended : Bool) → (may_end ≡ false → ended ≡ false) → IsGapOutcome c.args.inst.now (option_map (λ p. p.now.routes) c.args.start) ended c.in_ok-outcome.outcome
    → IsPlanFound c.args.inst.now (option_map (λ p. p.now) c.args.start) may_end c.in_ok-plan.plan.items c.in_ok-cert.cert.items c.in_ok-answer.answer.status c.in_ok-answer.answer.text.items
found_by g c may_end ended may is =
    let o = c.in_ok-outcome.outcome in
    let answer = c.in_ok-answer.answer in
    let plan_is = subst (λ (p : Option FleetPlan). c.in_ok-plan.plan.items ≡ fleet_plan_text p) c.plan_held.ensures c.in_ok-plan.ensures in
    is_found c.args.inst.now c.args.start may_end ended o c.in_ok-cost.cost c.alone_in.result c.in_ok-plan.plan.items c.in_ok-cert.cert.items answer.text.items answer.status
    c.nodes-nodes.ensures.network may is c.in_ok-cost.ensures.cost c.alone_in.ensures plan_is c.in_ok-cert.ensures
    (subst (λ (b : Option ℕ). answer.status ≡ plan_status c.in_ok-cost.cost b) c.bound.ensures c.in_ok-answer.ensures.status)
    (subst (λ (b : Option ℕ). answer.text.items ≡ found_text c.args.inst.now.denominator c.alone_in.result c.in_ok-cost.cost b) c.bound.ensures c.in_ok-answer.ensures.text)

may_only : (may_end ended : Bool) → may_end ≡ false → may_end && ended ≡ false
may_only false ended none = refl
may_only true ended none = absurd (cc)

said_too : (may_end ended : Bool) → may_end && ended ≡ true → ended ≡ true
said_too false ended both = absurd (cc)
said_too true ended both = both

pub returns-clause-found : goal.returns-clause-found
returns-clause-found g c =
    let ended : Bool = g.C.MoveClock.has_ended c.close_gap.new.clock in
    found_by g (goal.at.returns-clause-found g c).In_ok-cert c.args.options.ends_moves (c.args.options.ends_moves && ended) (may_only c.args.options.ends_moves ended) c.in_ok-outcome.ensures

pub returns-clause-heard : goal.returns-clause-heard
returns-clause-heard g c =
    inr (inr (record {
      denominator = c.args.inst.now.denominator;
      alone = c.alone_in.result;
      cost = c.in_ok-cost.cost;
      bound = c.bound.result;
      status_is = c.in_ok-answer.ensures.status;
      text_is = c.in_ok-answer.ensures.text;
      moves_ended = c.moves_ended.result;
      may = λ none. c.moves_ended.ensures ∙ may_only c.args.options.ends_moves (g.C.MoveClock.has_ended c.close_gap.new.clock) none;
      heard_is = c.in_ok-answer.ensures.cause;
    }))

-- what is told, by what was found
told_is : (g : _) (c : In_ok-cert g) → found_cause c.alone_in.result c.bound.result c.moves_ended.result
    ≡ found_cause (alone_in c.in_ok-outcome.outcome.plan) (bound_of c.in_ok-outcome.outcome.proof) (c.args.options.ends_moves && g.C.MoveClock.has_ended c.close_gap.new.clock)
told_is g c =
    let o = c.in_ok-outcome.outcome in
    ap (λ (a : Option ℕ). found_cause a c.bound.result c.moves_ended.result) c.alone_in.ensures
    ∙ ap (λ (b : Option ℕ). found_cause (alone_in o.plan) b c.moves_ended.result) c.bound.ensures
    ∙ ap (λ (e : Bool). found_cause (alone_in o.plan) (bound_of o.proof) e) c.moves_ended.ensures

pub returns-clause-settled : goal.returns-clause-settled
returns-clause-settled g c = λ untold.
    let at = (goal.at.returns-clause-settled g c).In_ok-cert in
    let ended : Bool = c.args.options.ends_moves && g.C.MoveClock.has_ended c.close_gap.new.clock in
    found_by g at false false (λ none. refl)
    (unended c.args.inst.now (option_map (λ p. p.now.routes) c.args.start) ended c.in_ok-outcome.outcome c.in_ok-outcome.ensures
    (λ told. untold (c.in_ok-answer.ensures.cause ∙ told_is g at ∙ told)))

pub returns-clause-ended : goal.returns-clause-ended
returns-clause-ended g c = λ told.
    said_too c.args.options.ends_moves (g.C.MoveClock.has_ended c.close_gap.new.clock)
    (sym c.moves_ended.ensures ∙ told_ended c.alone_in.result c.bound.result c.moves_ended.result (sym c.in_ok-answer.ensures.cause ∙ told))
