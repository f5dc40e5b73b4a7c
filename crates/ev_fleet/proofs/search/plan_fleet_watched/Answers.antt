use Rattle.std.proofs.Common.{arith}
use Rattle.std.proofs.lemmas.Grind.{common_steps}
use Rattle.std.proofs.lemmas.Result.{IfOk-weaker}
use Rattle.ev_fleet.specs.Held.{cost_at}
use Rattle.ev_fleet.specs.Outcome.{IsOutcome}
use Rattle.ev_fleet.specs.Searching.{IsOutcomeOf}
use Rattle.ev_fleet.proofs.SearchSteps.{root_more, within_more}
use Rattle.ev_fleet.proofs.Whole.{takes_lower}
use Rattle.ev_fleet.proofs.search.plan_fleet_watched.Goals as goal

pub loop-budget-preserved : goal.loop-budget-preserved
loop-budget-preserved g c =
    let old = c.loop-budget.search in
    let new = c.step.new.search in
    let one = c.in_ok-step.ensures.one in
    record {
      searching = c.in_ok-step.ensures.searching;
      root = root_more c.args.inst.now old.sections.items new.sections.items _ one c.loop-budget.invariant.root;
      taken = takes_lower c.args.inst.now _ (cost_at old.held) (cost_at new.held) c.in_ok-step.ensures.kept c.loop-budget.invariant.taken;
      within = within_more c.args.budget old.sections.items new.sections.items one (c.goes_on.ensures.within c.loop-budget-test.true);
    }

pub returns : goal.returns
returns g c =
    IfOk-weaker c.outcome_of.result (IsOutcomeOf c.args.inst.now c.loop-budget.search) (IsOutcome c.args.inst.now c.args.budget)
    (λ o is. is c.args.budget c.loop-budget.invariant.within (c.goes_on.ensures.ended c.loop-budget-test.false)) c.outcome_of.ensures

pub step-requires-clause-promising : goal.step-requires-clause-promising
step-requires-clause-promising = grind (arith, common_steps)

pub loop-budget-init : goal.loop-budget-init
loop-budget-init = grind (arith, common_steps)
