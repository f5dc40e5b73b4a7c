use Rattle.std.proofs.Common.{ℕ, List, ◌≤◌, subst, sym, arith}
use Rattle.std.proofs.lemmas.Grind.{common_steps}
use Rattle.std.specs.Prelude.{IfOk}
use Rattle.std.proofs.lemmas.Result.{IfOk-weaker}
use Rattle.ev_model.specs.Network.{Network}
use Rattle.route_steps.specs.Steps.{AreSteps, CoverStops}
use Rattle.route_proof.proofs.Ranges.{low_levels}
use Rattle.route_proof.specs.Tellings.{state_of}
use Rattle.route_proof.proofs.LabelSteps.{stands}
use Rattle.route_proof.proofs.judged.Judged.values.Goals as goal

pub values_at-requires-clause-levels : goal.values_at-requires-clause-levels
values_at-requires-clause-levels c level is =
    subst (λ (g : Network). level ≤ g.capacity) (sym c.instance.ensures.value) (low_levels c.args.self.now.journey.network c.args.self.now.journey.route c.args.label.now c.requires.label level is)

pub returns-clause-steps : goal.returns-clause-steps
returns-clause-steps c =
    let l = c.args.label.now in
    subst (λ (g : Network). IfOk c.values_at.result (λ values. AreSteps g c.args.self.now.journey.route (state_of c.args.label.now) c.args.to.passed c.args.to.node values.items)) c.instance.ensures.value
    (subst (λ (r : List ℕ). IfOk c.values_at.result (λ values. AreSteps c.instance.result.now r (state_of c.args.label.now) c.args.to.passed c.args.to.node values.items)) c.route.ensures
    (IfOk-weaker c.values_at.result _ _ (λ values are. are (state_of l) (stands l)) c.values_at.ensures.steps))

pub returns-clause-covers : goal.returns-clause-covers
returns-clause-covers c =
    let l = c.args.label.now in
    subst (λ (g : Network). IfOk c.values_at.result (λ values. CoverStops g c.args.self.now.journey.route (state_of c.args.label.now) c.args.to.passed c.args.to.node values.items)) c.instance.ensures.value
    (subst (λ (r : List ℕ). IfOk c.values_at.result (λ values. CoverStops c.instance.result.now r (state_of c.args.label.now) c.args.to.passed c.args.to.node values.items)) c.route.ensures
    (IfOk-weaker c.values_at.result _ _ (λ values cover. cover (state_of l) (stands l)) c.values_at.ensures.covers))

pub values_at-requires-clause-next : goal.values_at-requires-clause-next
values_at-requires-clause-next = grind (arith, common_steps)
