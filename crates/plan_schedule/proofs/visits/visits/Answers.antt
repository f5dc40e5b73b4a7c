use Rattle.std.proofs.Common.{[], ◌∷◌, List, false, sym, subst, arith}
use Rattle.std.specs.List.{All}
use Rattle.std.proofs.lemmas.List.Elements.{All-append, All-cons, All-nil}
use Rattle.ev_model.specs.declared.Stop.{Stop}
use Rattle.plan_schedule.specs.Visits.{IsWithin, visits_of}
use Rattle.plan_schedule.specs.declared.schedule.Visit.{Visit}
use Rattle.plan_schedule.proofs.GoesOn.{goes_next, goes_to_next, told_next}
use Rattle.std.proofs.lemmas.Grind.{common_steps}
use Rattle.plan_schedule.proofs.visits.visits.Goals as goal

pub visit-before-requires-clause-in_time : goal.visit-before-requires-clause-in_time
visit-before-requires-clause-in_time c =
    let d : Stop = record { node = 0; added = 0; via = false } in
    let goes = goes_to_next c.args.inst.now c.loop-at.before c.args.stops.now d c.loop-at.at c.loop-at-test.true c.loop-at.invariant.goes in
    goes.in_time

pub loop-at-preserved : goal.loop-at-preserved
loop-at-preserved c =
    let d : Stop = record { node = 0; added = 0; via = false } in
    let g = c.args.inst.now in
    let old = c.loop-at.visits.items in
    let w = c.visit-before.result in
    let P = IsWithin g in
    record {
      some = omega arith;
      told = told_next g old c.push-in-loop-at.new.self.items c.loop-at.before w (visits_of g c.args.start c.args.stops.now) c.args.stops.now d c.loop-at.at c.loop-at-test.true c.in_ok-push-2.ensures.items c.visit-before.ensures.value c.loop-at.invariant.told;
      goes = goes_next g c.loop-at.before w c.args.stops.now d c.loop-at.at c.loop-at-test.true c.visit-before.ensures.value c.loop-at.invariant.goes;
      within = subst (λ (xs : List Visit). All P xs) (sym c.in_ok-push-2.ensures.items) (All-append P old (w ∷ []) c.loop-at.invariant.within (All-cons P w [] c.visit-before.ensures.within (All-nil P)));
    }

pub visit-before-requires-clause-known : goal.visit-before-requires-clause-known
visit-before-requires-clause-known = grind (arith, common_steps)

pub visit-before-requires-clause-reached : goal.visit-before-requires-clause-reached
visit-before-requires-clause-reached = grind (arith, common_steps)

pub visit-before-requires-clause-full : goal.visit-before-requires-clause-full
visit-before-requires-clause-full = grind (arith, common_steps)

pub returns-clause-value : goal.returns-clause-value
returns-clause-value = grind (arith, common_steps)

pub loop-at-init : goal.loop-at-init
loop-at-init = grind (arith, common_steps)
