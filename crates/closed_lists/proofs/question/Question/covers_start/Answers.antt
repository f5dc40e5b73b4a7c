use Rattle.std.proofs.Common.{◌∙◌, ap, subst, refl, pos}
use Rattle.piece_fn.specs.PieceFn.{level_times}
use Rattle.label_steps.specs.Covering.{IsCoveredAll, IsMissed}
use Rattle.closed_lists.specs.Asking.{Asking, covers}
use Rattle.closed_lists.specs.Questions.{Question}
use Rattle.closed_lists.specs.declared.coverage.Target.{Target}
use Rattle.closed_lists.proofs.StartState.{IsStartTarget, start_covered, start_missed}
use Rattle.closed_lists.proofs.question.Question.covers_start.Goals as goal

pub returns-clause-covered : goal.returns-clause-covered
returns-clause-covered c passes =
    let t : Target = record { last = 0; node = 0; set = c.empty.result; paid = pos 0 } in
    let target : IsStartTarget t = record { last = refl; node = refl; set = c.empty.ensures; paid = refl } in
    start_covered c.args.self.now t c.max_q.result c.point-full.result target (c.max_q.ensures.value ∙ ap (λ (q : Question). q.network.capacity) c.self.view_is) c.point-full.ensures (subst (λ (a : Asking). IsCoveredAll (covers a) (level_times c.point-full.result)) c.asked.ensures (c.covers_all.ensures.covered passes))

pub returns-clause-missed : goal.returns-clause-missed
returns-clause-missed c fails =
    let t : Target = record { last = 0; node = 0; set = c.empty.result; paid = pos 0 } in
    let target : IsStartTarget t = record { last = refl; node = refl; set = c.empty.ensures; paid = refl } in
    start_missed c.args.self.now t c.max_q.result c.point-full.result target (c.max_q.ensures.value ∙ ap (λ (q : Question). q.network.capacity) c.self.view_is) c.point-full.ensures (subst (λ (a : Asking). IsMissed (covers a) (level_times c.point-full.result)) c.asked.ensures (c.covers_all.ensures.missed fails))
