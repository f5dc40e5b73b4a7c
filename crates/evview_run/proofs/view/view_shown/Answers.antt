use Rattle.std.proofs.Common.{◌≡◌, ◌∙◌, ℕ, IfOk, None, Option, Some, ap, map, subst, sym}
use Rattle.std.specs.Option.{option_map}
use Rattle.evview_run.proofs.Hearing.{done_is_heard, other_time_is_heard}
use Rattle.evview_run.proofs.Shown.{driven_is_feasible, showable_is_driven, time_is_cost}
use Rattle.evview_run.proofs.ViewFinds.{puts_other_time, puts_schedule}
use Rattle.evview_run.specs.ViewAnswer.{clock_of, files_of, other_time_text, untrue}
use Rattle.job_frame.specs.Finds.{written_by}
use Rattle.plan_schedule.specs.declared.schedule.Schedule.{Schedule}
use Rattle.schedule_texts.specs.Tables.{table_text}
use Rattle.view_words.specs.JobValue.{view_value}
use Rattle.evview_run.proofs.view.view_shown.Goals as goal

pub shown-requires-clause-feasible : goal.shown-requires-clause-feasible
shown-requires-clause-feasible c =
    let held = c.args.held.now in
    let g = c.args.inst.now in
    let cost = c.requires.showable.0 in
    driven_is_feasible g held.start held.plan cost (showable_is_driven c.args.job.now.form g held cost c.requires.held.start c.requires.showable.1)

pub returns-in-Some-clause-answers : goal.returns-in-Some-clause-answers
returns-in-Some-clause-answers c = λ file plan_bytes more has named.
    let held = c.args.held.now in
    let g = c.args.inst.now in
    let cost = c.requires.showable.0 in
    let valid = c.requires.showable.1 in
    let time = ap (λ (s : Option Schedule). option_map (λ s. s.totals.time) s) (c.as_ref.ensures.value ∙ c.in_ok-shown.ensures.shown) ∙ time_is_cost c.args.job.now.form g c.args.job.now.route held cost c.requires.held.start valid in
    let other : untrue held.told cost ≡ Some c.in-Some.told = ap (λ (t : Option ℕ). untrue held.told t) (sym time) ∙ sym c.untrue.ensures ∙ c.in-Some.is in
    let text = subst (λ (d : ℕ). IfOk c.reject_time.result (λ f. f.answer.text.items ≡ other_time_text d c.in-Some.told)) c.denominator.ensures.value c.reject_time.ensures.text in
    puts_other_time (view_value c.args.job.now) file plan_bytes more g held c.args.places.now cost c.in-Some.told c.reject_time.result
    has named valid c.requires.route other c.reject_time.ensures.status c.reject_time.ensures.files text

pub returns-clause-answers : goal.returns-clause-answers
returns-clause-answers c = λ file plan_bytes more has named.
    let w = c.args.job.now in
    let held = c.args.held.now in
    let g = c.args.inst.now in
    let cost = c.requires.showable.0 in
    let valid = c.requires.showable.1 in
    let time = ap (λ (s : Option Schedule). option_map (λ s. s.totals.time) s) (c.as_ref.ensures.value ∙ c.in_ok-shown.ensures.shown) ∙ time_is_cost w.form g w.route held cost c.requires.held.start valid in
    let told : untrue held.told cost ≡ None = ap (λ (t : Option ℕ). untrue held.told t) (sym time) ∙ sym c.untrue.ensures ∙ c.in-None.is in
    let shown = c.as_ref-in-None.ensures.value ∙ c.in_ok-shown.ensures.shown in
    let files = subst (λ (s : Option Schedule). IfOk c.show.result (λ f. map written_by f.files.items ≡ files_of (view_value w) c.args.places.now s)) shown c.show.ensures.files in
    let text = subst (λ (s : Option Schedule). IfOk c.show.result (λ f. f.answer.text.items ≡ table_text w.exact (clock_of w.clock) c.args.places.now s)) shown c.show.ensures.text in
    puts_schedule (view_value w) file plan_bytes more g held c.args.places.now cost c.show.result
    has named valid c.requires.route told c.show.ensures.status files text

pub returns-in-Some-clause-heard : goal.returns-in-Some-clause-heard
returns-in-Some-clause-heard c = other_time_is_heard c.denominator.result c.in-Some.told c.reject_time.result c.reject_time.ensures.status c.reject_time.ensures.text c.reject_time.ensures.cause

pub returns-clause-heard : goal.returns-clause-heard
returns-clause-heard c = done_is_heard c.show.result c.show.ensures.status c.show.ensures.cause
