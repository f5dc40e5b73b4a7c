use Rattle.std.proofs.Common.{◌≡◌, ◌∙◌, ℕ, Bool, List, Ok, subst, sym}
use Rattle.std.specs.Option.{option_map}
use Rattle.evview_run.proofs.Hearing.{no_places_are_heard}
use Rattle.evview_run.proofs.ViewFinds.{puts_no_places, still_some}
use Rattle.evview_run.specs.ViewAnswer.{EndsPlaces, HasPlaces, listed, needs_points}
use Rattle.place_names.specs.declared.faults.PlacesEnded.{PlacesEnded}
use Rattle.place_names.specs.declared.place.Place.{Place}
use Rattle.view_words.specs.JobValue.{view_value}
use Rattle.evview_run.proofs.view.view_text.Goals as goal

pub returns-in-Ok-view_plan-clause-answers : goal.returns-in-Ok-view_plan-clause-answers
returns-in-Ok-view_plan-clause-answers c = λ file plan_bytes has.
    let more = listed (option_map (λ b. b.now) c.args.bytes) in
    let needed : c.is_some.result ≡ needs_points (view_value c.args.job.now) = c.is_some.ensures ∙ sym (still_some c.args.job.now.map) in
    let placed = subst (λ (needs : Bool). HasPlaces needs c.args.inst.now more c.in-Ok.places.items) needed c.in-Ok.ensures.places in
    let named = subst (λ (places : List Place). HasPlaces (needs_points (view_value c.args.job.now)) c.args.inst.now more places) (sym c.as_slice.ensures.value) placed in
    c.in-Ok-view_plan.ensures.answers file plan_bytes more has named

pub returns-in-Ok-refuse_places-clause-answers : goal.returns-in-Ok-refuse_places-clause-answers
returns-in-Ok-refuse_places-clause-answers c = λ file plan_bytes has.
    let more = listed (option_map (λ b. b.now) c.args.bytes) in
    let needed : c.is_some.result ≡ needs_points (view_value c.args.job.now) = c.is_some.ensures ∙ sym (still_some c.args.job.now.map) in
    let ended = subst (λ (needs : Bool). EndsPlaces needs c.args.inst.now more c.in-Err-Refused.field-0) needed c.in-Err-Refused.ensures.fault in
    let breaks = subst (λ (e : PlacesEnded). EndsPlaces (needs_points (view_value c.args.job.now)) c.args.inst.now more e) c.in-Err-Refused.field-0-is ended in
    puts_no_places (view_value c.args.job.now) file plan_bytes more {E = ℕ} c.args.inst.now c.args.held.now c.in-Err-Refused.fault (Ok c.in-Ok-refuse_places.found)
    has breaks c.in-Ok-refuse_places.ensures.status c.in-Ok-refuse_places.ensures.files c.in-Ok-refuse_places.ensures.text

pub returns-in-Ok-refuse_places-clause-heard : goal.returns-in-Ok-refuse_places-clause-heard
returns-in-Ok-refuse_places-clause-heard c =
    no_places_are_heard {E = ℕ} c.in-Err-Refused.fault (Ok c.in-Ok-refuse_places.found)
    c.in-Ok-refuse_places.ensures.status c.in-Ok-refuse_places.ensures.text c.in-Ok-refuse_places.ensures.cause
