-- What is heard of an answer that was made, by its status, its text and its cause.
use Rattle.std.proofs.Common.{◌≡◌, ◌≢◌, ℕ, Bool, true, false, None, Option, Some, Result, Ok, Err, IfOk, inl, inr, refl}
use Rattle.evroute_run.specs.BoundAnswer.{bound_status}
use Rattle.evroute_run.specs.CheckAnswer.{check_heard, judged_cause, judged_status}
use Rattle.evroute_run.specs.CheckRouteAnswer.{check_route_heard}
use Rattle.evroute_run.specs.FleetAnswer.{search_status}
use Rattle.evroute_run.specs.ImproveAnswer.{improve_heard}
use Rattle.evroute_causes.specs.Heard.{HearsBrokenPlan}
use Rattle.evroute_causes.proofs.Hearing.{HearsOf, HearsOfFound, search_is_heard}
use Rattle.evroute_causes.specs.Heard.{HearsSearch, cause_beside}
use Rattle.evroute_causes.specs.declared.cause.Cause.TheVariants as cause
use Rattle.job_frame.specs.declared.found.Answer.{Answer}
use Rattle.job_frame.specs.declared.found.Found.{Found}
use Rattle.job_frame.specs.declared.status.Status.TheVariants as status
use Rattle.plan_writer.specs.CheckText.{check_text}
use Rattle.plan_writer.specs.declared.check.Judgement.{Judgement}
use Rattle.route_improve.specs.ImprovedText.{alone_text}
use Rattle.route_proof.specs.VerdictText.{verdict_text}
use Rattle.route_proof.specs.declared.verdict.RouteVerdict.{RouteVerdict}
use Rattle.route_proof.specs.declared.verdict.RouteVerdict.TheVariants as verdict
use Rattle.evroute_causes.specs.declared.cause.Cause.{Cause}

-- ---- of a search for a fleet, and of a bound

pub fleet_is_heard : (bound : Option ℕ) (stopped : Bool) (a : Answer Cause) → a.status ≡ search_status bound stopped → a.cause ≡ cause_beside bound → HearsOf HearsSearch a
fleet_is_heard None stopped a answered heard = inr (search_is_heard None status.Done a (λ is. cc) refl answered heard)
fleet_is_heard (Some bound) true a answered heard = inr (search_is_heard (Some bound) status.Stopped a (λ is. cc) refl answered heard)
fleet_is_heard (Some bound) false a answered heard = inr (search_is_heard (Some bound) status.Done a (λ is. cc) refl answered heard)

pub bound_is_heard : (bound : Option ℕ) (a : Answer Cause) → a.status ≡ bound_status bound → a.cause ≡ cause_beside bound → HearsOf HearsSearch a
bound_is_heard None a answered heard = inr (search_is_heard None status.Done a (λ is. cc) refl answered heard)
bound_is_heard (Some bound) a answered heard = inr (search_is_heard (Some bound) status.Done a (λ is. cc) refl answered heard)

-- ---- of what judges find

pub judgement_is_heard : {E : Type 0} (denominator : ℕ) (found : Judgement) (made : Result (Answer Cause) E) → IfOk made (λ a. a.status ≡ judged_status found)
    → IfOk made (λ a. a.text.items ≡ check_text denominator found) → IfOk made (λ a. a.cause ≡ judged_cause found) → IfOk made (HearsOf check_heard)
judgement_is_heard {E} denominator found (Err e) answered text heard = tt
judgement_is_heard {E} denominator found (Ok a) answered text heard = inr (record { denominator = denominator; found = found; status_is = answered; text_is = text; heard_is = heard })

pub accepted_is_heard : {E : Type 0} (made : Result (Answer Cause) E) → IfOk made (λ a. a.status ≡ status.Done) → IfOk made (λ a. a.cause ≡ None) → IfOk made (HearsOf check_route_heard)
accepted_is_heard {E} (Err e) answered heard = tt
accepted_is_heard {E} (Ok a) answered heard = inr (inr (answered, heard))

pub rejected_is_heard : {E : Type 0} (denominator : ℕ) (found : RouteVerdict) (made : Result (Answer Cause) E) → found ≢ verdict.Accepted → IfOk made (λ a. a.status ≡ status.Negative)
    → IfOk made (λ a. a.text.items ≡ verdict_text denominator None found) → IfOk made (λ a. a.cause ≡ Some (cause.Route found)) → IfOk made (HearsOf check_route_heard)
rejected_is_heard {E} denominator found (Err e) broken answered text heard = tt
rejected_is_heard {E} denominator found (Ok a) broken answered text heard =
    inr (inl (record { denominator = denominator; found = found; broken = broken; status_is = answered; text_is = text; heard_is = heard }))

-- ---- of a plan that is made cheaper

pub improved_is_heard : {E : Type 0} (made : Result (Found Cause) E) → IfOk made (λ f. f.answer.status ≡ status.Done) → IfOk made (λ f. f.answer.cause ≡ None) → IfOk made (HearsOfFound improve_heard)
improved_is_heard {E} (Err e) answered heard = tt
improved_is_heard {E} (Ok f) answered heard = inr (inr (inr (answered, heard)))

pub alone_is_heard : {E : Type 0} (node : ℕ) (made : Result (Found Cause) E) → IfOk made (λ f. f.answer.status ≡ status.Negative) → IfOk made (λ f. f.answer.text.items ≡ alone_text node)
    → IfOk made (λ f. f.answer.cause ≡ Some (cause.Alone node)) → IfOk made (HearsOfFound improve_heard)
alone_is_heard {E} node (Err e) answered text heard = tt
alone_is_heard {E} node (Ok f) answered text heard = inr (inr (inl (record { node = node; status_is = answered; text_is = text; heard_is = heard })))

pub broken_is_heard : {E : Type 0} (made : Result (Found Cause) E) → IfOk made (HearsOfFound HearsBrokenPlan) → IfOk made (HearsOfFound improve_heard)
broken_is_heard {E} (Err e) heard = tt
broken_is_heard {E} (Ok f) heard = inr (inl heard)
