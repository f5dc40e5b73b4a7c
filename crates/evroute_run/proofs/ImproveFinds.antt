-- What `improve` finds, and which of its reads failed.
use Rattle.std.specs.Borrow.{Bor}
use Rattle.std.specs.Option.{option_map}
use Rattle.std.proofs.Common.{◌≡◌, ◌⊎◌, ℕ, List, [], ◌∷◌, Option, None, Some, Result, Ok, Err, IfOk, ap, inl, inr, map, refl, subst, sym}
use Rattle.command_line.specs.Words.{ImproveJob}
use Rattle.ev_model.specs.Fleet.{cost_of}
use Rattle.ev_model.specs.Network.{Network}
use Rattle.ev_outside.specs.Shelf.{Files, ShelfState}
use Rattle.job_frame.specs.Caps.{file_read, most_bytes}
use Rattle.fleet_steps.proofs.PlanFiles.{early_rule}
use Rattle.fleet_steps.specs.PlanFile.{BreaksFirst, HasPlan, IsValid, routes_of}
use Rattle.evroute_run.specs.Ended.{IsImproveEnded}
use Rattle.job_frame.specs.Ended.{IsNetworkEnded}
use Rattle.evroute_run.specs.ImproveAnswer.{ImproveAnswers, PutsAlone, PutsBrokenPlan, improve_task, improve_heard}
use Rattle.job_frame.specs.LimitedNetwork.{HasNetwork}
use Rattle.job_frame.specs.declared.answer.Ended.{Ended}
use Rattle.job_frame.specs.declared.answer.Ended.TheVariants.{Refused, Memory}
use Rattle.job_frame.proofs.BehindReads.{IsFoundFor, no_write, one_write}
use Rattle.evroute_causes.proofs.Hearing.{HearsOfFound}
use Rattle.job_frame.proofs.FileReads.{some_read}
use Rattle.job_frame.specs.Faults.{FailsReading, HasFailedRead}
use Rattle.job_frame.specs.Finds.{written_by}
use Rattle.job_frame.specs.Task.{Answers, AreReadUpTo, IsAnswered}
use Rattle.job_frame.specs.Writes.{AreDifferent, Written}
use Rattle.job_frame.specs.declared.found.Found.{Found}
use Rattle.job_frame.specs.declared.status.Status.{Status}
use Rattle.job_frame.specs.declared.status.Status.TheVariants as status
use Rattle.plan_check.specs.FleetRules.{stops_of}
use Rattle.plan_check.specs.declared.fault.PlanFault.{PlanFault}
use Rattle.plan_writer.specs.CheckText.{check_text}
use Rattle.refusal_lines.specs.RefusalText.{refusal_text}
use Rattle.plan_writer.specs.declared.check.Judgement.TheVariants as judgement
use Rattle.refusal_lines.specs.declared.refusal.Refusal.{Refusal}
use Rattle.route_improve.specs.Improved.{CostsNoMore, IsFirstAlone, IsImproved}
use Rattle.route_improve.specs.ImprovedText.{alone_text, improved_text}
use Rattle.route_plan.specs.PlanTexts.{fleet_plan_text}
use Rattle.route_plan.specs.declared.plan.FleetPlan.{FleetPlan}
use Rattle.evroute_causes.specs.declared.cause.Cause.{Cause}

-- ---- what is found for a plan

by_status : (limit : Option ℕ) (outfile bytes plan_bytes : List ℕ) (f : Found Cause) (s : Status) → f.answer.status ≡ s
    → ImproveAnswers limit outfile bytes plan_bytes s (map written_by f.files.items) f.answer.text.items
    → ImproveAnswers limit outfile bytes plan_bytes f.answer.status (map written_by f.files.items) f.answer.text.items
by_status limit outfile bytes plan_bytes f s is answers =
    subst (λ (x : Status). ImproveAnswers limit outfile bytes plan_bytes x (map written_by f.files.items) f.answer.text.items) (sym is) answers

-- a cheaper plan
pub puts_improved : {E : Type 0} (limit : Option ℕ) (outfile bytes plan_bytes : List ℕ) (g : Network) (plan : Option FleetPlan) (was : Option ℕ) (better : FleetPlan) (made : Result (Found Cause) E) →
    HasPlan limit bytes plan_bytes g plan → IsValid g plan was → IsImproved g better.routes → CostsNoMore g (routes_of plan) (cost_of g 1 (stops_of better.routes))
    → IfOk made (λ f. f.answer.status ≡ status.Done)
    → IfOk made (λ f. map written_by f.files.items ≡ record { name = outfile; bytes = fleet_plan_text (Some better) } ∷ [])
    → IfOk made (λ f. f.answer.text.items ≡ improved_text g.denominator (cost_of g 1 (stops_of better.routes)) was)
    → IfOk made (λ f. ImproveAnswers limit outfile bytes plan_bytes f.answer.status (map written_by f.files.items) f.answer.text.items)
puts_improved {E} limit outfile bytes plan_bytes g plan was better (Err e) has valid improved no_more answered files text = tt
puts_improved {E} limit outfile bytes plan_bytes g plan was better (Ok f) has valid improved no_more answered files text =
    by_status limit outfile bytes plan_bytes f status.Done answered (record {
      files = record { network = g; plan = plan; has = has };
      was = was;
      valid = valid;
      better = better;
      improved = improved;
      cost = cost_of g 1 (stops_of better.routes);
      cost_is = refl;
      no_more = no_more;
      again = λ short. record { within = short; fits = improved.text; text = refl };
      written = files;
      text_is = text;
    })

-- the first rule that it breaks
pub puts_broken : {E : Type 0} (limit : Option ℕ) (outfile bytes plan_bytes : List ℕ) (g : Network) (plan : Option FleetPlan) (fault : PlanFault) (made : Result (Found Cause) E) →
    HasPlan limit bytes plan_bytes g plan → BreaksFirst g plan fault
    → IfOk made (λ f. f.answer.status ≡ status.Negative) → IfOk made (λ f. map written_by f.files.items ≡ [])
    → IfOk made (λ f. f.answer.text.items ≡ check_text g.denominator (judgement.Plan fault))
    → IfOk made (λ f. ImproveAnswers limit outfile bytes plan_bytes f.answer.status (map written_by f.files.items) f.answer.text.items)
puts_broken {E} limit outfile bytes plan_bytes g plan fault (Err e) has broken answered files text = tt
puts_broken {E} limit outfile bytes plan_bytes g plan fault (Ok f) has broken answered files text =
    by_status limit outfile bytes plan_bytes f status.Negative answered (inl (record {
      files = record { network = g; plan = plan; has = has };
      fault = fault;
      broken = broken;
      none = files;
      text_is = text;
    }))

-- a customer whom no route of his own reaches
pub puts_alone : {E : Type 0} (limit : Option ℕ) (outfile bytes plan_bytes : List ℕ) (g : Network) (plan : Option FleetPlan) (node : ℕ) (made : Result (Found Cause) E) →
    HasPlan limit bytes plan_bytes g plan → plan ≡ None → IsFirstAlone g node
    → IfOk made (λ f. f.answer.status ≡ status.Negative) → IfOk made (λ f. map written_by f.files.items ≡ [])
    → IfOk made (λ f. f.answer.text.items ≡ alone_text node)
    → IfOk made (λ f. ImproveAnswers limit outfile bytes plan_bytes f.answer.status (map written_by f.files.items) f.answer.text.items)
puts_alone {E} limit outfile bytes plan_bytes g plan node (Err e) has no_plan alone answered files text = tt
puts_alone {E} limit outfile bytes plan_bytes g plan node (Ok f) has no_plan alone answered files text =
    by_status limit outfile bytes plan_bytes f status.Negative answered (inr (record {
      files = record { network = g; plan = plan; has = has };
      no_plan = no_plan;
      node = node;
      alone = alone;
      none = files;
      text_is = text;
    }))

-- the routes of a plan that was handed on
pub same_routes : (plan : Option (Bor FleetPlan)) → option_map (λ p. p.now.routes) plan ≡ routes_of (option_map (λ p. p.now) plan)
same_routes None = refl
same_routes (Some p) = refl

-- only where there was no plan a customer is alone
pub no_plan_of : (plan : Option (Bor FleetPlan)) → option_map (λ p. p.now.routes) plan ≡ None → option_map (λ p. p.now) plan ≡ None
no_plan_of None is = refl
no_plan_of (Some p) is = absurd (cc)

-- the first broken rule of a text
pub puts_refusal : {E : Type 0} (limit : Option ℕ) (outfile bytes plan_bytes : List ℕ) (ended : Ended) (refusal : Refusal) (made : Result (Found Cause) E) →
    ended ≡ Refused refusal → IsImproveEnded limit bytes plan_bytes ended
    → IfOk made (λ f. f.answer.status ≡ status.Refused) → IfOk made (λ f. f.files.items ≡ [])
    → IfOk made (λ f. f.answer.text.items ≡ refusal_text refusal)
    → IfOk made (λ f. ImproveAnswers limit outfile bytes plan_bytes f.answer.status (map written_by f.files.items) f.answer.text.items)
puts_refusal {E} limit outfile bytes plan_bytes ended refusal (Err e) is refused answered files text = tt
puts_refusal {E} limit outfile bytes plan_bytes ended refusal (Ok f) is refused answered files text =
    let first = subst (λ (e : Ended). IsImproveEnded limit bytes plan_bytes e) is refused in
    by_status limit outfile bytes plan_bytes f status.Refused answered (record {
      refusal = refusal;
      rule = first.0;
      refused = first.1;
      none = ap (λ fs. map written_by fs) files;
      text_is = text;
    })

-- ---- what the bytes of both files answer

negative_writes : (limit : Option ℕ) (bytes plan_bytes : List ℕ) (ws : List Written) (text : List ℕ) →
    PutsBrokenPlan limit bytes plan_bytes ws text ⊎ PutsAlone limit bytes plan_bytes ws text → AreDifferent ws
negative_writes limit bytes plan_bytes ws text (inl broken) = no_write ws broken.none
negative_writes limit bytes plan_bytes ws text (inr alone) = no_write ws alone.none

pub answer_is_plain : (limit : Option ℕ) (outfile bytes plan_bytes : List ℕ) (s : Status) (ws : List Written) (text : List ℕ) →
    ImproveAnswers limit outfile bytes plan_bytes s ws text → IsAnswered s × AreDifferent ws
answer_is_plain limit outfile bytes plan_bytes status.Done ws text p = (tt, one_write outfile (fleet_plan_text (Some p.better)) ws p.written)
answer_is_plain limit outfile bytes plan_bytes status.Negative ws text p = (tt, negative_writes limit bytes plan_bytes ws text p)
answer_is_plain limit outfile bytes plan_bytes status.Refused ws text p = (tt, no_write ws p.none)
answer_is_plain limit outfile bytes plan_bytes status.Words ws text p = absurd p
answer_is_plain limit outfile bytes plan_bytes status.Fault ws text p = absurd p
answer_is_plain limit outfile bytes plan_bytes status.Memory ws text p = absurd p
answer_is_plain limit outfile bytes plan_bytes status.Stopped ws text p = absurd p

pub improve_found : {E : Type 0} (job : ImproveJob) (files : Option Files) (bytes plan_bytes outfile given : List ℕ) (made : Result (Found Cause) E) →
    AreReadUpTo most_bytes files job.file bytes → AreReadUpTo most_bytes files job.plan plan_bytes → outfile ≡ job.outfile → given ≡ plan_bytes
    → IfOk made (λ f. ImproveAnswers job.limit outfile bytes given f.answer.status (map written_by f.files.items) f.answer.text.items)
    → IfOk made (HearsOfFound improve_heard) → IfOk made (λ f. IsFoundFor (improve_task job) files f)
improve_found {E} job files bytes plan_bytes outfile given (Err e) read read_plan named same answers heard = tt
improve_found {E} job files bytes plan_bytes outfile given (Ok f) read read_plan named same answers heard =
    let ws = map written_by f.files.items in
    let plain = answer_is_plain job.limit outfile bytes given f.answer.status ws f.answer.text.items answers in
    let here = subst (λ (bs : List ℕ). ImproveAnswers job.limit outfile bytes bs f.answer.status ws f.answer.text.items) same answers in
    record {
      answered = plain.0;
      answers = record {
        bytes = bytes ∷ plan_bytes ∷ [];
        read = (read, (read_plan, tt));
        answer = subst (λ (name : List ℕ). ImproveAnswers job.limit name bytes plan_bytes f.answer.status ws f.answer.text.items) named here;
      };
      heard = heard;
      different = plain.1;
    }

-- a rule that the first steps break is a rule of `improve`
improve_ended : (limit : Option ℕ) (bs plan_bytes : List ℕ) (e : Ended) → IsNetworkEnded limit bs e → IsImproveEnded limit bs plan_bytes e
improve_ended limit bs plan_bytes Memory h = tt
improve_ended limit bs plan_bytes (Refused r) h = (h.0, early_rule limit bs plan_bytes r h.1)

-- a refusal before the plan is read is the answer whatever the plan holds
pub refused_at_instance : (job : ImproveJob) (files : Option Files) (bytes given : List ℕ) (ended : Ended) (refusal : Refusal) →
    AreReadUpTo most_bytes files job.file bytes → given ≡ bytes → ended ≡ Refused refusal → IsNetworkEnded job.limit given ended
    → Answers (improve_task job) files (record { status = status.Refused; writes = []; text = refusal_text refusal })
refused_at_instance job files bytes given ended refusal read same is refused =
    let plan = some_read most_bytes files job.plan in
    let here = subst (λ (bs : List ℕ). IsNetworkEnded job.limit bs ended) same refused in
    let first = subst (λ (e : Ended). IsImproveEnded job.limit bytes plan.0 e) is (improve_ended job.limit bytes plan.0 ended here) in
    record {
      bytes = bytes ∷ plan.0 ∷ [];
      read = (read, (plan.1, tt));
      answer = record { refusal = refusal; rule = first.0; refused = first.1; none = refl; text_is = refl };
    }

-- ---- a read that failed

pub plan_read_fails : (job : ImproveJob) (before after : ShelfState) (bytes : List ℕ) (g : Network) → AreReadUpTo most_bytes before.files job.file bytes → HasNetwork job.limit bytes g
    → HasFailedRead before after job.plan → FailsReading (improve_task job) before after
plan_read_fails job before after bytes g read network failed = record {
  first = file_read job.file ∷ [];
  read = file_read job.plan;
  rest = [];
  are = refl;
  bytes = bytes ∷ [];
  are_read = (read, tt);
  goes_on = (g, network);
  failed = failed;
}
