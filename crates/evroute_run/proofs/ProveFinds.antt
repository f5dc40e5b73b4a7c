-- What `prove` finds.
use Rattle.std.proofs.Common.{◌≡◌, ◌∙◌, ℕ, ◌≤◌, List, [], ◌∷◌, Option, None, Some, Result, Ok, Err, IfOk, IfSome, ap, length, map, refl, subst, sym}
use Rattle.std.specs.List.{All}
use Rattle.std.proofs.lemmas.List.Elements.{All-cons, All-nil}
use Rattle.certificate_parts.specs.Limits.{most_bytes as most_certificate_bytes}
use Rattle.command_line.specs.Words.{ProofJob}
use Rattle.command_line.specs.declared.Options.{Options}
use Rattle.ev_model.specs.Feasible.{IsFeasible}
use Rattle.ev_model.specs.Network.{Network}
use Rattle.ev_outside.specs.Shelf.{Files}
use Rattle.job_frame.proofs.BehindReads.{IsFoundFor, no_write, one_write}
use Rattle.evroute_causes.proofs.Hearing.{HearsOfFound}
use Rattle.evroute_causes.specs.Heard.{HearsRefusals}
use Rattle.job_frame.specs.Finds.{written_by}
use Rattle.job_frame.specs.Task.{AreReadUpTo, IsAnswered}
use Rattle.job_frame.specs.Writes.{AreDifferent, Written}
use Rattle.job_frame.specs.declared.found.Answer.{Answer}
use Rattle.job_frame.specs.declared.found.Found.{Found}
use Rattle.job_frame.specs.declared.status.Status.{Status}
use Rattle.job_frame.specs.declared.status.Status.TheVariants as status
use Rattle.report_lines.specs.FixedText.{fixed_text}
use Rattle.refusal_lines.specs.RefusalText.{refusal_text}
use Rattle.refusal_lines.specs.declared.refusal.Refusal.{Refusal}
use Rattle.route_proof.specs.ProofIn.{proof_in}
use Rattle.route_proof.specs.ProofTexts.{proof_text}
use Rattle.route_plan.specs.declared.plan.RoutePlan.{RoutePlan}
use Rattle.route_proof.specs.Closed.{HasGoodPlan, IsAccepted, IsTrue}
use Rattle.route_proof.specs.Ranges.{ProofFits}
use Rattle.route_proof.specs.declared.proof.RouteProof.{RouteProof}
use Rattle.route_steps.specs.Trips.{Journey}
use Rattle.job_frame.specs.Caps.{most_bytes}
use Rattle.evroute_run.specs.CheckRouteAnswer.{journey_of}
use Rattle.evroute_run.specs.Ended.{IsEnded}
use Rattle.evroute_run.specs.FixedAnswer.{IsTask, start_of}
use Rattle.evroute_run.specs.ProveAnswer.{AcceptsProof, ProveAnswers, PutsProved, fixed_status, prove_task, timed_plan}
use Rattle.job_frame.specs.declared.answer.Ended.{Ended}
use Rattle.job_frame.specs.declared.answer.Ended.TheVariants.{Refused}
use Rattle.evroute_causes.specs.declared.cause.Cause.{Cause}

-- a listed plan is feasible
pub good_is_feasible : (t : Journey) (plan : Option RoutePlan) → HasGoodPlan t plan → IfSome plan (λ p. IsFeasible t.network 1 t.start p.stops)
good_is_feasible t None good = tt
good_is_feasible t (Some plan) good = good.0

-- ---- what is found for a route

by_status : (options : Options) (word cert bytes : List ℕ) (f : Found Cause) (s : Status) → f.answer.status ≡ s
    → ProveAnswers options word cert bytes s (map written_by f.files.items) f.answer.text.items
    → ProveAnswers options word cert bytes f.answer.status (map written_by f.files.items) f.answer.text.items
by_status options word cert bytes f s is answers =
    subst (λ (x : Status). ProveAnswers options word cert bytes x (map written_by f.files.items) f.answer.text.items) (sym is) answers

by_plan : (options : Options) (word cert bytes : List ℕ) (plan : Option RoutePlan) (ws : List Written) (text : List ℕ) → PutsProved options word cert bytes (fixed_status plan) ws text
    → ProveAnswers options word cert bytes (fixed_status plan) ws text
by_plan options word cert bytes None ws text p = p
by_plan options word cert bytes (Some plan) ws text p = p

-- a proof is read where its text isn't too long
abbrev pub IsReadBack : Network → List ℕ → RouteProof → Type 0
IsReadBack g route proof = length (proof_text proof) ≤ most_certificate_bytes → proof_in g route (proof_text proof) ≡ Ok proof

-- `check-route` accepts what is written
accepts : (options : Options) (word cert bytes : List ℕ) (g : Network) (route : List ℕ) (proof : RouteProof) (ws : List Written) → IsTask options word bytes g route → ProofFits g route proof
    → IsAccepted (journey_of options g route) proof → IsTrue (journey_of options g route) proof.plan → IsReadBack g route proof → ws ≡ record { name = cert; bytes = proof_text proof } ∷ []
    → All (AcceptsProof options word bytes g proof.plan) ws
accepts options word cert bytes g route proof ws task fits accepted shows reads written =
    let P : Written → Type 0 = AcceptsProof options word bytes g proof.plan in
    let file : Written = record { name = cert; bytes = proof_text proof } in
    let judged : P file =
    λ short. record {
      files = record { network = g; route = route; task = task; proof = proof; read = reads short; spelled = record { within = short; fits = fits; text = refl } };
      accepted = accepted;
      shows = shows;
      text_is = refl;
    } in
    subst (All P) (sym written) (All-cons P file [] judged (All-nil P))

-- a proof, with its plan and its file
pub puts_proved : {E : Type 0} (options : Options) (word cert bytes : List ℕ) (g : Network) (route : List ℕ) (level : ℕ) (proof : RouteProof) (answer : Answer Cause) (file : Written) (made : Result (Found Cause) E) →
    IsTask options word bytes g route → level ≡ start_of g options.charge
    → ProofFits g route proof → IsAccepted (record { network = g; route = route; start = level }) proof → IsTrue (record { network = g; route = route; start = level }) proof.plan
    → IsReadBack g route proof → answer.status ≡ fixed_status proof.plan → answer.text.items ≡ fixed_text g.denominator (timed_plan g level proof.plan)
    → file ≡ record { name = cert; bytes = proof_text proof } → IfOk made (λ f. f.answer ≡ answer) → IfOk made (λ f. map written_by f.files.items ≡ file ∷ [])
    → IfOk made (λ f. ProveAnswers options word cert bytes f.answer.status (map written_by f.files.items) f.answer.text.items)
puts_proved {E} options word cert bytes g route level proof answer file (Err e) task is fits accepted shows reads status_is text spelled answered files = tt
puts_proved {E} options word cert bytes g route level proof answer file (Ok f) task is fits accepted shows reads status_is text spelled answered files =
    let here : IsAccepted (journey_of options g route) proof = subst (λ (n : ℕ). IsAccepted (record { network = g; route = route; start = n }) proof) is accepted in
    let truth : IsTrue (journey_of options g route) proof.plan = subst (λ (n : ℕ). IsTrue (record { network = g; route = route; start = n }) proof.plan) is shows in
    let ws = map written_by f.files.items in
    let written : ws ≡ record { name = cert; bytes = proof_text proof } ∷ [] = files ∙ ap (λ (w : Written). w ∷ []) spelled in
    by_status options word cert bytes f (fixed_status proof.plan) (ap (λ (a : Answer Cause). a.status) answered ∙ status_is)
    (by_plan options word cert bytes proof.plan ws f.answer.text.items (record {
      network = g;
      route = route;
      task = task;
      proof = proof;
      fits = fits;
      accepted = here;
      shows = truth;
      status_is = refl;
      written = written;
      judged = accepts options word cert bytes g route proof ws task fits here truth reads written;
      text_is =
          ap (λ (a : Answer Cause). a.text.items) answered ∙ subst (λ (n : ℕ). answer.text.items ≡ fixed_text g.denominator (timed_plan g n proof.plan)) is text;
    }))

-- the first broken rule
pub puts_refusal : {E : Type 0} (options : Options) (word cert bytes : List ℕ) (ended : Ended) (refusal : Refusal) (made : Result (Found Cause) E) →
    ended ≡ Refused refusal → IsEnded options word bytes ended
    → IfOk made (λ f. f.answer.status ≡ status.Refused) → IfOk made (λ f. f.files.items ≡ [])
    → IfOk made (λ f. f.answer.text.items ≡ refusal_text refusal)
    → IfOk made (λ f. ProveAnswers options word cert bytes f.answer.status (map written_by f.files.items) f.answer.text.items)
puts_refusal {E} options word cert bytes ended refusal (Err e) is refused answered files text = tt
puts_refusal {E} options word cert bytes ended refusal (Ok f) is refused answered files text =
    let first = subst (λ (e : Ended). IsEnded options word bytes e) is refused in
    by_status options word cert bytes f status.Refused answered (record {
      refusal = refusal;
      rule = first.0;
      refused = first.1;
      none = ap (λ fs. map written_by fs) files;
      text_is = text;
    })

-- ---- what the bytes of the file answer

answer_is_plain : (options : Options) (word cert bytes : List ℕ) (s : Status) (ws : List Written) (text : List ℕ) → ProveAnswers options word cert bytes s ws text → IsAnswered s × AreDifferent ws
answer_is_plain options word cert bytes status.Done ws text p = (tt, one_write cert (proof_text p.proof) ws p.written)
answer_is_plain options word cert bytes status.Negative ws text p = (tt, one_write cert (proof_text p.proof) ws p.written)
answer_is_plain options word cert bytes status.Refused ws text p = (tt, no_write ws p.none)
answer_is_plain options word cert bytes status.Words ws text p = absurd p
answer_is_plain options word cert bytes status.Fault ws text p = absurd p
answer_is_plain options word cert bytes status.Memory ws text p = absurd p
answer_is_plain options word cert bytes status.Stopped ws text p = absurd p

pub prove_found : {E : Type 0} (job : ProofJob) (files : Option Files) (bytes given word cert : List ℕ) (made : Result (Found Cause) E) →
    AreReadUpTo most_bytes files job.file bytes → given ≡ bytes → word ≡ job.route → cert ≡ job.cert
    → IfOk made (λ f. ProveAnswers job.options word cert given f.answer.status (map written_by f.files.items) f.answer.text.items)
    → IfOk made (HearsOfFound HearsRefusals) → IfOk made (λ f. IsFoundFor (prove_task job) files f)
prove_found {E} job files bytes given word cert (Err e) read same spelled named answers heard = tt
prove_found {E} job files bytes given word cert (Ok f) read same spelled named answers heard =
    let ws = map written_by f.files.items in
    let plain = answer_is_plain job.options word cert given f.answer.status ws f.answer.text.items answers in
    let here = subst (λ (bs : List ℕ). ProveAnswers job.options word cert bs f.answer.status ws f.answer.text.items) same answers in
    let worded = subst (λ (w : List ℕ). ProveAnswers job.options w cert bytes f.answer.status ws f.answer.text.items) spelled here in
    record {
      answered = plain.0;
      answers = record {
        bytes = bytes ∷ [];
        read = (read, tt);
        answer = subst (λ (name : List ℕ). ProveAnswers job.options job.route name bytes f.answer.status ws f.answer.text.items) named worded;
      };
      heard = heard;
      different = plain.1;
    }
