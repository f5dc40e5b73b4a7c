-- What `plan` finds, and which of its reads failed.
use Rattle.std.specs.Borrow.{Bor}
use Rattle.std.specs.Option.{is_some, option_map}
use Rattle.std.proofs.Common.{◌≡◌, ◌≢◌, ℕ, ◌⊎◌, List, [], ◌∷◌, Bool, Global, String, true, false, Option, None, Some, Result, Ok, Err, IfOk, IfSome, ap, inl, inr, map, nat_eq, refl, string_bytes, subst, sym}
use Rattle.std.specs.Prelude.{if◌then◌else◌}
use Rattle.ev_model.specs.Fleet.{IsFleetPlan, cost_of}
use Rattle.ev_model.specs.Network.{Network}
use Rattle.ev_outside.specs.Shelf.{Files, ShelfState}
use Rattle.fleet_steps.specs.PlanFile.{BreaksFirst, IsPlanEnded, IsValid, routes_of}
use Rattle.gap_search.specs.Gap.{cost_held}
use Rattle.gap_words.specs.JobValue.{plan_value}
use Rattle.gap_words.specs.Words.{PlanGap}
use Rattle.gap_words.specs.declared.PlanWords.{PlanWords}
use Rattle.job_frame.proofs.BehindReads.{IsFoundFor, no_write}
use Rattle.evgap_run.proofs.Refusals.{HearsOfFound}
use Rattle.job_frame.proofs.FileReads.{some_read}
use Rattle.job_frame.specs.Faults.{FailsReading, HasFailedRead}
use Rattle.job_frame.specs.Finds.{written_by}
use Rattle.job_frame.specs.Task.{Answers, AreRead, AreReadUpTo, IsAnswered}
use Rattle.job_frame.specs.Writes.{AreDifferent, Written}
use Rattle.job_frame.specs.declared.found.Answer.{Answer}
use Rattle.job_frame.specs.declared.found.Found.{Found}
use Rattle.job_frame.specs.declared.status.Status.{Status}
use Rattle.job_frame.specs.declared.status.Status.TheVariants as status
use Rattle.job_frame.specs.Caps.{file_read, most_bytes}
use Rattle.job_frame.specs.Ended.{IsNetworkEnded, IsRuleOrMemory}
use Rattle.job_frame.specs.LimitedNetwork.{HasNetwork, IsNetworkRefused}
use Rattle.job_frame.specs.declared.answer.Ended.{Ended}
use Rattle.job_frame.specs.declared.answer.Ended.TheVariants.{Refused}
use Rattle.plan_check.specs.FleetRules.{stops_of}
use Rattle.plan_check.specs.declared.fault.PlanFault.{PlanFault}
use Rattle.refusal_lines.specs.RejectedText.{rejected_text}
use Rattle.refusal_lines.specs.RefusalText.{IsRule, refusal_text}
use Rattle.refusal_lines.specs.declared.refusal.Refusal.{Refusal}
use Rattle.route_plan.specs.declared.plan.FleetPlan.{FleetPlan}
use Rattle.job_frame.proofs.Endings.{rule_of}
use Rattle.tree_text.specs.BoundProofs.{bound_of}
use Rattle.evgap_run.proofs.Written.{are_accepted, held_fits}
use Rattle.evgap_run.specs.PlanAnswer.{HasPlanJob, HasStart, IsNoStart, IsPlanFound, IsPlanRefused, PlanAnswers, PutsBrokenStart, PutsPlan, plan_status, plan_task, start_reads, plan_heard}
use Rattle.evgap_run.specs.declared.cause.Cause.{Cause}

-- ---- the plan to begin with

-- what is told of the routes of a plan that was handed on
pub same_routes : (start : Option (Bor FleetPlan)) → option_map (λ p. p.now.routes) start ≡ routes_of (option_map (λ p. p.now) start)
same_routes None = refl
same_routes (Some p) = refl

-- a plan that costs something is a fleet plan
pub start_is_fleet : (g : Network) (start : Option (Bor FleetPlan)) (cost : Option ℕ) → IsValid g (option_map (λ p. p.now) start) cost → IfSome start (λ p. IsFleetPlan g 1 (stops_of p.now.routes))
start_is_fleet g None cost valid = tt
start_is_fleet g (Some p) cost valid = valid.0

-- a fleet plan has its cost
pub start_costs : (g : Network) (start : Option (Bor FleetPlan)) → IfSome start (λ p. IsFleetPlan g 1 (stops_of p.now.routes)) → (cost : Option ℕ) × IsValid g (option_map (λ p. p.now) start) cost
start_costs g None fleet = (None, refl)
start_costs g (Some p) fleet = (Some (cost_of g 1 (stops_of p.now.routes)), (fleet, refl))

-- the name of its file, where the words give one
pub named_start : (w : PlanWords) (name : String Global) (given : List ℕ) → w.start ≡ Some name → given ≡ string_bytes name → (plan_value w).start ≡ Some given
named_start w name given is same =
    subst (λ (bytes : List ℕ). (plan_value w).start ≡ Some bytes) (sym same) (ap (λ (s : Option (String Global)). option_map (λ x. string_bytes x) s) is)

pub unnamed_start : (w : PlanWords) → w.start ≡ None → (plan_value w).start ≡ None
unnamed_start w is = ap (λ (s : Option (String Global)). option_map (λ x. string_bytes x) s) is

-- ---- the status of what was found

IsFoundStatus : Status → Type 0
IsFoundStatus status.Done = Unit {0}
IsFoundStatus status.Negative = Unit {0}
IsFoundStatus status.Stopped = Unit {0}
IsFoundStatus other = ⊥

by_test : (test : Bool) → IsFoundStatus (if test then status.Done else status.Stopped)
unfolding IsFoundStatus
by_test true = tt
by_test false = tt

is_found_status : (cost bound : Option ℕ) → IsFoundStatus (plan_status cost bound)
unfolding IsFoundStatus
is_found_status cost None = tt
is_found_status None (Some b) = tt
is_found_status (Some c) (Some b) = by_test (nat_eq c b)

module _ (job : PlanGap) (bytes : List ℕ) (more : List (List ℕ)) where
  of_found : (ended : Status) (ws : List Written) (text : List ℕ) → PutsPlan job bytes more ended ws text → IsFoundStatus ended
  of_found ended ws text p =
      subst IsFoundStatus (sym p.found.status_is) (is_found_status (cost_held p.network p.found.outcome.plan) (bound_of p.found.outcome.proof))

  pub found_answers : (ended : Status) (ws : List Written) (text : List ℕ) → PutsPlan job bytes more ended ws text → PlanAnswers job bytes more ended ws text
  unfolding IsFoundStatus
  found_answers status.Done ws text p = p
  found_answers status.Negative ws text p = inl p
  found_answers status.Stopped ws text p = p
  found_answers status.Refused ws text p = absurd (of_found status.Refused ws text p)
  found_answers status.Words ws text p = absurd (of_found status.Words ws text p)
  found_answers status.Fault ws text p = absurd (of_found status.Fault ws text p)
  found_answers status.Memory ws text p = absurd (of_found status.Memory ws text p)

  by_status : (f : Found Cause) (s : Status) → f.answer.status ≡ s → PlanAnswers job bytes more s (map written_by f.files.items) f.answer.text.items
      → PlanAnswers job bytes more f.answer.status (map written_by f.files.items) f.answer.text.items
  by_status f s is answers = subst (λ (x : Status). PlanAnswers job bytes more x (map written_by f.files.items) f.answer.text.items) (sym is) answers

  -- what a search found, behind the two files
  pub puts_plan : {E : Type 0} (g : Network) (start : Option FleetPlan) (was : Option ℕ) (plan_bytes proof_bytes plan_name proof_name : List ℕ) (answer : Answer Cause) (made : Result (Found Cause) E) →
      HasPlanJob job bytes more g start → IsValid g start was → IsPlanFound g start (is_some job.seconds) plan_bytes proof_bytes answer.status answer.text.items → plan_name ≡ job.plan → proof_name ≡ job.proof
      → IfOk made (λ f. f.answer ≡ answer)
      → IfOk made (λ f. map written_by f.files.items ≡ record { name = plan_name; bytes = plan_bytes } ∷ record { name = proof_name; bytes = proof_bytes } ∷ [])
      → IfOk made (λ f. PlanAnswers job bytes more f.answer.status (map written_by f.files.items) f.answer.text.items)
  puts_plan {E} g start was plan_bytes proof_bytes plan_name proof_name answer (Err e) has valid found named proof_named same written = tt
  puts_plan {E} g start was plan_bytes proof_bytes plan_name proof_name answer (Ok f) has valid found named proof_named same written =
      let here = subst (λ (a : Answer Cause). IsPlanFound g start (is_some job.seconds) plan_bytes proof_bytes a.status a.text.items) (sym same) found in
      found_answers f.answer.status (map written_by f.files.items) f.answer.text.items (record {
        network = g;
        start = start;
        has = has;
        was = was;
        valid = valid;
        plan_bytes = plan_bytes;
        proof_bytes = proof_bytes;
        found = here;
        accepted = are_accepted job.limit bytes plan_bytes proof_bytes g (routes_of start) here.moves_ended here.outcome here.is_network has.network here.is here.plan_is here.proof_is;
        again = λ short. record { within = short; fits = held_fits g (routes_of start) here.moves_ended here.outcome.plan here.is.plan; text = here.plan_is };
        written = subst (λ (name : List ℕ). map written_by f.files.items ≡ record { name = job.plan; bytes = plan_bytes } ∷ record { name = name; bytes = proof_bytes } ∷ []) proof_named
            (subst (λ (name : List ℕ). map written_by f.files.items ≡ record { name = name; bytes = plan_bytes } ∷ record { name = proof_name; bytes = proof_bytes } ∷ []) named written);
      })

  -- the first rule that the plan to begin with breaks
  pub puts_broken : {E : Type 0} (g : Network) (start : Option FleetPlan) (fault : PlanFault) (made : Result (Found Cause) E) → HasPlanJob job bytes more g start → BreaksFirst g start fault
      → IfOk made (λ f. f.answer.status ≡ status.Negative) → IfOk made (λ f. map written_by f.files.items ≡ [])
      → IfOk made (λ f. f.answer.text.items ≡ rejected_text fault)
      → IfOk made (λ f. PlanAnswers job bytes more f.answer.status (map written_by f.files.items) f.answer.text.items)
  puts_broken {E} g start fault (Err e) has broken answered files text = tt
  puts_broken {E} g start fault (Ok f) has broken answered files text =
      by_status f status.Negative answered (inr (record { network = g; start = start; has = has; fault = fault; broken = broken; none = files; text_is = text }))

  -- the line of a refusal
  refused_so : {E : Type 0} (r : Refusal) (made : Result (Found Cause) E) → IsRule r → IsPlanRefused job bytes more r → IfOk made (λ f. f.answer.status ≡ status.Refused)
      → IfOk made (λ f. f.files.items ≡ []) → IfOk made (λ f. f.answer.text.items ≡ refusal_text r)
      → IfOk made (λ f. PlanAnswers job bytes more f.answer.status (map written_by f.files.items) f.answer.text.items)
  refused_so {E} r (Err e) rule refused answered files text = tt
  refused_so {E} r (Ok f) rule refused answered files text =
      by_status f status.Refused answered (record { refusal = r; rule = rule; refused = refused; none = ap (λ fs. map written_by fs) files; text_is = text })

-- the first broken rule of the text of the plan to begin with
no_start : (name bytes : List ℕ) (start : Option (List ℕ)) (r : Refusal) → start ≡ Some name → IsPlanEnded bytes (Refused r) → IsNoStart start (bytes ∷ []) r
no_start name bytes start r is (fault, same, first) =
    subst (λ (s : Option (List ℕ)). IsNoStart s (bytes ∷ []) r) (sym is) (subst (λ (x : Refusal). IsNoStart (Some name) (bytes ∷ []) x) (sym same) first)

pub puts_no_start : {E : Type 0} (job : PlanGap) (file name bytes : List ℕ) (g : Network) (ended : Ended) (r : Refusal) (made : Result (Found Cause) E) → HasNetwork job.limit file g → job.start ≡ Some name → ended ≡ Refused r
    → IsRuleOrMemory ended → IsPlanEnded bytes ended → IfOk made (λ f. f.answer.status ≡ status.Refused) → IfOk made (λ f. f.files.items ≡ []) → IfOk made (λ f. f.answer.text.items ≡ refusal_text r)
    → IfOk made (λ f. PlanAnswers job file (bytes ∷ []) f.answer.status (map written_by f.files.items) f.answer.text.items)
puts_no_start {E} job file name bytes g ended r made fleet named is rule refused answered files text =
    let first = subst (λ (e : Ended). IsPlanEnded bytes e) is refused in
    refused_so job file (bytes ∷ []) r made (rule_of ended r is rule) (inr (g, fleet, no_start name bytes job.start r named first)) answered files text

-- ---- what the bytes of the files answer

pub has_start : (job : PlanGap) (name bytes : List ℕ) (file : List ℕ) (g : Network) (start : Option FleetPlan) → job.start ≡ Some name → HasNetwork job.limit file g → HasStart (Some name) (bytes ∷ []) start
    → HasPlanJob job file (bytes ∷ []) g start
has_start job name bytes file g start named fleet spelled =
    record { network = fleet; held = subst (λ (s : Option (List ℕ)). HasStart s (bytes ∷ []) start) (sym named) spelled }

pub has_none : (job : PlanGap) (file : List ℕ) (g : Network) → job.start ≡ None → HasNetwork job.limit file g → HasPlanJob job file [] g None
has_none job file g named fleet = record { network = fleet; held = subst (λ (s : Option (List ℕ)). HasStart s [] None) (sym named) refl }

-- the files that are written have different names
both_differ : (job : PlanGap) (plan_bytes proof_bytes : List ℕ) (ws : List Written) → job.plan ≢ job.proof
    → ws ≡ record { name = job.plan; bytes = plan_bytes } ∷ record { name = job.proof; bytes = proof_bytes } ∷ [] → AreDifferent ws
both_differ job plan_bytes proof_bytes ws other same = subst (λ (xs : List Written). AreDifferent xs) (sym same) ((other, tt), (tt, tt))

negative_writes : (job : PlanGap) (bytes : List ℕ) (more : List (List ℕ)) (ws : List Written) (text : List ℕ) → job.plan ≢ job.proof
    → PutsPlan job bytes more status.Negative ws text ⊎ PutsBrokenStart job bytes more ws text → AreDifferent ws
negative_writes job bytes more ws text other (inl p) = both_differ job p.plan_bytes p.proof_bytes ws other p.written
negative_writes job bytes more ws text other (inr broken) = no_write ws broken.none

pub answer_is_plain : (job : PlanGap) (bytes : List ℕ) (more : List (List ℕ)) (s : Status) (ws : List Written) (text : List ℕ) → job.plan ≢ job.proof
    → PlanAnswers job bytes more s ws text → IsAnswered s × AreDifferent ws
answer_is_plain job bytes more status.Done ws text other p = (tt, both_differ job p.plan_bytes p.proof_bytes ws other p.written)
answer_is_plain job bytes more status.Stopped ws text other p = (tt, both_differ job p.plan_bytes p.proof_bytes ws other p.written)
answer_is_plain job bytes more status.Negative ws text other p = (tt, negative_writes job bytes more ws text other p)
answer_is_plain job bytes more status.Refused ws text other p = (tt, no_write ws p.none)
answer_is_plain job bytes more status.Words ws text other p = absurd p
answer_is_plain job bytes more status.Fault ws text other p = absurd p
answer_is_plain job bytes more status.Memory ws text other p = absurd p

-- the files of a job with these names
reads_start : (files : Option Files) (start : Option (List ℕ)) (name bytes : List ℕ) → start ≡ Some name → AreReadUpTo most_bytes files name bytes → AreRead files (start_reads start) (bytes ∷ [])
reads_start files start name bytes is read = subst (λ (s : Option (List ℕ)). AreRead files (start_reads s) (bytes ∷ [])) (sym is) (read, tt)

reads_none : (files : Option Files) (start : Option (List ℕ)) → start ≡ None → AreRead files (start_reads start) []
reads_none files start is = subst (λ (s : Option (List ℕ)). AreRead files (start_reads s) []) (sym is) tt

found_for : {E : Type 0} (job : PlanGap) (files : Option Files) (bytes : List ℕ) (more : List (List ℕ)) (made : Result (Found Cause) E) → job.plan ≢ job.proof → AreReadUpTo most_bytes files job.file bytes
    → AreRead files (start_reads job.start) more → IfOk made (λ f. PlanAnswers job bytes more f.answer.status (map written_by f.files.items) f.answer.text.items)
    → IfOk made (HearsOfFound (plan_heard (is_some job.seconds))) → IfOk made (λ f. IsFoundFor (plan_task job) files f)
found_for {E} job files bytes more (Err e) other read reads answers heard = tt
found_for {E} job files bytes more (Ok f) other read reads answers heard =
    let plain = answer_is_plain job bytes more f.answer.status (map written_by f.files.items) f.answer.text.items other answers in
    record {
      answered = plain.0;
      answers = record { bytes = bytes ∷ more; read = (read, reads); answer = answers };
      heard = heard;
      different = plain.1;
    }

pub found_from_none : {E : Type 0} (job : PlanGap) (files : Option Files) (bytes : List ℕ) (made : Result (Found Cause) E) → job.plan ≢ job.proof → job.start ≡ None → AreReadUpTo most_bytes files job.file bytes
    → IfOk made (λ f. PlanAnswers job bytes [] f.answer.status (map written_by f.files.items) f.answer.text.items) → IfOk made (HearsOfFound (plan_heard (is_some job.seconds))) → IfOk made (λ f. IsFoundFor (plan_task job) files f)
found_from_none {E} job files bytes made other none read answers heard = found_for job files bytes [] made other read (reads_none files job.start none) answers heard

pub found_from_text : {E : Type 0} (job : PlanGap) (files : Option Files) (bytes name start_bytes given : List ℕ) (made : Result (Found Cause) E) → job.plan ≢ job.proof → job.start ≡ Some name
    → AreReadUpTo most_bytes files job.file bytes → AreReadUpTo most_bytes files name start_bytes → given ≡ start_bytes
    → IfOk made (λ f. PlanAnswers job bytes (given ∷ []) f.answer.status (map written_by f.files.items) f.answer.text.items) → IfOk made (HearsOfFound (plan_heard (is_some job.seconds))) → IfOk made (λ f. IsFoundFor (plan_task job) files f)
found_from_text {E} job files bytes name start_bytes given made other named read read_start same answers heard =
    let here = subst (λ (bs : List ℕ). IfOk made (λ f. PlanAnswers job bytes (bs ∷ []) f.answer.status (map written_by f.files.items) f.answer.text.items)) same answers in
    found_for job files bytes (start_bytes ∷ []) made other read (reads_start files job.start name start_bytes named read_start) here heard

-- whatever stands in the file of the plan to begin with, some bytes are read
some_start : (files : Option Files) (start : Option (List ℕ)) → (more : List (List ℕ)) × AreRead files (start_reads start) more
some_start files None = ([], tt)
some_start files (Some name) = let read = some_read most_bytes files name in (read.0 ∷ [], (read.1, tt))

-- a refusal before the plan to begin with is read is the answer whatever that holds
pub refused_early : (job : PlanGap) (files : Option Files) (bytes given : List ℕ) (ended : Ended) (r : Refusal) → AreReadUpTo most_bytes files job.file bytes → given ≡ bytes → ended ≡ Refused r
    → IsNetworkEnded job.limit given ended → Answers (plan_task job) files (record { status = status.Refused; writes = []; text = refusal_text r })
refused_early job files bytes given ended r read same is refused =
    let start = some_start files job.start in
    let here = subst (λ (bs : List ℕ). IsNetworkEnded job.limit bs ended) same refused in
    let first : IsRule r × IsNetworkRefused job.limit bytes r = subst (λ (e : Ended). IsNetworkEnded job.limit bytes e) is here in
    record {
      bytes = bytes ∷ start.0;
      read = (read, start.1);
      answer = record { refusal = r; rule = first.0; refused = inl first.1; none = refl; text_is = refl };
    }

-- ---- a read that failed

pub start_fails : (job : PlanGap) (before after : ShelfState) (bytes name : List ℕ) (g : Network) → job.start ≡ Some name → AreReadUpTo most_bytes before.files job.file bytes → HasNetwork job.limit bytes g
    → HasFailedRead before after name → FailsReading (plan_task job) before after
start_fails job before after bytes name g named read fleet failed = record {
  first = file_read job.file ∷ [];
  read = file_read name;
  rest = [];
  are = ap (λ (s : Option (List ℕ)). file_read job.file ∷ start_reads s) named;
  bytes = bytes ∷ [];
  are_read = (read, tt);
  goes_on = (g, fleet);
  failed = failed;
}
