-- What is found, and which of the reads failed.
use Rattle.std.specs.Option.{option_map}
use Rattle.std.proofs.Common.{◌≡◌, ◌⊎◌, ℕ, ◌≤◌, List, [], ◌∷◌, true, Option, None, Some, Result, Ok, Err, IfOk, Global, String, ap, inl, inr, is_some, map, refl, string_bytes, subst, sym}
use Rattle.call_words.specs.Names.{are_different}
use Rattle.ev_model.specs.Network.{Network}
use Rattle.ev_outside.specs.Shelf.{Files, ShelfState}
use Rattle.job_frame.proofs.Endings.{rule_of}
use Rattle.job_frame.proofs.BehindReads.{IsFoundFor, no_write}
use Rattle.job_frame.proofs.FileReads.{some_read}
use Rattle.job_frame.specs.Faults.{FailsReading, HasFailedRead}
use Rattle.job_frame.specs.Finds.{written_by}
use Rattle.job_frame.specs.Task.{Answers, AreRead, AreReadUpTo, IsAnswered}
use Rattle.job_frame.specs.Writes.{AreDifferent, Written}
use Rattle.job_frame.specs.declared.found.Found.{Found}
use Rattle.job_frame.specs.declared.status.Status.{Status}
use Rattle.job_frame.specs.declared.status.Status.TheVariants as status
use Rattle.job_frame.specs.Caps.{file_read, most_bytes}
use Rattle.job_frame.specs.Ended.{IsRuleOrMemory}
use Rattle.job_frame.specs.declared.answer.Ended.{Ended}
use Rattle.job_frame.specs.declared.answer.Ended.TheVariants.{Refused}
use Rattle.place_names.specs.declared.faults.PlacesFault.{PlacesFault}
use Rattle.place_names.specs.declared.place.Place.{Place}
use Rattle.plan_check.specs.declared.fault.PlanFault.{PlanFault}
use Rattle.refusal_lines.specs.RejectedText.{rejected_text}
use Rattle.refusal_lines.specs.RefusalText.{IsRule, refusal_text}
use Rattle.refusal_lines.specs.declared.refusal.Refusal.{Refusal}
use Rattle.schedule_texts.specs.Tables.{table_text}
use Rattle.view_words.specs.Words.{ViewPlan, written_names}
use Rattle.evview_run.specs.Held.{HasHeld, HasStart, HoldsPlans, IsHeldEnded, IsSettingEnded, IsTextRefused}
use Rattle.evview_run.specs.ViewAnswer.{Breaks, BreaksPlaces, HasPlaces, HasRoute, IsShowable, PutsBrokenPlan, PutsNoPlaces, PutsNoRoute, PutsOtherTime, PutsRefusal, ViewAnswers, clock_of, files_of, needs_points, no_route_text, other_time_text, places_read, places_text, route_count, shown_of, untrue, view_task, view_heard}
use Rattle.evview_run.specs.declared.held.HeldPlans.{HeldPlans}
use Rattle.evview_run.specs.declared.cause.Cause.{Cause}
use Rattle.evview_run.proofs.HeldLaws.{held_starts, plan_rule, setting_rule}
use Rattle.evview_run.proofs.Shown.{time_is_cost}
use Rattle.evview_run.proofs.WrittenNames.{files_differ}
use Rattle.job_frame.proofs.Hearing.{HearsOfFound}

module _ (job : ViewPlan) (bytes plan_bytes : List ℕ) (more : List (List ℕ)) where
  by_status : (f : Found Cause) (s : Status) → f.answer.status ≡ s → ViewAnswers job bytes plan_bytes more s (map written_by f.files.items) f.answer.text.items
      → ViewAnswers job bytes plan_bytes more f.answer.status (map written_by f.files.items) f.answer.text.items
  by_status f s is answers = subst (λ (x : Status). ViewAnswers job bytes plan_bytes more x (map written_by f.files.items) f.answer.text.items) (sym is) answers

  -- a schedule, with the files that are asked for
  pub puts_schedule : {E : Type 0} (g : Network) (held : HeldPlans) (places : List Place) (cost : Option ℕ) (made : Result (Found Cause) E) → HasHeld job bytes plan_bytes g held → HasPlaces (needs_points job) g more places → IsShowable job.form g held cost → HasRoute job.route held.plan
      → untrue held.told cost ≡ None
      → IfOk made (λ f. f.answer.status ≡ status.Done)
      → IfOk made (λ f. map written_by f.files.items ≡ files_of job places (shown_of g job.route held))
      → IfOk made (λ f. f.answer.text.items ≡ table_text job.exact (clock_of job.clock) places (shown_of g job.route held))
      → IfOk made (λ f. ViewAnswers job bytes plan_bytes more f.answer.status (map written_by f.files.items) f.answer.text.items)
  puts_schedule {E} g held places cost (Err e) has named valid route told answered files text = tt
  puts_schedule {E} g held places cost (Ok f) has named valid route told answered files text =
      by_status f status.Done answered (record {
        files = record { network = g; held = held; has = has };
        places = places;
        named = named;
        cost = cost;
        valid = valid;
        route = route;
        shown = shown_of g job.route held;
        is = refl;
        time = time_is_cost job.form g job.route held cost (held_starts g job.form plan_bytes held has.is) valid;
        told = told;
        written = files;
        text_is = text;
      })

  -- the first rule that the plan breaks
  pub puts_broken : {E : Type 0} (g : Network) (held : HeldPlans) (places : List Place) (fault : PlanFault) (made : Result (Found Cause) E) → HasHeld job bytes plan_bytes g held → HasPlaces (needs_points job) g more places → HasRoute job.route held.plan → Breaks job.form g held fault
      → IfOk made (λ f. f.answer.status ≡ status.Negative) → IfOk made (λ f. map written_by f.files.items ≡ [])
      → IfOk made (λ f. f.answer.text.items ≡ rejected_text fault)
      → IfOk made (λ f. ViewAnswers job bytes plan_bytes more f.answer.status (map written_by f.files.items) f.answer.text.items)
  puts_broken {E} g held places fault (Err e) has named route broken answered files text = tt
  puts_broken {E} g held places fault (Ok f) has named route broken answered files text =
      by_status f status.Negative answered
      (inl (record { files = record { network = g; held = held; has = has }; places = places; named = named; route = route; fault = fault; broken = broken; none = files; text_is = text }))

  -- a told time that isn't that of the route
  pub puts_other_time : {E : Type 0} (g : Network) (held : HeldPlans) (places : List Place) (cost : Option ℕ) (told : ℕ) (made : Result (Found Cause) E) → HasHeld job bytes plan_bytes g held → HasPlaces (needs_points job) g more places → IsShowable job.form g held cost → HasRoute job.route held.plan
      → untrue held.told cost ≡ Some told
      → IfOk made (λ f. f.answer.status ≡ status.Negative) → IfOk made (λ f. map written_by f.files.items ≡ [])
      → IfOk made (λ f. f.answer.text.items ≡ other_time_text g.denominator told)
      → IfOk made (λ f. ViewAnswers job bytes plan_bytes more f.answer.status (map written_by f.files.items) f.answer.text.items)
  puts_other_time {E} g held places cost told (Err e) has named valid route other answered files text = tt
  puts_other_time {E} g held places cost told (Ok f) has named valid route other answered files text =
      by_status f status.Negative answered
      (inr (record { files = record { network = g; held = held; has = has }; places = places; named = named; cost = cost; valid = valid; route = route; told = told; other = other; none = files; text_is = text }))

  -- the line of a route that isn't there
  pub puts_no_route : {E : Type 0} (g : Network) (held : HeldPlans) (places : List Place) (number : ℕ) (made : Result (Found Cause) E) → HasHeld job bytes plan_bytes g held → HasPlaces (needs_points job) g more places → job.route ≡ Some number → route_count held.plan ≤ number
      → IfOk made (λ f. f.answer.status ≡ status.Refused) → IfOk made (λ f. map written_by f.files.items ≡ [])
      → IfOk made (λ f. f.answer.text.items ≡ no_route_text number)
      → IfOk made (λ f. ViewAnswers job bytes plan_bytes more f.answer.status (map written_by f.files.items) f.answer.text.items)
  puts_no_route {E} g held places number (Err e) has named asked past answered files text = tt
  puts_no_route {E} g held places number (Ok f) has named asked past answered files text =
      by_status f status.Refused answered
      (inr (inr (record { files = record { network = g; held = held; has = has }; places = places; named = named; number = number; asked = asked; past = past; none = files; text_is = text })))

  -- the line of the rule that the file of places breaks
  pub puts_no_places : {E : Type 0} (g : Network) (held : HeldPlans) (fault : PlacesFault) (made : Result (Found Cause) E) → HasHeld job bytes plan_bytes g held → BreaksPlaces (needs_points job) g more fault
      → IfOk made (λ f. f.answer.status ≡ status.Refused) → IfOk made (λ f. map written_by f.files.items ≡ [])
      → IfOk made (λ f. f.answer.text.items ≡ places_text fault)
      → IfOk made (λ f. ViewAnswers job bytes plan_bytes more f.answer.status (map written_by f.files.items) f.answer.text.items)
  puts_no_places {E} g held fault (Err e) has breaks answered files text = tt
  puts_no_places {E} g held fault (Ok f) has breaks answered files text =
      by_status f status.Refused answered
      (inr (inl (record { files = record { network = g; held = held; has = has }; fault = fault; broken = breaks; none = files; text_is = text })))

-- ---- what the bytes of the files answer

refused_writes : (job : ViewPlan) (bytes plan_bytes : List ℕ) (more : List (List ℕ)) (ws : List Written) (text : List ℕ)
    → PutsRefusal job bytes plan_bytes ws text ⊎ PutsNoPlaces job bytes plan_bytes more ws text ⊎ PutsNoRoute job bytes plan_bytes more ws text → AreDifferent ws
refused_writes job bytes plan_bytes more ws text (inl p) = no_write ws p.none
refused_writes job bytes plan_bytes more ws text (inr (inl p)) = no_write ws p.none
refused_writes job bytes plan_bytes more ws text (inr (inr p)) = no_write ws p.none

rejected_writes : (job : ViewPlan) (bytes plan_bytes : List ℕ) (more : List (List ℕ)) (ws : List Written) (text : List ℕ)
    → PutsBrokenPlan job bytes plan_bytes more ws text ⊎ PutsOtherTime job bytes plan_bytes more ws text → AreDifferent ws
rejected_writes job bytes plan_bytes more ws text (inl p) = no_write ws p.none
rejected_writes job bytes plan_bytes more ws text (inr p) = no_write ws p.none

answer_is_plain : (job : ViewPlan) (bytes plan_bytes : List ℕ) (more : List (List ℕ)) (s : Status) (ws : List Written) (text : List ℕ) → are_different (written_names job) ≡ true → ViewAnswers job bytes plan_bytes more s ws text → IsAnswered s × AreDifferent ws
answer_is_plain job bytes plan_bytes more status.Done ws text differ p = (tt, files_differ job p.places p.shown ws differ p.written)
answer_is_plain job bytes plan_bytes more status.Negative ws text differ p = (tt, rejected_writes job bytes plan_bytes more ws text p)
answer_is_plain job bytes plan_bytes more status.Refused ws text differ p = (tt, refused_writes job bytes plan_bytes more ws text p)
answer_is_plain job bytes plan_bytes more status.Words ws text differ p = absurd p
answer_is_plain job bytes plan_bytes more status.Fault ws text differ p = absurd p
answer_is_plain job bytes plan_bytes more status.Memory ws text differ p = absurd p
answer_is_plain job bytes plan_bytes more status.Stopped ws text differ p = absurd p

pub view_found : {E : Type 0} (job : ViewPlan) (files : Option Files) (bytes plan_bytes : List ℕ) (given more : List (List ℕ)) (made : Result (Found Cause) E) → are_different (written_names job) ≡ true
    → AreReadUpTo most_bytes files job.file bytes → AreReadUpTo most_bytes files job.plan plan_bytes → AreRead files (places_read job.places) more → given ≡ more
    → IfOk made (λ f. ViewAnswers job bytes plan_bytes given f.answer.status (map written_by f.files.items) f.answer.text.items) → IfOk made (HearsOfFound view_heard)
    → IfOk made (λ f. IsFoundFor (view_task job) files f)
view_found {E} job files bytes plan_bytes given more (Err e) differ read read_plan read_more same answers heard = tt
view_found {E} job files bytes plan_bytes given more (Ok f) differ read read_plan read_more same answers heard =
    let ws = map written_by f.files.items in
    let plain = answer_is_plain job bytes plan_bytes given f.answer.status ws f.answer.text.items differ answers in
    record {
      answered = plain.0;
      answers = record {
        bytes = bytes ∷ plan_bytes ∷ more;
        read = (read, (read_plan, read_more));
        answer = subst (λ (bs : List (List ℕ)). ViewAnswers job bytes plan_bytes bs f.answer.status ws f.answer.text.items) same answers;
      };
      heard = heard;
      different = plain.1;
    }

-- ---- refusals that hold whatever the files hold that aren't read then

some_more : (files : Option Files) (places : Option (List ℕ)) → (more : List (List ℕ)) × AreRead files (places_read places) more
some_more files None = ([], tt)
some_more files (Some name) = let one = some_read most_bytes files name in (one.0 ∷ [], (one.1, tt))

refused_text : (job : ViewPlan) (files : Option Files) (bytes plan_bytes : List ℕ) (r : Refusal) → AreReadUpTo most_bytes files job.file bytes → AreReadUpTo most_bytes files job.plan plan_bytes → IsRule r
    → IsTextRefused job bytes plan_bytes r → Answers (view_task job) files (record { status = status.Refused; writes = []; text = refusal_text r })
refused_text job files bytes plan_bytes r read read_plan rule refused =
    let more = some_more files job.places in
    record {
      bytes = bytes ∷ plan_bytes ∷ more.0;
      read = (read, (read_plan, more.1));
      answer = inl (record { refusal = r; rule = rule; refused = refused; none = refl; text_is = refl });
    }

-- of the instance, or the level at the start, before the plan is read
pub refused_early : (job : ViewPlan) (files : Option Files) (bytes given : List ℕ) (ended : Ended) (r : Refusal) → AreReadUpTo most_bytes files job.file bytes → given ≡ bytes → ended ≡ Refused r
    → IsRuleOrMemory ended → IsSettingEnded job.limit job.form given ended → Answers (view_task job) files (record { status = status.Refused; writes = []; text = refusal_text r })
refused_early job files bytes given ended r read same is rule refused =
    let plan = some_read most_bytes files job.plan in
    let here = subst (λ (bs : List ℕ). IsSettingEnded job.limit job.form bs ended) same refused in
    let first = subst (λ (e : Ended). IsSettingEnded job.limit job.form bytes e) is here in
    refused_text job files bytes plan.0 r read plan.1 (rule_of ended r is rule) (setting_rule job bytes plan.0 r first)

-- of the plan's text, before places are read
pub refused_plan : (job : ViewPlan) (files : Option Files) (bytes plan_bytes given : List ℕ) (g : Network) (ended : Ended) (r : Refusal) → AreReadUpTo most_bytes files job.file bytes → AreReadUpTo most_bytes files job.plan plan_bytes → given ≡ plan_bytes
    → HasStart job bytes g → ended ≡ Refused r → IsRuleOrMemory ended → IsHeldEnded g job.form given ended → Answers (view_task job) files (record { status = status.Refused; writes = []; text = refusal_text r })
refused_plan job files bytes plan_bytes given g ended r read read_plan same start is rule refused =
    let here = subst (λ (bs : List ℕ). IsHeldEnded g job.form bs ended) same refused in
    let first = subst (λ (e : Ended). IsHeldEnded g job.form plan_bytes e) is here in
    refused_text job files bytes plan_bytes r read read_plan (rule_of ended r is rule) (plan_rule job bytes plan_bytes g r start first)

-- ---- a read that failed

pub plan_fails : (job : ViewPlan) (before after : ShelfState) (bytes : List ℕ) (g : Network) → AreReadUpTo most_bytes before.files job.file bytes → HasStart job bytes g
    → HasFailedRead before after job.plan → FailsReading (view_task job) before after
plan_fails job before after bytes g read start failed = record {
  first = file_read job.file ∷ [];
  read = file_read job.plan;
  rest = places_read job.places;
  are = refl;
  bytes = bytes ∷ [];
  are_read = (read, tt);
  goes_on = (g, start);
  failed = failed;
}

pub places_fail : (job : ViewPlan) (before after : ShelfState) (bytes plan_bytes name : List ℕ) → HoldsPlans job bytes plan_bytes → AreReadUpTo most_bytes before.files job.file bytes → AreReadUpTo most_bytes before.files job.plan plan_bytes
    → job.places ≡ Some name → HasFailedRead before after name → FailsReading (view_task job) before after
places_fail job before after bytes plan_bytes name held read read_plan is failed = record {
  first = file_read job.file ∷ file_read job.plan ∷ [];
  read = file_read name;
  rest = [];
  are = ap (λ (places : Option (List ℕ)). file_read job.file ∷ file_read job.plan ∷ places_read places) is;
  bytes = bytes ∷ plan_bytes ∷ [];
  are_read = (read, (read_plan, tt));
  goes_on = held;
  failed = failed;
}

-- the bytes of the one more file
pub one_more : (job : ViewPlan) (files : Option Files) (bytes name : List ℕ) → job.places ≡ Some name → AreReadUpTo most_bytes files name bytes → AreRead files (places_read job.places) (bytes ∷ [])
one_more job files bytes name is read = subst (λ (places : Option (List ℕ)). AreRead files (places_read places) (bytes ∷ [])) (sym is) (read, tt)

pub none_more : (job : ViewPlan) (files : Option Files) → job.places ≡ None → AreRead files (places_read job.places) []
none_more job files is = subst (λ (places : Option (List ℕ)). AreRead files (places_read places) []) (sym is) tt

-- a name is given whether it is seen as a text or as its bytes
pub still_some : (name : Option (String Global)) → is_some (option_map (λ s. string_bytes s) name) ≡ is_some name
still_some None = refl
still_some (Some name) = refl
