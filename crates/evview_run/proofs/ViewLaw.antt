-- The causes of the statuses exclude each other.
use Rattle.std.proofs.Common.{◌≡◌, ◌∙◌, ◌⊎◌, ℕ, ◌<◌, ◌≤◌, List, [], ◌∷◌, Bool, Option, Some, inl, inr, arith, subst, sym}
use Rattle.ev_model.specs.Network.{Network, node_count}
use Rattle.job_frame.proofs.OneStatus.{ExcludeEachOther, IsPlain, lawful, nothing_excludes}
use Rattle.job_frame.specs.Lawful.{IsLawful}
use Rattle.job_frame.specs.Task.{Outcome}
use Rattle.job_frame.specs.Writes.{Written}
use Rattle.job_frame.specs.declared.status.Status.{Status}
use Rattle.job_frame.specs.declared.status.Status.TheVariants as status
use Rattle.place_names.proofs.Unbroken.{good_breaks_none}
use Rattle.place_names.specs.declared.faults.PlacesFault.{PlacesFault}
use Rattle.place_names.specs.declared.place.Place.{Place}
use Rattle.route_plan.specs.declared.plan.FleetPlan.{FleetPlan}
use Rattle.view_words.specs.Words.{ViewPlan}
use Rattle.evview_run.proofs.HeldLaws.{held_starts, refused_holds_not, same_held, same_network}
use Rattle.evview_run.proofs.Parts.{showable_breaks_none}
use Rattle.evview_run.proofs.Shown.{time_is_cost}
use Rattle.evview_run.specs.Held.{HoldsPlans}
use Rattle.evview_run.specs.ViewAnswer.{Breaks, BreaksPlaces, HasPlaces, HasRoute, IsShowable, PutsBrokenPlan, PutsNoPlaces, PutsNoRoute, PutsOtherTime, PutsRefusal, PutsSchedule, ViewAnswers, needs_points, route_count, untrue, view_answers, view_task}
use Rattle.evview_run.specs.declared.held.HeldPlans.{HeldPlans}

-- a route that is there isn't past the last one
there_or_past : (route : Option ℕ) (number : ℕ) (plan : Option FleetPlan) → HasRoute route plan → route ≡ Some number → route_count plan ≤ number → ⊥
there_or_past route number plan there asked past =
    let here : number < route_count plan = subst (λ (r : Option ℕ). HasRoute r plan) asked there in
    omega (arith, here, past)

-- places that are there break no rule
places_or_fault : (needed : Bool) (g : Network) (more : List (List ℕ)) (places : List Place) (fault : PlacesFault) → HasPlaces needed g more places → BreaksPlaces needed g more fault → ⊥
places_or_fault needed g more places fault named breaks =
    good_breaks_none needed (node_count g) breaks.0 places fault (subst (λ (m : List (List ℕ)). HasPlaces needed g m places) breaks.1 named) breaks.2

module _ (job : ViewPlan) (bytes plan_bytes : List ℕ) (more : List (List ℕ)) where
  -- a plan whose schedule is shown breaks no rule that is asked of it
  shown_is_unbroken : (ws vs : List Written) (text other : List ℕ) → PutsSchedule job bytes plan_bytes more ws text → PutsBrokenPlan job bytes plan_bytes more vs other → ⊥
  shown_is_unbroken ws vs text other p q =
      let there : Breaks job.form p.files.network q.files.held q.fault =
      subst (λ (g : Network). Breaks job.form g q.files.held q.fault) (same_network job bytes plan_bytes p.files q.files) q.broken in
      let here : Breaks job.form p.files.network p.files.held q.fault =
      subst (λ (held : HeldPlans). Breaks job.form p.files.network held q.fault) (same_held job bytes plan_bytes p.files q.files) there in
      showable_breaks_none job.form p.files.network p.files.held p.cost q.fault p.valid here

  -- nor is another time told of it
  one_cost : (h : HoldsPlans job bytes plan_bytes) (cost other : Option ℕ) → IsShowable job.form h.network h.held cost → IsShowable job.form h.network h.held other → cost ≡ other
  one_cost h cost other valid again =
      let starts = held_starts h.network job.form plan_bytes h.held h.has.is in
      sym (time_is_cost job.form h.network job.route h.held cost starts valid) ∙ time_is_cost job.form h.network job.route h.held other starts again

  shown_is_true : (ws vs : List Written) (text other : List ℕ) → PutsSchedule job bytes plan_bytes more ws text → PutsOtherTime job bytes plan_bytes more vs other → ⊥
  shown_is_true ws vs text other p q =
      let held = same_held job bytes plan_bytes p.files q.files in
      let there : IsShowable job.form p.files.network q.files.held q.cost =
      subst (λ (g : Network). IsShowable job.form g q.files.held q.cost) (same_network job bytes plan_bytes p.files q.files) q.valid in
      let here : IsShowable job.form p.files.network p.files.held q.cost = subst (λ (h : HeldPlans). IsShowable job.form p.files.network h q.cost) held there in
      let same : q.cost ≡ p.cost = one_cost p.files q.cost p.cost here p.valid in
      let told : untrue p.files.held.told q.cost ≡ Some q.told = subst (λ (h : HeldPlans). untrue h.told q.cost ≡ Some q.told) held q.other in
      let again : untrue p.files.held.told p.cost ≡ Some q.told = subst (λ (cost : Option ℕ). untrue p.files.held.told cost ≡ Some q.told) same told in
      let nothing = p.told in
      cc

  shown_is_no_rejected : (ws vs : List Written) (text other : List ℕ) → PutsSchedule job bytes plan_bytes more ws text → PutsBrokenPlan job bytes plan_bytes more vs other ⊎ PutsOtherTime job bytes plan_bytes more vs other → ⊥
  shown_is_no_rejected ws vs text other p (inl q) = shown_is_unbroken ws vs text other p q
  shown_is_no_rejected ws vs text other p (inr q) = shown_is_true ws vs text other p q

  -- what the files hold, with the route that is asked for, is refused by no rule
  held_is_not_refused : (h : HoldsPlans job bytes plan_bytes) (places : List Place) (ws : List Written) (text : List ℕ) → HasPlaces (needs_points job) h.network more places → HasRoute job.route h.held.plan
      → PutsRefusal job bytes plan_bytes ws text ⊎ PutsNoPlaces job bytes plan_bytes more ws text ⊎ PutsNoRoute job bytes plan_bytes more ws text → ⊥
  held_is_not_refused h places ws text named route (inl p) = refused_holds_not job bytes plan_bytes h p.refusal p.rule p.refused
  held_is_not_refused h places ws text named route (inr (inl p)) =
      let broken : BreaksPlaces (needs_points job) h.network more p.fault = subst (λ (g : Network). BreaksPlaces (needs_points job) g more p.fault) (same_network job bytes plan_bytes h p.files) p.broken in
      places_or_fault (needs_points job) h.network more places p.fault named broken
  held_is_not_refused h places ws text named route (inr (inr p)) =
      let past : route_count h.held.plan ≤ p.number = subst (λ (held : HeldPlans). route_count held.plan ≤ p.number) (same_held job bytes plan_bytes h p.files) p.past in
      there_or_past job.route p.number h.held.plan route p.asked past

  rejected_is_not_refused : (ws vs : List Written) (text other : List ℕ) → PutsBrokenPlan job bytes plan_bytes more ws text ⊎ PutsOtherTime job bytes plan_bytes more ws text
      → PutsRefusal job bytes plan_bytes vs other ⊎ PutsNoPlaces job bytes plan_bytes more vs other ⊎ PutsNoRoute job bytes plan_bytes more vs other → ⊥
  rejected_is_not_refused ws vs text other (inl p) q = held_is_not_refused p.files p.places vs other p.named p.route q
  rejected_is_not_refused ws vs text other (inr p) q = held_is_not_refused p.files p.places vs other p.named p.route q

-- ---- the causes

ViewCause : ViewPlan → List ℕ → List ℕ → List (List ℕ) → Status → Type 0
ViewCause job bytes plan_bytes more s = (ws : List Written) × ((text : List ℕ) × ViewAnswers job bytes plan_bytes more s ws text)

answered : (job : ViewPlan) (bytes plan_bytes : List ℕ) (more : List (List ℕ)) (s : Status) → ViewCause job bytes plan_bytes more s → IsPlain s
unfolding ViewCause
answered job bytes plan_bytes more status.Done p = tt
answered job bytes plan_bytes more status.Negative p = tt
answered job bytes plan_bytes more status.Refused p = tt
answered job bytes plan_bytes more status.Words p = absurd p.1.1
answered job bytes plan_bytes more status.Fault p = absurd p.1.1
answered job bytes plan_bytes more status.Memory p = absurd p.1.1
answered job bytes plan_bytes more status.Stopped p = absurd p.1.1

exclude : (job : ViewPlan) (bytes plan_bytes : List ℕ) (more : List (List ℕ)) → ExcludeEachOther (ViewCause job bytes plan_bytes more)
unfolding ViewCause
exclude job bytes plan_bytes more = record {
  answered = answered job bytes plan_bytes more;
  done_negative = λ p q. shown_is_no_rejected job bytes plan_bytes more p.0 q.0 p.1.0 q.1.0 p.1.1 q.1.1;
  done_refused = λ p q. held_is_not_refused job bytes plan_bytes more p.1.1.files p.1.1.places q.0 q.1.0 p.1.1.named p.1.1.route q.1.1;
  negative_refused = λ p q. rejected_is_not_refused job bytes plan_bytes more p.0 q.0 p.1.0 q.1.0 p.1.1 q.1.1;
}

abbrev cause : ViewPlan → List (List ℕ) → Status → Type 0
cause job (bytes ∷ plan_bytes ∷ more) s = ViewCause job bytes plan_bytes more s
cause job other s = ⊥

has : (job : ViewPlan) (bytes : List (List ℕ)) (o : Outcome) → view_answers job bytes o → cause job bytes o.status
unfolding ViewCause
has job (bytes ∷ plan_bytes ∷ more) o is = (o.writes, (o.text, is))
has job [] o is = absurd is
has job (bytes ∷ []) o is = absurd is

each : (job : ViewPlan) (bytes : List (List ℕ)) → ExcludeEachOther (cause job bytes)
each job (bytes ∷ plan_bytes ∷ more) = exclude job bytes plan_bytes more
each job [] = nothing_excludes
each job (bytes ∷ []) = nothing_excludes

pub view_lawful : (job : ViewPlan) → IsLawful (view_task job)
view_lawful job = lawful (view_task job) (cause job) (has job) (each job)
