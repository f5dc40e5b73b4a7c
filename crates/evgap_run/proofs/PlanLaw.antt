-- The files that `plan` leaves tell its status, and its causes exclude each other.
use Rattle.std.proofs.Common.{◌≡◌, ◌∙◌, ℕ, ◌⊎◌, Bool, List, [], ◌∷◌, Option, None, Some, ap, inl, inr, refl, subst, sym}
use Rattle.std.specs.Option.{is_some}
use Rattle.std.proofs.lemmas.Option.{same_Some}
use Rattle.ev_model.specs.Network.{Network}
use Rattle.ev_outside.specs.Shelf.{Files, HoldsUnder}
use Rattle.ev_text.proofs.Results.{Err-ne-Ok}
use Rattle.fleet_steps.proofs.Plans.{one_plan, same_plan, valid_breaks_none}
use Rattle.job_frame.proofs.LimitedNetworks.{one_limited, refused_has_none}
use Rattle.fleet_steps.specs.PlanFile.{BreaksFirst}
use Rattle.fleet_steps.specs.PlanFile.{routes_of}
use Rattle.gap_search.specs.Gap.{cost_held, plan_held}
use Rattle.gap_words.specs.Words.{PlanGap}
use Rattle.job_frame.specs.Lawful.{AreWrittenAlike, IsLawful}
use Rattle.job_frame.specs.Task.{Outcome}
use Rattle.job_frame.specs.Writes.{HoldsAll, Written}
use Rattle.job_frame.specs.declared.status.Status.{Status}
use Rattle.job_frame.specs.declared.status.Status.TheVariants as status
use Rattle.refusal_lines.specs.RefusalText.{IsRule}
use Rattle.refusal_lines.specs.declared.refusal.Refusal.{Refusal}
use Rattle.refusal_lines.specs.declared.refusal.Refusal.TheVariants as refusal
use Rattle.route_improve.specs.declared.improving.Improved.{Improved}
use Rattle.route_improve.specs.declared.improving.Improved.TheVariants.{Alone, Plan}
use Rattle.route_plan.proofs.PlanLaws.{fleet_plan_is_spelled}
use Rattle.route_plan.specs.declared.plan.FleetPlan.{FleetPlan}
use Rattle.tree_text.specs.BoundProofs.{bound_of}
use Rattle.tree_text.specs.declared.bounds.proof.BoundProof.{BoundProof}
use Rattle.evgap_run.proofs.Written.{held_fits, one_shown}
use Rattle.evgap_run.specs.PlanAnswer.{HasPlanJob, HasStart, IsNoStart, IsPlanFound, IsPlanRefused, PlanAnswers, PutsBrokenStart, PutsPlan, PutsPlanRefusal, plan_answers, plan_status, plan_task}

-- what the plan that is held costs, by the plan
cost_by_plan : Network → Option FleetPlan → Option ℕ
cost_by_plan g None = None
cost_by_plan g (Some plan) = cost_held g (Plan plan)

held_cost : (g : Network) (held : Improved) → cost_held g held ≡ cost_by_plan g (plan_held held)
unfolding cost_by_plan
held_cost g (Plan plan) = refl
held_cost g (Alone node) = refl

same_status : (g : Network) (held other : Improved) (p q : BoundProof) → plan_held held ≡ plan_held other → p ≡ q → plan_status (cost_held g held) (bound_of p) ≡ plan_status (cost_held g other) (bound_of q)
same_status g held other p q plan proof =
    let cost : cost_held g held ≡ cost_held g other = held_cost g held ∙ ap (cost_by_plan g) plan ∙ sym (held_cost g other) in
    ap (λ (c : Option ℕ). plan_status c (bound_of p)) cost ∙ ap (λ (x : BoundProof). plan_status (cost_held g other) (bound_of x)) proof

-- the same texts tell the same status
same_found : (g : Network) (start : Option FleetPlan) (may_end : Bool) (plan_bytes proof_bytes text other : List ℕ) (s t : Status) → IsPlanFound g start may_end plan_bytes proof_bytes s text → IsPlanFound g start may_end plan_bytes proof_bytes t other → s ≡ t
same_found g start may_end plan_bytes proof_bytes text other s t p q =
    let held = p.outcome.plan in
    let another = q.outcome.plan in
    let plan : plan_held held ≡ plan_held another =
    one_plan (plan_held held) (plan_held another) (held_fits g (routes_of start) p.moves_ended held p.is.plan) (held_fits g (routes_of start) q.moves_ended another q.is.plan) (sym p.plan_is ∙ q.plan_is) in
    let proof : p.outcome.proof ≡ q.outcome.proof =
    one_shown g p.is_network proof_bytes p.outcome.proof q.outcome.proof p.is.proof q.is.proof p.proof_is q.proof_is in
    p.status_is ∙ same_status g held another p.outcome.proof q.outcome.proof plan proof ∙ sym q.status_is

-- what stands in two files
both_in : (files : Option Files) (ws : List Written) (one two : Written) → ws ≡ one ∷ two ∷ [] → HoldsAll ws files → HoldsUnder files one.name one.bytes × HoldsUnder files two.name two.bytes
both_in files ws one two is holds =
    let both : HoldsAll (one ∷ two ∷ []) files = subst (λ (xs : List Written). HoldsAll xs files) is holds in
    (both.0, both.1.0)

module _ (job : PlanGap) (bytes : List ℕ) (more : List (List ℕ)) where
  one_start : (name : Option (List ℕ)) (others : List (List ℕ)) (p q : Option FleetPlan) → HasStart name others p → HasStart name others q → p ≡ q
  one_start None [] p q is was = is ∙ sym was
  one_start None (b ∷ bs) p q is was = absurd is
  one_start (Some name) [] p q is was = absurd is
  one_start (Some name) (b ∷ []) p q is was = same_plan b p q is was
  one_start (Some name) (b ∷ c ∷ bs) p q is was = absurd is

  same_network : (g h : Network) (p q : Option FleetPlan) → HasPlanJob job bytes more g p → HasPlanJob job bytes more h q → h ≡ g
  same_network g h p q is was = one_limited job.limit bytes h g was.network is.network

  same_start : (g h : Network) (p q : Option FleetPlan) → HasPlanJob job bytes more g p → HasPlanJob job bytes more h q → q ≡ p
  same_start g h p q is was = one_start job.start more q p was.held is.held

  -- what was found of the same bytes, and stands in the same files
  same_search : (o r : Outcome) → AreWrittenAlike o r → PutsPlan job bytes more o.status o.writes o.text → PutsPlan job bytes more r.status r.writes r.text → o.status ≡ r.status
  same_search o r alike p q =
      let network : q.network ≡ p.network = same_network p.network q.network p.start q.start p.has q.has in
      let start : q.start ≡ p.start = same_start p.network q.network p.start q.start p.has q.has in
      let held = both_in (Some alike.files) o.writes (record { name = job.plan; bytes = p.plan_bytes }) (record { name = job.proof; bytes = p.proof_bytes }) p.written alike.one in
      let hold = both_in (Some alike.files) r.writes (record { name = job.plan; bytes = q.plan_bytes }) (record { name = job.proof; bytes = q.proof_bytes }) q.written alike.other in
      let plan : q.plan_bytes ≡ p.plan_bytes = same_Some q.plan_bytes p.plan_bytes (sym hold.0 ∙ held.0) in
      let proof : q.proof_bytes ≡ p.proof_bytes = same_Some q.proof_bytes p.proof_bytes (sym hold.1 ∙ held.1) in
      same_found p.network p.start (is_some job.seconds) p.plan_bytes p.proof_bytes o.text r.text o.status r.status p.found
      (subst (λ (g : Network). IsPlanFound g p.start (is_some job.seconds) p.plan_bytes p.proof_bytes r.status r.text) network
      (subst (λ (s : Option FleetPlan). IsPlanFound q.network s (is_some job.seconds) p.plan_bytes p.proof_bytes r.status r.text) start
      (subst (λ (bs : List ℕ). IsPlanFound q.network q.start (is_some job.seconds) bs p.proof_bytes r.status r.text) plan
      (subst (λ (bs : List ℕ). IsPlanFound q.network q.start (is_some job.seconds) q.plan_bytes bs r.status r.text) proof q.found))))

  -- the plan to begin with breaks no rule where something was found
  found_is_unbroken : (s : Status) (ws vs : List Written) (text other : List ℕ) → PutsPlan job bytes more s ws text → PutsBrokenStart job bytes more vs other → ⊥
  found_is_unbroken s ws vs text other p q =
      let there = subst (λ (g : Network). BreaksFirst g q.start q.fault) (same_network p.network q.network p.start q.start p.has q.has) q.broken in
      let here = subst (λ (plan : Option FleetPlan). BreaksFirst p.network plan q.fault) (same_start p.network q.network p.start q.start p.has q.has) there in
      valid_breaks_none p.network p.start p.was q.fault p.valid here

  spelled_is_read : (name : Option (List ℕ)) (others : List (List ℕ)) (p : Option FleetPlan) (r : Refusal) → HasStart name others p → IsNoStart name others r → ⊥
  spelled_is_read (Some name) (b ∷ []) p (refusal.Plan e) is fault = Err-ne-Ok e p (sym fault ∙ (fleet_plan_is_spelled b p).1 is)
  spelled_is_read (Some name) (b ∷ []) p (refusal.Instance e) is none = none
  spelled_is_read (Some name) (b ∷ []) p (refusal.Limit e) is none = none
  spelled_is_read (Some name) (b ∷ []) p (refusal.Customers e) is none = none
  spelled_is_read (Some name) (b ∷ []) p (refusal.Charge e) is none = none
  spelled_is_read (Some name) (b ∷ []) p (refusal.Route e) is none = none
  spelled_is_read (Some name) (b ∷ []) p (refusal.Certificate e) is none = none
  spelled_is_read (Some name) (b ∷ []) p (refusal.Literal e) is none = none
  spelled_is_read (Some name) (b ∷ []) p refusal.Maker is none = none
  spelled_is_read None others p r is none = none
  spelled_is_read (Some name) [] p r is none = none
  spelled_is_read (Some name) (b ∷ c ∷ bs) p r is none = none

  -- what the files hold breaks no rule of a text
  refused_holds_not : (g : Network) (start : Option FleetPlan) (r : Refusal) → HasPlanJob job bytes more g start → IsRule r → IsPlanRefused job bytes more r → ⊥
  refused_holds_not g start r has rule (inl first) = refused_has_none job.limit bytes r g rule first has.network
  refused_holds_not g start r has rule (inr (h, fleet, none)) = spelled_is_read job.start more start r has.held none

-- ---- an answer is what was found, or the rule that the plan to begin with breaks, or a refusal

FoundOrNot : PlanGap → List ℕ → List (List ℕ) → Status → List Written → List ℕ → Type 0
FoundOrNot job bytes more s ws text =
    PutsPlan job bytes more s ws text
    ⊎ ((s ≡ status.Negative) × PutsBrokenStart job bytes more ws text)
    ⊎ ((s ≡ status.Refused) × PutsPlanRefusal job bytes more ws text)

negative_is : (job : PlanGap) (bytes : List ℕ) (more : List (List ℕ)) (ws : List Written) (text : List ℕ) → PutsPlan job bytes more status.Negative ws text ⊎ PutsBrokenStart job bytes more ws text
    → FoundOrNot job bytes more status.Negative ws text
unfolding FoundOrNot
negative_is job bytes more ws text (inl p) = inl p
negative_is job bytes more ws text (inr broken) = inr (inl (refl, broken))

found_or_not : (job : PlanGap) (bytes : List ℕ) (more : List (List ℕ)) (s : Status) (ws : List Written) (text : List ℕ) → PlanAnswers job bytes more s ws text → FoundOrNot job bytes more s ws text
unfolding FoundOrNot
found_or_not job bytes more status.Done ws text p = inl p
found_or_not job bytes more status.Negative ws text p = negative_is job bytes more ws text p
found_or_not job bytes more status.Stopped ws text p = inl p
found_or_not job bytes more status.Refused ws text p = inr (inr (refl, p))
found_or_not job bytes more status.Words ws text p = absurd p
found_or_not job bytes more status.Fault ws text p = absurd p
found_or_not job bytes more status.Memory ws text p = absurd p

one_answer : (job : PlanGap) (bytes : List ℕ) (more : List (List ℕ)) (o p : Outcome) → AreWrittenAlike o p → FoundOrNot job bytes more o.status o.writes o.text → FoundOrNot job bytes more p.status p.writes p.text → o.status ≡ p.status
unfolding FoundOrNot
one_answer job bytes more o p alike (inl is) (inl was) = same_search job bytes more o p alike is was
one_answer job bytes more o p alike (inl is) (inr (inl (negative, broken))) = absurd (found_is_unbroken job bytes more o.status o.writes p.writes o.text p.text is broken)
one_answer job bytes more o p alike (inl is) (inr (inr (refused, was))) = absurd (refused_holds_not job bytes more is.network is.start was.refusal is.has was.rule was.refused)
one_answer job bytes more o p alike (inr (inl (negative, broken))) (inl was) = absurd (found_is_unbroken job bytes more p.status p.writes o.writes p.text o.text was broken)
one_answer job bytes more o p alike (inr (inl (negative, broken))) (inr (inl (other, was))) = negative ∙ sym other
one_answer job bytes more o p alike (inr (inl (negative, broken))) (inr (inr (refused, was))) = absurd (refused_holds_not job bytes more broken.network broken.start was.refusal broken.has was.rule was.refused)
one_answer job bytes more o p alike (inr (inr (refused, is))) (inl was) = absurd (refused_holds_not job bytes more was.network was.start is.refusal was.has is.rule is.refused)
one_answer job bytes more o p alike (inr (inr (refused, is))) (inr (inl (negative, broken))) = absurd (refused_holds_not job bytes more broken.network broken.start is.refusal broken.has is.rule is.refused)
one_answer job bytes more o p alike (inr (inr (refused, is))) (inr (inr (other, was))) = refused ∙ sym other

one_status : (job : PlanGap) (bytes : List (List ℕ)) (o p : Outcome) → plan_answers job bytes o → plan_answers job bytes p → AreWrittenAlike o p → o.status ≡ p.status
one_status job [] o p is was alike = absurd is
one_status job (bytes ∷ more) o p is was alike =
    one_answer job bytes more o p alike (found_or_not job bytes more o.status o.writes o.text is) (found_or_not job bytes more p.status p.writes p.text was)

pub plan_lawful : (job : PlanGap) → IsLawful (plan_task job)
plan_lawful job = record {
  one_status = λ bytes o p is was alike. one_status job bytes o p is was (alike tt);
  stopped = λ bytes o is stopped. tt;
}
