-- The labels by number, and the first broken rule.
use Rattle.std.proofs.Common.{◌≡◌, ◌∙◌, ℕ, ◌+◌, ◌<◌, ◌≤◌, Option, Some, None, Bool, length, sym, subst, arith, inl, inr}
use Rattle.std.specs.Prelude.{slice_get}
use Rattle.std.proofs.lemmas.Bool.{cases_eq}
use Rattle.std.proofs.lemmas.Option.{same_Some, slice_get_within}
use Rattle.route_proof.specs.Broken.{ComesBefore, EndsBelow, Place, at_home, at_start, at_step}
use Rattle.route_proof.specs.declared.proof.RouteLabel.{RouteLabel}
use Rattle.route_proof.proofs.Rules.{closed_by_rules}
use Rattle.route_proof.specs.Faults.{Breaks, TellsEnds, TellsLabels, TellsSteps}
use Rattle.route_proof.specs.Questions.{Question}
use Rattle.route_proof.specs.Tellings.{Misses, TellsFirst}
use Rattle.route_proof.specs.declared.fault.RouteLabelFault.{RouteLabelFault}
use Rattle.route_proof.specs.declared.fault.RouteLabelFault.TheVariants.{End, Start, Step}
use Rattle.route_proof.specs.declared.steps.Missed.{Missed}

module _ (q : Question) (n : ℕ) (label : RouteLabel) (here : slice_get q.labels n ≡ Some label) where
  its_step : (x : ℕ) (via : Bool) → Breaks q (at_step n x via) → Misses q label x via
  its_step x via fault = subst (λ (l : RouteLabel). Misses q l x via) (same_Some fault.0 label (sym fault.1 ∙ here)) fault.2

  its_end : Breaks q (at_home n) → EndsBelow q.journey q.bar label
  its_end fault = subst (λ (l : RouteLabel). EndsBelow q.journey q.bar l) (same_Some fault.0 label (sym fault.1 ∙ here)) fault.2

  pub steps_more : TellsFirst q label None → ((m x : ℕ) (via : Bool) → m < n → Breaks q (at_step m x via) → ⊥) → (m x : ℕ) (via : Bool) → m < n + 1 → Breaks q (at_step m x via) → ⊥
  steps_more none before m x via high fault = elim (cases_eq m n) [
    | inl same ↦ none x via (its_step x via (subst (λ k. Breaks q (at_step k x via)) same fault))
    | inr other ↦ before m x via (omega (arith, high, other)) fault
  ]

  pub first_step : (missed : Missed) → TellsFirst q label (Some missed) → ((m x : ℕ) (via : Bool) → m < n → Breaks q (at_step m x via) → ⊥) → TellsSteps q (Some (Step n missed.node missed.via))
  first_step missed tells before = (
    (label, here, tells.0),
    λ m x via earlier fault. elim earlier [
      | inl lower ↦ before m x via lower fault
      | inr same ↦ tells.1 x via same.1 (its_step x via (subst (λ k. Breaks q (at_step k x via)) same.0 fault))
    ],
  )

  pub ends_more : (EndsBelow q.journey q.bar label → ⊥) → ((m : ℕ) → m < n → Breaks q (at_home m) → ⊥) → (m : ℕ) → m < n + 1 → Breaks q (at_home m) → ⊥
  ends_more none before m high fault = elim (cases_eq m n) [
    | inl same ↦ none (its_end (subst (λ k. Breaks q (at_home k)) same fault))
    | inr other ↦ before m (omega (arith, high, other)) fault
  ]

  pub first_end : EndsBelow q.journey q.bar label → ((m : ℕ) → m < n → Breaks q (at_home m) → ⊥) → TellsEnds q (Some (End n))
  first_end ends before = ((label, here, ends), before)

pub no_steps : (q : Question) (n : ℕ) → length q.labels ≤ n → ((m x : ℕ) (via : Bool) → m < n → Breaks q (at_step m x via) → ⊥) → TellsSteps q None
no_steps q n all before m x via fault =
    let within = slice_get_within q.labels m fault.0 fault.1 in
    before m x via (omega (arith, within, all)) fault

pub no_ends : (q : Question) (n : ℕ) → length q.labels ≤ n → ((m : ℕ) → m < n → Breaks q (at_home m) → ⊥) → TellsEnds q None
no_ends q n all before m fault =
    let within = slice_get_within q.labels m fault.0 fault.1 in
    before m (omega (arith, within, all)) fault

-- the first broken rule of all
pub step_told : (q : Question) (fault : RouteLabelFault) → (Breaks q at_start → ⊥) → TellsSteps q (Some fault) → TellsLabels q (Some fault)
step_told q Start begins first = absurd first
step_told q (Step n x via) begins first = record { broken = first.0; first = none_before }
  where
    none_before : (other : Place) → ComesBefore other (at_step n x via) → Breaks q other → ⊥
    none_before at_start before fault = begins fault
    none_before (at_step m y b) before fault = first.1 m y b before fault
    none_before (at_home m) before fault = before
step_told q (End n) begins first = absurd first

pub end_told : (q : Question) (o : Option RouteLabelFault) → (Breaks q at_start → ⊥) → TellsSteps q None → TellsEnds q o → TellsLabels q o
end_told q None begins steps ends = (closed_by_rules q.journey q.bar q.labels).1 none
  where
    none : (at : Place) → Breaks q at → ⊥
    none at_start fault = begins fault
    none (at_step n x via) fault = steps n x via fault
    none (at_home n) fault = ends n fault
end_told q (Some Start) begins steps first = absurd first
end_told q (Some (Step n x via)) begins steps first = absurd first
end_told q (Some (End n)) begins steps first = record { broken = first.0; first = none_before }
  where
    none_before : (other : Place) → ComesBefore other (at_home n) → Breaks q other → ⊥
    none_before at_start before fault = begins fault
    none_before (at_step m y b) before fault = steps m y b fault
    none_before (at_home m) before fault = first.1 m before fault
