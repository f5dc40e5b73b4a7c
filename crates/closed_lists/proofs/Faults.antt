-- The labels of a section as rules name them: by number.
use Rattle.std.proofs.Common.{◌≡◌, ◌∙◌, ℕ, zero, suc, ◌+◌, ◌<◌, ◌≤◌, List, [], ◌∷◌, length, map, Some, refl, sym, ap, subst, arith, inl, inr}
use Rattle.std.specs.Prelude.{slice_get, slice_index_or}
use Rattle.std.proofs.lemmas.Bool.{cases_eq}
use Rattle.std.proofs.lemmas.Option.{none-some, same_Some}
use Rattle.ev_model.specs.Network.{Network}
use Rattle.fleet_model.specs.ClosedList.{IsClosed}
use Rattle.fleet_model.specs.ClosedListRules.{at_home, at_start, at_step, ClosedFault as BrokenRule, ComesBefore, EarnsAtHome, IsFault, ReachesUncovered}
use Rattle.fleet_model.specs.Coverage.{IsCovered}
use Rattle.fleet_model.specs.Labels.{Label as PaidLabel}
use Rattle.fleet_model.specs.Section.{Section}
use Rattle.fleet_model.specs.Steps.{start}
use Rattle.fleet_model.proofs.Rules.{closed_by_rules}
use Rattle.piece_fn.specs.declared.label.Label.{Label}
use Rattle.closed_lists.specs.Questions.{Question, section}
use Rattle.closed_lists.specs.Sections.{paid_label}
use Rattle.closed_lists.specs.Tellings.{IsUncovered}
use Rattle.closed_lists.specs.Verdicts.{HasNoBadEnd, HasNoBadStep, IsFirstEnd, IsFirstStep, IsTold}
use Rattle.closed_lists.specs.declared.fault.ClosedFault.{ClosedFault}
use Rattle.closed_lists.specs.declared.fault.ClosedFault.TheVariants.{End, Memory, Start, Step}

slice_of : (f : Label → PaidLabel) (xs : List Label) (n : ℕ) (m : PaidLabel) → slice_get (map f xs) n ≡ Some m → (n < length xs) × ((d : Label) → f (slice_index_or xs n d) ≡ m)
slice_of f [] n m at = absurd (none-some m at)
slice_of f (x ∷ xs) zero m at = (omega arith, λ d. same_Some (f x) m at)
slice_of f (x ∷ xs) (suc n) m at = let rest = slice_of f xs n m at in (omega (arith, rest.0), rest.1)

slice_at : (f : Label → PaidLabel) (xs : List Label) (n : ℕ) (d : Label) → n < length xs → slice_get (map f xs) n ≡ Some (f (slice_index_or xs n d))
slice_at f [] n d less = absurd (omega (arith, less))
slice_at f (x ∷ xs) zero d less = refl
slice_at f (x ∷ xs) (suc n) d less = slice_at f xs n d (omega (arith, less))

module _ (q : Question) (n : ℕ) (label : Label) (less : n < length q.labels) (is : (d : Label) → label ≡ slice_index_or q.labels n d) where
  pub step_fault : (x : ℕ) → IsUncovered q label x → IsFault q.network (section q) (at_step n x)
  step_fault x missed = (paid_label q.prices label, slice_at (paid_label q.prices) q.labels n label less ∙ ap (λ l. Some (paid_label q.prices l)) (sym (is label)), missed)

  pub no_step_fault : (x : ℕ) → (IsUncovered q label x → ⊥) → IsFault q.network (section q) (at_step n x) → ⊥
  no_step_fault x none fault =
      let at = slice_of (paid_label q.prices) q.labels n fault.0 fault.1 in
      let same : fault.0 ≡ paid_label q.prices label = sym (at.1 label) ∙ ap (paid_label q.prices) (sym (is label)) in
      none (subst (λ m. ReachesUncovered q.network (section q) m x) same fault.2)

  pub end_fault : EarnsAtHome q.network (section q) (paid_label q.prices label) → IsFault q.network (section q) (at_home n)
  end_fault earns = (paid_label q.prices label, slice_at (paid_label q.prices) q.labels n label less ∙ ap (λ l. Some (paid_label q.prices l)) (sym (is label)), earns)

  pub no_end_fault : (EarnsAtHome q.network (section q) (paid_label q.prices label) → ⊥) → IsFault q.network (section q) (at_home n) → ⊥
  no_end_fault none fault =
      let at = slice_of (paid_label q.prices) q.labels n fault.0 fault.1 in
      let same : fault.0 ≡ paid_label q.prices label = sym (at.1 label) ∙ ap (paid_label q.prices) (sym (is label)) in
      none (subst (λ m. EarnsAtHome q.network (section q) m) same fault.2)

  pub steps_more : ((x : ℕ) → IsUncovered q label x → ⊥) → ((m x : ℕ) → m < n → IsFault q.network (section q) (at_step m x) → ⊥) → (m x : ℕ) → m < n + 1 → IsFault q.network (section q) (at_step m x) → ⊥
  steps_more here before m x high fault = elim (cases_eq m n) [
    | inl same ↦ no_step_fault x (here x) (subst (λ k. IsFault q.network (section q) (at_step k x)) same fault)
    | inr other ↦ before m x (omega (arith, high, other)) fault
  ]

  pub ends_more : (EarnsAtHome q.network (section q) (paid_label q.prices label) → ⊥) → ((m : ℕ) → m < n → IsFault q.network (section q) (at_home m) → ⊥) → (m : ℕ) → m < n + 1 → IsFault q.network (section q) (at_home m) → ⊥
  ends_more here before m high fault = elim (cases_eq m n) [
    | inl same ↦ no_end_fault here (subst (λ k. IsFault q.network (section q) (at_home k)) same fault)
    | inr other ↦ before m (omega (arith, high, other)) fault
  ]

  pub first_step : (x : ℕ) → IsUncovered q label x → ((y : ℕ) → y < x → IsUncovered q label y → ⊥) → ((m y : ℕ) → m < n → IsFault q.network (section q) (at_step m y) → ⊥) → IsFirstStep q.network (section q) (Step n x)
  first_step x missed first before = (
    step_fault x missed,
    λ m y earlier fault. elim earlier [
      | inl lower ↦ before m y lower fault
      | inr same ↦ no_step_fault y (first y same.1) (subst (λ k. IsFault q.network (section q) (at_step k y)) same.0 fault)
    ],
  )

pub no_steps : (q : Question) (n : ℕ) → length q.labels ≤ n → ((m x : ℕ) → m < n → IsFault q.network (section q) (at_step m x) → ⊥) → HasNoBadStep q.network (section q)
no_steps q n all before m x fault =
    let at = slice_of (paid_label q.prices) q.labels m fault.0 fault.1 in
    before m x (omega (arith, at.0, all)) fault

pub no_ends : (q : Question) (n : ℕ) → length q.labels ≤ n → ((m : ℕ) → m < n → IsFault q.network (section q) (at_home m) → ⊥) → HasNoBadEnd q.network (section q)
no_ends q n all before m fault =
    let at = slice_of (paid_label q.prices) q.labels m fault.0 fault.1 in
    before m (omega (arith, at.0, all)) fault

no_faults : (g : Network) (s : Section) → IsCovered s (start g) → HasNoBadStep g s → HasNoBadEnd g s → (fault : BrokenRule) → IsFault g s fault → ⊥
no_faults g s begins steps ends at_start fault = fault begins
no_faults g s begins steps ends (at_step n x) fault = steps n x fault
no_faults g s begins steps ends (at_home n) fault = ends n fault

-- all three rules hold
pub is_closed : (g : Network) (s : Section) → IsCovered s (start g) → HasNoBadStep g s → HasNoBadEnd g s → IsClosed g s
is_closed g s begins steps ends = (closed_by_rules g s).1 (no_faults g s begins steps ends)

-- the first broken one
pub start_told : (g : Network) (s : Section) → (IsCovered s (start g) → ⊥) → IsTold g s Start
start_told g s missed = record { broken = missed; first = none_before }
  where
    none_before : (other : BrokenRule) → ComesBefore other at_start → IsFault g s other → ⊥
    none_before at_start before fault = before
    none_before (at_step n x) before fault = before
    none_before (at_home n) before fault = before

pub step_told : (g : Network) (s : Section) (fault : ClosedFault) → IsCovered s (start g) → IsFirstStep g s fault → IsTold g s fault
step_told g s Start begins first = absurd first
step_told g s (Step n x) begins first = record { broken = first.0; first = none_before }
  where
    none_before : (other : BrokenRule) → ComesBefore other (at_step n x) → IsFault g s other → ⊥
    none_before at_start before fault = fault begins
    none_before (at_step m y) before fault = first.1 m y before fault
    none_before (at_home m) before fault = before
step_told g s (End n) begins first = absurd first
step_told g s Memory begins first = tt

pub end_told : (g : Network) (s : Section) (fault : ClosedFault) → IsCovered s (start g) → HasNoBadStep g s → IsFirstEnd g s fault → IsTold g s fault
end_told g s Start begins steps first = absurd first
end_told g s (Step n x) begins steps first = absurd first
end_told g s (End n) begins steps first = record { broken = first.0; first = none_before }
  where
    none_before : (other : BrokenRule) → ComesBefore other (at_home n) → IsFault g s other → ⊥
    none_before at_start before fault = fault begins
    none_before (at_step m y) before fault = steps m y fault
    none_before (at_home m) before fault = first.1 m before fault
end_told g s Memory begins steps first = tt
