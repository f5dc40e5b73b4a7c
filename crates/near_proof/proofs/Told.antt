-- What the tests of labels, one after another, tell of the rules.
use Rattle.std.proofs.Common.{◌≡◌, ◌∙◌, ℕ, ◌+◌, ◌<◌, ◌≤◌, true, length, None, Some, sym, subst, arith, inl, inr}
use Rattle.std.specs.Prelude.{slice_get}
use Rattle.std.proofs.lemmas.Bool.{cases_eq}
use Rattle.std.proofs.lemmas.Option.{same_Some, slice_get_within}
use Rattle.ev_model.specs.Network.{is_customer, Network}
use Rattle.fleet_model.specs.Places.{customer_number}
use Rattle.near_proof.specs.Accepted.{HasTight}
use Rattle.near_proof.specs.Broken.{at_home, EarnsHome}
use Rattle.near_proof.specs.declared.proof.NearLabel.{NearLabel}
use Rattle.near_proof.specs.declared.proof.NearProof.{NearProof}
use Rattle.near_proof.specs.Faults.{IsFault, Judged}
use Rattle.near_proof.specs.Judging.{AreStepsCovered, IsUncovered, TellsBadEnd, TellsBadStep, TellsFirst}
use Rattle.near_proof.proofs.LabelSteps.{not_uncovered}

-- the steps from the labels before one are covered
abbrev pub CoveredBefore : Network → Judged → ℕ → Type 0
CoveredBefore g j n = (m x : ℕ) (l : NearLabel) → m < n → slice_get j.labels m ≡ Some l → AreStepsCovered g j l x

-- no step home from them earns more than it takes
abbrev pub FreeBefore : Network → Judged → ℕ → Type 0
FreeBefore g j n = (m : ℕ) → m < n → IsFault g j (at_home m) → ⊥

-- the customers at the nodes before one have tight routes
abbrev pub TightBefore : Network → NearProof → ℕ → Type 0
TightBefore g p node = (x : ℕ) → x < node → is_customer g x ≡ true → HasTight g p (customer_number g x)

module _ (g : Network) (p : NearProof) where
  pub tight_more : (node : ℕ) → (is_customer g node ≡ true → HasTight g p (customer_number g node)) → TightBefore g p node → TightBefore g p (node + 1)
  tight_more node here before x low is = elim (cases_eq x node) [
    | inl same ↦ subst (λ k. HasTight g p (customer_number g k)) (sym same) (here (subst (λ k. is_customer g k ≡ true) same is))
    | inr other ↦ before x (omega (arith, low, other)) is
  ]

module _ (g : Network) (j : Judged) where
  module _ (n : ℕ) (l : NearLabel) (is : slice_get j.labels n ≡ Some l) where
    same_label : (k : NearLabel) (m : ℕ) → m ≡ n → slice_get j.labels m ≡ Some k → l ≡ k
    same_label k m same at = same_Some l k (sym is ∙ subst (λ a. slice_get j.labels a ≡ Some k) same at)

    pub steps_more : TellsFirst g j l None → CoveredBefore g j n → CoveredBefore g j (n + 1)
    steps_more told before m x k low at = elim (cases_eq m n) [
      | inl same ↦ subst (λ (a : NearLabel). AreStepsCovered g j a x) (same_label k m same at) (told x)
      | inr other ↦ before m x k (omega (arith, low, other)) at
    ]

    pub step_told : (node : ℕ) → TellsFirst g j l (Some node) → CoveredBefore g j n → TellsBadStep g j (Some (n, node))
    step_told node told before = (
      (l, is, told.0),
      λ m x low broken. not_uncovered g j broken.0 x (before m x broken.0 low broken.1) broken.2,
      λ x low broken. told.1 x low (subst (λ (a : NearLabel). IsUncovered g j a x) (same_Some broken.0 l (sym broken.1 ∙ is)) broken.2),
    )

    pub ends_more : (EarnsHome g j.terms.weight l → ⊥) → FreeBefore g j n → FreeBefore g j (n + 1)
    ends_more free before m low broken = elim (cases_eq m n) [
      | inl same ↦ free (subst (λ (a : NearLabel). EarnsHome g j.terms.weight a) (sym (same_label broken.0 m same broken.1)) broken.2)
      | inr other ↦ before m (omega (arith, low, other)) broken
    ]

    pub end_told : EarnsHome g j.terms.weight l → FreeBefore g j n → TellsBadEnd g j (Some n)
    end_told earns before = ((l, is, earns), before)

  pub no_bad_step : (n : ℕ) → length j.labels ≤ n → CoveredBefore g j n → TellsBadStep g j None
  no_bad_step n all before m x l at = before m x l (let less = slice_get_within j.labels m l at in omega (arith, less, all)) at

  pub no_bad_end : (n : ℕ) → length j.labels ≤ n → FreeBefore g j n → TellsBadEnd g j None
  no_bad_end n all before m broken = before m (let less = slice_get_within j.labels m broken.0 broken.1 in omega (arith, less, all)) broken
