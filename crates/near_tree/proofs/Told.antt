-- What the tests of the labels of a leaf, one after another, tell of the rules.
use Rattle.std.proofs.Common.{◌≡◌, ◌∙◌, ℕ, ◌+◌, ◌<◌, ◌≤◌, List, length, map, None, Some, refl, sym, ap, subst, arith, inl, inr, pos, ◌*◌, ◌≤ℤ◌}
use Rattle.std.specs.List.{Contains}
use Rattle.std.specs.Prelude.{option_map, slice_get, slice_index_or}
use Rattle.std.proofs.lemmas.Bool.{cases_eq}
use Rattle.std.proofs.lemmas.Int.{by_lt_z}
use Rattle.std.proofs.lemmas.Option.{same_Some, slice_get-map, slice_get_read, slice_get_within}
use Rattle.ev_model.specs.Network.{Network}
use Rattle.fleet_model.specs.Labels.{IsLevel}
use Rattle.fleet_model.specs.Steps.{time_at}
use Rattle.near_tree.specs.Closed.{AreClosedAt}
use Rattle.near_tree.specs.Preorder.{leaf_label}
use Rattle.near_tree.specs.Rules.{at_bound, at_home, at_start, at_step, EarnsHome, IsSooner, Leaf, MissesState, MissesStep, Place}
use Rattle.near_tree.specs.Sections.{LeafLabel}
use Rattle.near_tree.specs.Steps.{IsLeafHomeStep, leaf_at, leaf_start}
use Rattle.near_tree.specs.Judging.{AreStepsCovered, IsFaultAt, IsFirstFault, TellsBadHome, TellsBadStep, TellsFirst}
use Rattle.near_tree.specs.Targets.{IsStateCovered}
use Rattle.near_tree.specs.declared.proof.SectionLabel.{SectionLabel}
use Rattle.near_tree.proofs.LabelSteps.{not_uncovered}

-- the steps from the labels before one are covered
abbrev pub CoveredBefore : Network → Leaf → ℕ → Type 0
CoveredBefore g f n = (m x : ℕ) (l : LeafLabel) → m < n → slice_get f.section.labels m ≡ Some l → AreStepsCovered g f l x

-- no step home from them earns more than it takes
abbrev pub FreeBefore : Network → Leaf → ℕ → Type 0
FreeBefore g f n = (m : ℕ) → m < n → IsFaultAt g f (at_home 0 m) → ⊥

-- a label of the section, by number, as one of the leaf
pub label_at : (labels : List SectionLabel) (n : ℕ) (l : SectionLabel) → n < length labels → l ≡ slice_index_or labels n l → slice_get (map leaf_label labels) n ≡ Some (leaf_label l)
label_at labels n l less is = slice_get-map leaf_label labels n ∙ ap (option_map leaf_label) (slice_get_read labels (length labels) n l refl less is)

module _ (g : Network) (f : Leaf) where
  module _ (n : ℕ) (l : LeafLabel) (is : slice_get f.section.labels n ≡ Some l) where
    same_label : (k : LeafLabel) (m : ℕ) → m ≡ n → slice_get f.section.labels m ≡ Some k → l ≡ k
    same_label k m same at = same_Some l k (sym is ∙ subst (λ a. slice_get f.section.labels a ≡ Some k) same at)

    pub steps_more : TellsFirst g f l None → CoveredBefore g f n → CoveredBefore g f (n + 1)
    steps_more told before m x k low at = elim (cases_eq m n) [
      | inl same ↦ subst (λ (a : LeafLabel). AreStepsCovered g f a x) (same_label k m same at) (told x)
      | inr other ↦ before m x k (omega (arith, low, other)) at
    ]

    pub step_told : (node : ℕ) → TellsFirst g f l (Some node) → CoveredBefore g f n → TellsBadStep g f (Some (n, node))
    step_told node told before = (
      (l, is, told.0),
      λ m x low broken. not_uncovered g f broken.0 x (before m x broken.0 low broken.1) broken.2,
      λ x low broken. told.1 x low (subst (λ (a : LeafLabel). MissesStep g f a x) (same_Some broken.0 l (sym broken.1 ∙ is)) broken.2),
    )

    pub ends_more : (EarnsHome g f l → ⊥) → FreeBefore g f n → FreeBefore g f (n + 1)
    ends_more free before m low broken = elim (cases_eq m n) [
      | inl same ↦ free (subst (λ (a : LeafLabel). EarnsHome g f a) (sym (same_label broken.0 m same broken.1)) broken.2)
      | inr other ↦ before m (omega (arith, low, other)) broken
    ]

    pub end_told : EarnsHome g f l → FreeBefore g f n → TellsBadHome g f (Some n)
    end_told earns before = ((l, is, earns), before)

  pub no_bad_step : (n : ℕ) → length f.section.labels ≤ n → CoveredBefore g f n → TellsBadStep g f None
  no_bad_step n all before m x l at = before m x l (let less = slice_get_within f.section.labels m l at in omega (arith, less, all)) at

  pub no_bad_home : (n : ℕ) → length f.section.labels ≤ n → FreeBefore g f n → TellsBadHome g f None
  no_bad_home n all before m broken = before m (let less = slice_get_within f.section.labels m broken.0 broken.1 in omega (arith, less, all)) broken

  numbered_in : (l : LeafLabel) (there : Contains f.section.labels l) → slice_get f.section.labels there.0 ≡ Some l
  numbered_in l there = slice_get_read f.section.labels (length f.section.labels) there.0 l refl there.1 (sym there.2)

  pub start_first : MissesState g f (leaf_start g) → IsFirstFault g f (at_start 0)
  start_first missed = record { broken = missed; first = before }
    where
      before : (other : Place) → IsSooner other (at_start 0) → IsFaultAt g f other → ⊥
      before (at_start n) soon broken = soon
      before (at_step n k x) soon broken = soon
      before (at_home n k) soon broken = soon
      before (at_bound n) soon broken = soon

  module _ (begins : IsStateCovered g f (leaf_start g)) where
    pub step_first : (step : ℕ × ℕ) → TellsBadStep g f (Some step) → IsFirstFault g f (at_step 0 step.0 step.1)
    step_first step told = record { broken = told.0; first = before }
      where
        before : (other : Place) → IsSooner other (at_step 0 step.0 step.1) → IsFaultAt g f other → ⊥
        before (at_start n) soon broken = broken begins
        before (at_step n k x) (inl less) broken = told.1 k x less broken
        before (at_step n k x) (inr same) broken = told.2 x same.1 (subst (λ m. IsFaultAt g f (at_step 0 m x)) same.0 broken)
        before (at_home n k) soon broken = soon
        before (at_bound n) soon broken = soon

    module _ (steps : TellsBadStep g f None) where
      pub end_first : (label : ℕ) → TellsBadHome g f (Some label) → IsFirstFault g f (at_home 0 label)
      end_first label told = record { broken = told.0; first = before }
        where
          before : (other : Place) → IsSooner other (at_home 0 label) → IsFaultAt g f other → ⊥
          before (at_start n) soon broken = broken begins
          before (at_step n k x) soon broken = not_uncovered g f broken.0 x (steps k x broken.0 broken.1) broken.2
          before (at_home n k) soon broken = told.1 k soon broken
          before (at_bound n) soon broken = soon

      module _ (ends : TellsBadHome g f None) where
        home_free : (l : LeafLabel) (y : ℕ) → Contains f.section.labels l → IsLevel l.label y → IsLeafHomeStep g f.branch (leaf_at l y) → l.label.paid ≤ℤ pos (f.section.weight * time_at g (leaf_at l y).state 0)
        home_free l y there level step =
            by_lt_z {P = l.label.paid ≤ℤ pos (f.section.weight * time_at g (leaf_at l y).state 0)} (pos (f.section.weight * time_at g (leaf_at l y).state 0)) l.label.paid
            (λ less. absurd (ends there.0 (l, numbered_in l there, (y, level, step, less)))) (λ fine. fine)

        pub closed : AreClosedAt g f.branch f.section
        closed = record {
          begins = begins;
          customer = λ l y x there level step. (steps there.0 x l (numbered_in l there)).customer y level step;
          station = λ l y x z there level step. (steps there.0 x l (numbered_in l there)).station y z level step;
          home = home_free;
        }
