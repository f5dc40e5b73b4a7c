-- The verdict, from what the tests of the rules tell.
use Rattle.std.proofs.Common.{◌≡◌, ℕ, ◌*◌, ◌≤◌, Bool, true, false, List, length, Option, None, Some, refl, sym, subst, arith, ◌↔◌, inl, inr}
use Rattle.std.specs.List.{Contains}
use Rattle.std.specs.Prelude.{is_some, IsSome, IsTrue, slice_get}
use Rattle.std.proofs.lemmas.Bool.{cases_lt, false≢true}
use Rattle.std.proofs.lemmas.Option.{slice_get_read}
use Rattle.ev_model.specs.Network.{is_customer, Network}
use Rattle.fleet_model.specs.Labels.{IsLevel}
use Rattle.fleet_model.specs.Places.{customer_number}
use Rattle.fleet_model.specs.Steps.{time_at}
use Rattle.near_proof.specs.Accepted.{AreTight, BoundHolds, HasTight, IsAccepted, terms_of}
use Rattle.near_proof.specs.Broken.{at_bound, at_home, at_start, at_step, at_tight, ComesBefore, IsBroken, IsFirstBroken, Place}
use Rattle.near_proof.specs.Closed.{AreClosed}
use Rattle.near_proof.specs.Covered.{IsNearCovered}
use Rattle.near_proof.specs.States.{label_of, near_at, near_start}
use Rattle.near_proof.specs.Steps.{IsNearHomeStep}
use Rattle.near_proof.specs.declared.proof.NearLabel.{NearLabel}
use Rattle.near_proof.specs.declared.proof.NearProof.{NearProof}
use Rattle.near_proof.proofs.Rules.{inside}
use Rattle.near_proof.specs.Verdicts.{IsVerdict}
use Rattle.near_proof.specs.declared.faults.NearLabelFault.{NearLabelFault}
use Rattle.near_proof.specs.declared.faults.NearLabelFault.TheVariants.{End, Start, Step}
use Rattle.near_proof.specs.Faults.{IsFault, IsFirstFault, Judged, TellsFault}
use Rattle.near_proof.specs.Judging.{as_verdict, judged_in, TellsBadEnd, TellsBadStep, TellsLoose, TellsTight}
use Rattle.near_proof.proofs.LabelSteps.{not_uncovered}

-- a label that is listed has a number
numbered_in : (labels : List NearLabel) (l : NearLabel) (there : Contains labels l) → slice_get labels there.0 ≡ Some l
numbered_in labels l there = slice_get_read labels (length labels) there.0 l refl there.1 (sym there.2)

some_by : (o : Option ℕ) → is_some o ≡ true → IsSome o
some_by None is = absurd (false≢true is)
some_by (Some n) is = grind (arith, is)

-- no step and no step home is broken
no_step : (g : Network) (j : Judged) → TellsBadStep g j None → (n x : ℕ) → IsFault g j (at_step n x) → ⊥
no_step g j steps n x broken = not_uncovered g j broken.0 x (steps n x broken.0 broken.1) broken.2

pub start_first : (g : Network) (j : Judged) → (IsNearCovered j.terms.weight j.labels (near_start g) → ⊥) → IsFirstFault g j at_start
start_first g j missed = record { broken = missed; first = before }
  where
    before : (other : Place) → ComesBefore other at_start → IsFault g j other → ⊥
    before at_start (inl low) broken = omega (arith, low)
    before at_start (inr soon) broken = soon
    before (at_step m y) (inl low) broken = omega (arith, low)
    before (at_step m y) (inr soon) broken = soon
    before (at_home m) (inl low) broken = omega (arith, low)
    before (at_home m) (inr soon) broken = soon
    before at_bound at broken = broken
    before (at_tight y) at broken = broken

module _ (g : Network) (j : Judged) (begins : IsNearCovered j.terms.weight j.labels (near_start g)) where
  pub step_first : (step : ℕ × ℕ) → TellsBadStep g j (Some step) → IsFirstFault g j (at_step step.0 step.1)
  step_first step told = record { broken = told.0; first = before }
    where
      before : (other : Place) → ComesBefore other (at_step step.0 step.1) → IsFault g j other → ⊥
      before at_start at broken = broken begins
      before (at_step m y) (inl low) broken = omega (arith, low)
      before (at_step m y) (inr (inl less)) broken = told.1 m y less broken
      before (at_step m y) (inr (inr same)) broken = told.2 y same.1 (subst (λ k. IsFault g j (at_step k y)) same.0 broken)
      before (at_home m) (inl low) broken = omega (arith, low)
      before (at_home m) (inr soon) broken = soon
      before at_bound at broken = broken
      before (at_tight y) at broken = broken

  module _ (steps : TellsBadStep g j None) where
    pub end_first : (label : ℕ) → TellsBadEnd g j (Some label) → IsFirstFault g j (at_home label)
    end_first label told = record { broken = told.0; first = before }
      where
        before : (other : Place) → ComesBefore other (at_home label) → IsFault g j other → ⊥
        before at_start at broken = broken begins
        before (at_step m y) at broken = no_step g j steps m y broken
        before (at_home m) (inl low) broken = omega (arith, low)
        before (at_home m) (inr soon) broken = told.1 m soon broken
        before at_bound at broken = broken
        before (at_tight y) at broken = broken

    module _ (ends : TellsBadEnd g j None) where
      home_free : (l : NearLabel) (y : ℕ) → Contains j.labels l → IsLevel (label_of l) y → IsNearHomeStep g (near_at l y) → l.earned ≤ j.terms.weight * time_at g (near_at l y).state 0
      home_free l y there level step = elim (cases_lt (j.terms.weight * time_at g (near_at l y).state 0) l.earned) [
        | inl less ↦ absurd (ends there.0 (l, numbered_in j.labels l there, (y, level, step, less)))
        | inr fine ↦ fine
      ]

      pub closed : AreClosed g j.terms j.labels
      closed = record {
        begins = begins;
        customer = λ l y x there level step. (steps there.0 x l (numbered_in j.labels l there)).customer y level step;
        station = λ l y x z there level step. (steps there.0 x l (numbered_in j.labels l there)).station y z level step;
        home = home_free;
      }

-- where the labels are not closed, that is the first broken rule
module _ (g : Network) (p : NearProof) where
  start_verdict : IsFirstFault g (judged_in p) at_start → IsFirstBroken g p at_start
  start_verdict is = record { broken = is.broken; first = before }
    where
      before : (other : Place) → ComesBefore other at_start → IsBroken g p other → ⊥
      before at_start at broken = is.first at_start at broken
      before (at_step m y) at broken = is.first (at_step m y) at broken
      before (at_home m) at broken = is.first (at_home m) at broken
      before at_bound (inl low) broken = omega (arith, low)
      before at_bound (inr soon) broken = soon
      before (at_tight y) (inl low) broken = omega (arith, low)
      before (at_tight y) (inr soon) broken = soon

  step_verdict : (n x : ℕ) → IsFirstFault g (judged_in p) (at_step n x) → IsFirstBroken g p (at_step n x)
  step_verdict n x is = record { broken = is.broken; first = before }
    where
      before : (other : Place) → ComesBefore other (at_step n x) → IsBroken g p other → ⊥
      before at_start at broken = is.first at_start at broken
      before (at_step m y) at broken = is.first (at_step m y) at broken
      before (at_home m) at broken = is.first (at_home m) at broken
      before at_bound (inl low) broken = omega (arith, low)
      before at_bound (inr soon) broken = soon
      before (at_tight y) (inl low) broken = omega (arith, low)
      before (at_tight y) (inr soon) broken = soon

  end_verdict : (n : ℕ) → IsFirstFault g (judged_in p) (at_home n) → IsFirstBroken g p (at_home n)
  end_verdict n is = record { broken = is.broken; first = before }
    where
      before : (other : Place) → ComesBefore other (at_home n) → IsBroken g p other → ⊥
      before at_start at broken = is.first at_start at broken
      before (at_step m y) at broken = is.first (at_step m y) at broken
      before (at_home m) at broken = is.first (at_home m) at broken
      before at_bound (inl low) broken = omega (arith, low)
      before at_bound (inr soon) broken = soon
      before (at_tight y) (inl low) broken = omega (arith, low)
      before (at_tight y) (inr soon) broken = soon

  pub fault_verdict : (fault : NearLabelFault) → TellsFault g (judged_in p) (Some fault) → IsVerdict g p (as_verdict fault)
  fault_verdict Start told = start_verdict told
  fault_verdict (Step label node) told = step_verdict label node told
  fault_verdict (End label) told = end_verdict label told

  module _ (closed : AreClosed g (terms_of p) p.labels) where
    step_holds : (n x : ℕ) → IsBroken g p (at_step n x) → ⊥
    step_holds n x broken =
        let there = inside p.labels n broken.0 broken.1 in
        elim broken.2.2 [
          | inl customer ↦ customer.1 (closed.customer broken.0 broken.2.0 x there broken.2.1 customer.0)
          | inr station ↦ station.2 (closed.station broken.0 broken.2.0 x station.0 there broken.2.1 station.1)
        ]

    home_holds : (n : ℕ) → IsBroken g p (at_home n) → ⊥
    home_holds n broken =
        let free = closed.home broken.0 broken.2.0 (inside p.labels n broken.0 broken.1) broken.2.1 broken.2.2 in
        let earns = broken.2.3 in
        omega (arith, free, earns)

    pub bound_first : (BoundHolds p p.bound → ⊥) → IsFirstBroken g p at_bound
    bound_first fails = record { broken = fails; first = before }
      where
        before : (other : Place) → ComesBefore other at_bound → IsBroken g p other → ⊥
        before at_start at broken = broken closed.begins
        before (at_step m y) at broken = step_holds m y broken
        before (at_home m) at broken = home_holds m broken
        before at_bound (inl low) broken = omega (arith, low)
        before at_bound (inr soon) broken = soon
        before (at_tight y) (inl low) broken = omega (arith, low)
        before (at_tight y) (inr soon) broken = soon

    pub tight_first : BoundHolds p p.bound → is_some p.bound ≡ true → (node : ℕ) → TellsLoose g p (Some node) → IsFirstBroken g p (at_tight node)
    tight_first holds number node told = record { broken = record { number = some_by p.bound number; known = told.0; customer = told.1; lacks = told.2 }; first = before }
      where
        before : (other : Place) → ComesBefore other (at_tight node) → IsBroken g p other → ⊥
        before at_start at broken = broken closed.begins
        before (at_step m y) at broken = step_holds m y broken
        before (at_home m) at broken = home_holds m broken
        before at_bound at broken = broken holds
        before (at_tight y) (inl low) broken = omega (arith, low)
        before (at_tight y) (inr soon) broken = broken.lacks (told.3 y soon broken.customer)

    tight_by : (bound : Option ℕ) → TellsLoose g p None → AreTight g p bound
    tight_by None told = tt
    tight_by (Some b) told = told

    free_by : (bound : Option ℕ) → is_some bound ≡ false → AreTight g p bound
    free_by None is = tt
    free_by (Some b) is = absurd (false≢true (sym is))

    pub accepted_with_number : BoundHolds p p.bound → TellsLoose g p None → IsAccepted g p
    accepted_with_number holds told = record { closed = closed; bound = holds; tight = tight_by p.bound told }

    pub accepted_with_none : BoundHolds p p.bound → is_some p.bound ≡ false → IsAccepted g p
    accepted_with_none holds none = record { closed = closed; bound = holds; tight = free_by p.bound none }

-- whether a customer has a tight route, at the customer's node
pub settled : (g : Network) (p : NearProof) (x n : ℕ) (tight : Bool) → is_customer g x ≡ true → n ≡ customer_number g x → IsTrue tight ↔ HasTight g p n → TellsTight g p x tight
settled g p x n true is number told = λ _. subst (HasTight g p) number (told.0 refl)
settled g p x n false is number told = (is, λ has. false≢true (told.1 (subst (HasTight g p) (sym number) has)))

abbrev pub the_judged : ℕ → List ℕ → List (List ℕ) → List NearLabel → Judged
the_judged w prices sets labels = record { terms = record { weight = w; prices = prices; sets = sets }; labels = labels }

-- labels judged by equal terms
pub judged_same : (w : ℕ) (prices others : List ℕ) (sets sets_too : List (List ℕ)) (labels labels_too : List NearLabel) → prices ≡ others → sets ≡ sets_too → labels ≡ labels_too
    → the_judged w prices sets labels ≡ the_judged w others sets_too labels_too
judged_same w prices others sets sets_too labels labels_too a b c = rw (a, b, c) refl
