-- Where labels are not closed under the steps of near routes, and which such place is the first.
use Rattle.std.specs.Prelude.{◌≡◌, List, Option, None, Some, slice_get}
use Rattle.ev_model.specs.Network.{Network}
use Rattle.near_proof.specs.Broken.{at_bound, at_home, at_start, at_step, at_tight, ComesBefore, EarnsHome, MissesStep, Place}
use Rattle.near_proof.specs.Closed.{AreClosed}
use Rattle.near_proof.specs.Covered.{IsNearCovered}
use Rattle.near_proof.specs.States.{near_start}
use Rattle.near_proof.specs.Terms.{Terms}
use Rattle.near_proof.specs.declared.proof.NearLabel.{NearLabel}
use Rattle.near_proof.specs.declared.faults.NearLabelFault.{NearLabelFault}
use Rattle.near_proof.specs.declared.faults.NearLabelFault.TheVariants.{End, Start, Step}
use Rattle.near_proof.specs.declared.faults.NearTerms.{NearTerms}

-- labels, and what near routes are judged by
pub record Judged : Type 0 where
  pub terms : Terms
  pub labels : List NearLabel

abbrev pub terms_in : NearTerms → Terms
terms_in t = record { weight = t.weight; prices = t.prices.now; sets = t.sets.now }

-- the labels are not closed, by the start, by a step of one of them to a node, or by its step home;
-- labels are told by their numbers in the list
abbrev pub IsFault : Network → Judged → Place → Type 0
IsFault g j at_start = IsNearCovered j.terms.weight j.labels (near_start g) → ⊥
IsFault g j (at_step n x) =
    (l : NearLabel) × (slice_get j.labels n ≡ Some l) × MissesStep g j.terms j.labels l x
IsFault g j (at_home n) =
    (l : NearLabel) × (slice_get j.labels n ≡ Some l) × EarnsHome g j.terms.weight l
IsFault g j at_bound = ⊥
IsFault g j (at_tight x) = ⊥

-- the first such place: the start, then steps, then steps home, least label and then least node
-- first
pub record IsFirstFault (g : Network) (j : Judged) (at : Place) : Type 0 where
  pub broken : IsFault g j at
  pub first : (other : Place) → ComesBefore other at → IsFault g j other → ⊥

-- that labels are closed, or the first place where they are not
abbrev pub TellsFault : Network → Judged → Option NearLabelFault → Type 0
TellsFault g j None = AreClosed g j.terms j.labels
TellsFault g j (Some Start) = IsFirstFault g j at_start
TellsFault g j (Some (Step label node)) = IsFirstFault g j (at_step label node)
TellsFault g j (Some (End label)) = IsFirstFault g j (at_home label)
