-- A leaf under judgement, and what the tests of its labels tell.
use Rattle.std.specs.Prelude.{◌≡◌, ℕ, ◌+◌, ◌<◌, Bool, ◌&&◌, ◌||◌, Option, None, Some, MatchBool, ◌+ℤ◌, nat_eq, slice_get}
use Rattle.certificate_parts.specs.Ranges.{customer_count}
use Rattle.customer_sets.specs.CustSet.{has}
use Rattle.ev_model.specs.Network.{Network}
use Rattle.fleet_model.specs.Labels.{IsLevel}
use Rattle.fleet_model.specs.Prices.{price_of}
use Rattle.near_proof.specs.Terms.{near_set}
use Rattle.near_tree.specs.Closed.{AreClosedAt}
use Rattle.near_tree.specs.Follows.{entries_earned}
use Rattle.near_tree.specs.Lasts.{AreRows, IsMayRow, IsStandRow}
use Rattle.near_tree.specs.Links.{AreEntries}
use Rattle.near_tree.specs.Preorder.{last_of}
use Rattle.near_tree.specs.Rules.{at_bound, at_home, at_start, at_step, AtLabel, EarnsHome, IsSooner, Leaf, MissesState, MissesStep, Place}
use Rattle.near_tree.specs.Sections.{LeafLabel}
use Rattle.near_tree.specs.Sites.{IsSite, leaf_of}
use Rattle.near_tree.specs.Steps.{at_leaf_customer, at_leaf_station, IsLeafCustomerStep, IsLeafStationStep, leaf_at, leaf_start}
use Rattle.near_tree.specs.Targets.{IsStateCovered}
use Rattle.near_tree.specs.declared.coverage.Target.{Target}
use Rattle.near_tree.specs.declared.faults.LeafFault.{LeafFault}
use Rattle.near_tree.specs.declared.faults.LeafFault.TheVariants.{Home, Start, Step}
use Rattle.near_tree.specs.declared.judge.Judge.{Judge}
use Rattle.near_tree.specs.declared.proof.SectionLabel.{SectionLabel}

pub record IsJudge (j : Judge) : Type 0 where
  pub site : IsSite j.site
  pub may : AreRows (IsMayRow (customer_count j.site.inst.now) j.site.path.now)
      (customer_count j.site.inst.now + 2) j.may.now
  pub stands : AreRows (IsStandRow j.site.inst.now (leaf_of j.site))
      (customer_count j.site.inst.now + 2) j.stands.now
  pub entries : AreEntries j.site.section.now.labels j.entries.now

-- each state is covered to which a step from the label to the node leads
pub record AreStepsCovered (g : Network) (f : Leaf) (l : LeafLabel) (x : ℕ) : Type 0 where
  pub customer : (y : ℕ) → IsLevel l.label y → IsLeafCustomerStep g f.branch (leaf_at l y) x →
      IsStateCovered g f (at_leaf_customer g f.branch f.section (leaf_at l y) x)
  pub station : (y z : ℕ) → IsLevel l.label y → IsLeafStationStep g (leaf_at l y) x z →
      IsStateCovered g f (at_leaf_station g (leaf_at l y) x z)

abbrev pub TellsStep : Network → Leaf → LeafLabel → ℕ → Bool → Type 0
TellsStep g f l x covered = MatchBool covered (AreStepsCovered g f l x) (MissesStep g f l x)

-- the first node to which a step leads to a state that is not covered
abbrev pub TellsFirst : Network → Leaf → LeafLabel → Option ℕ → Type 0
TellsFirst g f l None = (x : ℕ) → AreStepsCovered g f l x
TellsFirst g f l (Some node) =
    MissesStep g f l node × ((x : ℕ) → x < node → MissesStep g f l x → ⊥)

-- whether a step home earns more than it takes
abbrev pub TellsHome : Network → Leaf → LeafLabel → Bool → Type 0
TellsHome g f l earns = MatchBool earns (EarnsHome g f l) (EarnsHome g f l → ⊥)

-- a rule of the labels of a leaf is broken, whatever the number of the leaf
abbrev pub IsFaultAt : Network → Leaf → Place → Type 0
IsFaultAt g f (at_start n) = MissesState g f (leaf_start g)
IsFaultAt g f (at_step n k x) = AtLabel k (λ l. MissesStep g f l x) f
IsFaultAt g f (at_home n k) = AtLabel k (λ l. EarnsHome g f l) f
IsFaultAt g f (at_bound n) = ⊥

-- the first such one
pub record IsFirstFault (g : Network) (f : Leaf) (at : Place) : Type 0 where
  pub broken : IsFaultAt g f at
  pub first : (other : Place) → IsSooner other at → IsFaultAt g f other → ⊥

-- where a fault is, of the leaf with a number
abbrev pub fault_place : ℕ → LeafFault → Place
fault_place n Start = at_start n
fault_place n (Step label node) = at_step n label node
fault_place n (Home label) = at_home n label

-- the labels are closed, or that is the first place where they are not
abbrev pub TellsFault : Network → Leaf → Option LeafFault → Type 0
TellsFault g f None = AreClosedAt g f.branch f.section
TellsFault g f (Some fault) = IsFirstFault g f (fault_place 0 fault)

-- the first step that is broken, by the label's number and the node
abbrev pub TellsBadStep : Network → Leaf → Option (ℕ × ℕ) → Type 0
TellsBadStep g f None =
    (n x : ℕ) (l : LeafLabel) → slice_get f.section.labels n ≡ Some l → AreStepsCovered g f l x
TellsBadStep g f (Some step) =
    IsFaultAt g f (at_step 0 step.0 step.1)
    × ((n x : ℕ) → n < step.0 → IsFaultAt g f (at_step 0 n x) → ⊥)
    × ((x : ℕ) → x < step.1 → IsFaultAt g f (at_step 0 step.0 x) → ⊥)

-- the first label whose step home is broken
abbrev pub TellsBadHome : Network → Leaf → Option ℕ → Type 0
TellsBadHome g f None = (n : ℕ) → IsFaultAt g f (at_home 0 n) → ⊥
TellsBadHome g f (Some label) =
    IsFaultAt g f (at_home 0 label) × ((n : ℕ) → n < label → IsFaultAt g f (at_home 0 n) → ⊥)

-- what is common to the states after a label's service of a customer at a node, by number
pub record IsServed (f : Leaf) (l : SectionLabel) (x c : ℕ) (to : Target) : Type 0 where
  pub node : to.node ≡ x
  pub last : to.last ≡ c + 1
  pub memory : (d : ℕ) → has to.memory d
      ≡ (nat_eq c d || (has l.memory d && has (near_set f.section.sets c) d))
  pub earned : to.earned ≡ (price_of f.section.prices c
      +ℤ entries_earned f.branch.counted f.section.entry_prices (last_of l.last) (c + 1))
      +ℤ l.earned
