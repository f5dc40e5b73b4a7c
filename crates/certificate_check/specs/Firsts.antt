-- The first item of a list that breaks a rule, and the verdict that tells it.
use Rattle.std.specs.Prelude.{◌≡◌, ◌⊎◌, ℕ, ◌<◌, Bool, List, [], ◌∷◌, Option, None, Some, slice_get}
use Rattle.customer_sets.specs.Pairs.{forbid, require}
use Rattle.ev_model.specs.Network.{Network}
use Rattle.fleet_model.specs.ClosedListRules.{at_home, at_start, at_step, ClosedFault, IsFirstFault}
use Rattle.fleet_model.specs.Section.{Section}
use Rattle.fleet_model.specs.Tree.{IsBoundedBy, IsUnder}
use Rattle.bound_certificate.specs.declared.certificate.TreeLine.{TreeLine}
use Rattle.bound_certificate.specs.declared.certificate.TreeLine.TheVariants.{Leaf, Split}
use Rattle.closed_lists.specs.declared.fault.ClosedFault.{ClosedFault as SectionFault}
use Rattle.closed_lists.specs.declared.fault.ClosedFault.TheVariants as fault
use Rattle.certificate_check.specs.Leaves.{TreeLeaf}
use Rattle.certificate_check.specs.Rules.{AllowsEach, at_bound, at_pairs, at_root, CertificateFault, in_section}
use Rattle.certificate_check.specs.declared.verdict.Verdict.{Verdict}
use Rattle.certificate_check.specs.declared.verdict.Verdict.TheVariants.{Accepted, Bound, End, Pairs, Root, Start, Step}

-- each item holds
abbrev pub AllHold : {X : Type 0} → (X → Type 0) → List X → Type 0
AllHold {X} holds xs = (n : ℕ) (x : X) → slice_get xs n ≡ Some x → holds x

-- the first item that doesn't hold breaks a rule, which the verdict tells together with the item's number
pub record IsFirst {X : Type 0} (holds : X → Type 0) (breaks : ℕ → X → Verdict → Type 0)
    (xs : List X) (v : Verdict) : Type 0 where
  pub number : ℕ
  pub item : X
  pub there : slice_get xs number ≡ Some item
  pub broken : breaks number item v
  pub before : (m : ℕ) (y : X) → m < number → slice_get xs m ≡ Some y → holds y

-- none breaks a rule, or the verdict tells the first
abbrev pub TellsFirst : {X : Type 0} → (X → Type 0) → (ℕ → X → Verdict → Type 0) → List X →
    Option Verdict → Type 0
TellsFirst holds breaks xs None = AllHold holds xs
TellsFirst holds breaks xs (Some v) = IsFirst holds breaks xs v

-- an item holds, or the verdict tells the rule that it breaks
abbrev pub Tells : {X : Type 0} → (X → Type 0) → (ℕ → X → Verdict → Type 0) → ℕ → X →
    Option Verdict → Type 0
Tells holds breaks n x None = holds x
Tells holds breaks n x (Some v) = breaks n x v

-- the verdict names the fault
abbrev pub Names : Verdict → CertificateFault → Type 0
Names Accepted f = ⊥
Names (Start section) f = f ≡ in_section section at_start
Names (Step section label node) f = f ≡ in_section section (at_step label node)
Names (End section label) f = f ≡ in_section section (at_home label)
Names (Pairs leaf) f = f ≡ at_pairs leaf
Names (Bound leaf) f = f ≡ at_bound leaf
Names Root f = f ≡ at_root

-- the verdict tells the first broken rule of a closed list, in the section with a number
abbrev pub IsSectionFault : Network → ℕ → Section → Verdict → Type 0
IsSectionFault g n s v =
    (f : ClosedFault) × Names v (in_section n f) × IsFirstFault g s f

-- the verdict that a fault of the labels of a section with a number is told as
abbrev pub ToldAs : ℕ → SectionFault → Verdict → Type 0
ToldAs n fault.Start v = v ≡ Start n
ToldAs n (fault.Step label node) v = v ≡ Step n label node
ToldAs n (fault.End label) v = v ≡ End n label
ToldAs n fault.Memory v = ⊥

-- the section holds where these pairs are allowed
abbrev pub HoldsUnder : Option ℕ → Section → (ℕ → ℕ → Bool) → Type 0
HoldsUnder bound s allows = IsUnder allows s bound

-- the verdict tells that the section forbids one of the allowed pairs, or else that its bound is too low
abbrev pub IsBrokenUnder : Option ℕ → Section → ℕ → (ℕ → ℕ → Bool) → Verdict → Type 0
IsBrokenUnder bound s n allows v =
    (Names v (at_pairs n) × (AllowsEach allows s → ⊥))
    ⊎ (Names v (at_bound n) × AllowsEach allows s × (IsBoundedBy s bound → ⊥))

-- a leaf names a section that holds under it
abbrev pub LeafHolds : List Section → Option ℕ → TreeLeaf → Type 0
LeafHolds sections bound l =
    (s : Section) × (slice_get sections l.section ≡ Some s) × HoldsUnder bound s l.allows

-- it names one that doesn't
abbrev pub IsLeafFault : List Section → Option ℕ → ℕ → TreeLeaf → Verdict → Type 0
IsLeafFault sections bound n l v =
    (s : Section) × (slice_get sections l.section ≡ Some s) × IsBrokenUnder bound s n l.allows v

-- the leaves of trees whose lines stand one behind another: by the pairs that are allowed at the root of each
abbrev pub leaves_along : List (ℕ → ℕ → Bool) → List TreeLine → List TreeLeaf
leaves_along [] lines = []
leaves_along (allows ∷ open_trees) [] = []
leaves_along (allows ∷ open_trees) (Leaf n ∷ lines) =
    record { section = n; allows = allows } ∷ leaves_along open_trees lines
leaves_along (allows ∷ open_trees) (Split i j ∷ lines) =
    leaves_along (forbid i j allows ∷ require i j allows ∷ open_trees) lines
