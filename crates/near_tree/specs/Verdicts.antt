-- The verdict on a tree: that it is accepted, or the first rule that it breaks.
use Rattle.std.specs.Prelude.{ℕ, Bool, true, false, Option, None, Some, MatchBool}
use Rattle.ev_model.specs.Network.{Network}
use Rattle.near_tree.specs.Bounds.{IsAccepted, IsBounded}
use Rattle.near_tree.specs.Closed.{AreClosedAt}
use Rattle.near_tree.specs.Judging.{fault_place, IsFirstFault}
use Rattle.near_tree.specs.Preorder.{IsTreeOf}
use Rattle.near_tree.specs.Rules.{at_bound, at_home, at_start, at_step, IsFirstBroken, Leaf}
use Rattle.near_tree.specs.Trees.{NearTree}
use Rattle.near_tree.specs.declared.check.LeafTold.{LeafTold}
use Rattle.near_tree.specs.declared.check.LeafTold.TheVariants.{Closed, Fault}
use Rattle.near_tree.specs.declared.faults.LeafFault.{LeafFault}
use Rattle.near_tree.specs.declared.faults.LeafFault.TheVariants as fault
use Rattle.near_tree.specs.declared.proof.TreeProof.{TreeProof}
use Rattle.near_tree.specs.declared.verdict.TreeVerdict.{TreeVerdict}
use Rattle.near_tree.specs.declared.verdict.TreeVerdict.TheVariants.{Accepted, Bound, Home, Start, Step}

-- of a tree with a bound
abbrev pub IsVerdictOn : Network → Option ℕ → NearTree → TreeVerdict → Type 0
IsVerdictOn g bound t Accepted = IsAccepted g bound t
IsVerdictOn g bound t (Start leaf) = IsFirstBroken g bound t (at_start leaf)
IsVerdictOn g bound t (Step leaf label node) = IsFirstBroken g bound t (at_step leaf label node)
IsVerdictOn g bound t (Home leaf label) = IsFirstBroken g bound t (at_home leaf label)
IsVerdictOn g bound t (Bound leaf) = IsFirstBroken g bound t (at_bound leaf)

-- of the tree whose nodes they are
abbrev pub IsVerdict : Network → TreeProof → TreeVerdict → Type 0
IsVerdict g p v = (t : NearTree) × IsTreeOf p.nodes t × IsVerdictOn g p.bound t v

abbrev pub IsLeafBounded : Option ℕ → Leaf → Type 0
IsLeafBounded bound f = IsBounded bound f.branch f.section

abbrev pub IsLeafClosed : Network → Leaf → Type 0
IsLeafClosed g f = AreClosedAt g f.branch f.section

-- what a leaf is found to be
abbrev pub TellsLeaf : Network → Option ℕ → Leaf → LeafTold → Type 0
TellsLeaf g bound f (Fault fault) = IsFirstFault g f (fault_place 0 fault)
TellsLeaf g bound f (Closed bounded) =
    IsLeafClosed g f × MatchBool bounded (IsLeafBounded bound f) (IsLeafBounded bound f → ⊥)

-- the verdict where the labels of a leaf are not closed, and where all are
abbrev pub verdict_by : ℕ → LeafFault → TreeVerdict
verdict_by leaf fault.Start = Start leaf
verdict_by leaf (fault.Step label node) = Step leaf label node
verdict_by leaf (fault.Home label) = Home leaf label

abbrev pub verdict_of : Option ℕ → TreeVerdict
verdict_of None = Accepted
verdict_of (Some leaf) = Bound leaf

-- the first leaf that isn't bounded, with one more
abbrev pub next_unbounded : Option ℕ → ℕ → Bool → Option ℕ
next_unbounded (Some other) leaf bounded = Some other
next_unbounded None leaf true = None
next_unbounded None leaf false = Some leaf
