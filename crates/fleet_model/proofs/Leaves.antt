-- The bound of a tree's leaves is true.
use Rattle.std.proofs.Common.{◌≡◌, ℕ, zero, suc, ◌*◌, ◌≤◌, Bool, arith, ap, subst, List, [], ◌∷◌, Option, Some, None, inl, inr}
use Rattle.std.specs.List.{All}
use Rattle.std.specs.Prelude.{slice_get}
use Rattle.std.proofs.lemmas.List.Elements.{All-head, All-tail}
use Rattle.customer_sets.specs.Pairs.{any_pair, forbid, require}
use Rattle.ev_model.specs.Fleet.{cost_of, IsFleetPlan}
use Rattle.ev_model.specs.Network.{IsNetwork, Network}
use Rattle.ev_model.specs.declared.Stop.{Stop}
use Rattle.fleet_model.specs.ClosedList.{IsClosed}
use Rattle.fleet_model.specs.Section.{IsSectionOf, Section}
use Rattle.fleet_model.specs.Tree.{BranchTree, IsBranchTree, KeepsSomeLeaf, leaf, LeavesAreUnder, split}
use Rattle.fleet_model.specs.Whole.{NoFractionIsFaster}
use Rattle.fleet_model.proofs.Splits.{keeps_any, keeps_some_leaf, weaker_pairs}
use Rattle.fleet_model.proofs.WholeFleets.{fraction_bound, fraction_none}

abbrev given : Section → Option Section → Section
given s None = s
given s (Some x) = x

named : (P : Section → Type 0) (sections : List Section) (n : ℕ) (s : Section) → All P sections → slice_get sections n ≡ Some s → P s
named P [] n s all is = absurd (grind (arith, is))
named P (x ∷ xs) zero s all is = subst P (ap (given s) is) (All-head P x xs all)
named P (x ∷ xs) (suc n) s all is = named P xs n s (All-tail P x xs all) is

leaves_bound : (g : Network) (sections : List Section) (t : BranchTree) (allows : ℕ → ℕ → Bool) (k bound : ℕ) (plans : List (List Stop)) → IsNetwork g → NoFractionIsFaster g
    → All (IsSectionOf g) sections → All (IsClosed g) sections → LeavesAreUnder sections (Some bound) allows t → IsFleetPlan g k plans → KeepsSomeLeaf g allows t plans → k * bound ≤ cost_of g k plans
leaves_bound g sections (leaf n) allows k bound plans network law of closed under fleet keeps =
    let s = under.0 in
    fraction_bound g s k plans bound network law (named (IsSectionOf g) sections n s of under.1) (named (IsClosed g) sections n s closed under.1) fleet
    (weaker_pairs g allows s.allows plans keeps under.2.pairs) under.2.bounded
leaves_bound g sections (split i j apart together) allows k bound plans network law of closed under fleet (inl keeps) =
    leaves_bound g sections apart (forbid i j allows) k bound plans network law of closed under.0 fleet keeps
leaves_bound g sections (split i j apart together) allows k bound plans network law of closed under fleet (inr keeps) =
    leaves_bound g sections together (require i j allows) k bound plans network law of closed under.1 fleet keeps

leaves_none : (g : Network) (sections : List Section) (t : BranchTree) (allows : ℕ → ℕ → Bool) (k : ℕ) (plans : List (List Stop)) → IsNetwork g → NoFractionIsFaster g
    → All (IsSectionOf g) sections → All (IsClosed g) sections → LeavesAreUnder sections None allows t → IsFleetPlan g k plans → KeepsSomeLeaf g allows t plans → ⊥
leaves_none g sections (leaf n) allows k plans network law of closed under fleet keeps =
    let s = under.0 in
    fraction_none g s k plans network law (named (IsSectionOf g) sections n s of under.1) (named (IsClosed g) sections n s closed under.1) fleet
    (weaker_pairs g allows s.allows plans keeps under.2.pairs) under.2.bounded
leaves_none g sections (split i j apart together) allows k plans network law of closed under fleet (inl keeps) =
    leaves_none g sections apart (forbid i j allows) k plans network law of closed under.0 fleet keeps
leaves_none g sections (split i j apart together) allows k plans network law of closed under fleet (inr keeps) =
    leaves_none g sections together (require i j allows) k plans network law of closed under.1 fleet keeps

pub tree_keeps : (g : Network) (t : BranchTree) (k : ℕ) (plans : List (List Stop)) → IsBranchTree g t → IsFleetPlan g k plans → KeepsSomeLeaf g any_pair t plans
tree_keeps g t k plans is fleet = keeps_some_leaf g k any_pair t plans fleet is (keeps_any g plans)

pub tree_bound : (g : Network) (sections : List Section) (t : BranchTree) (k bound : ℕ) (plans : List (List Stop)) → IsNetwork g → NoFractionIsFaster g
    → All (IsSectionOf g) sections → All (IsClosed g) sections → IsBranchTree g t → LeavesAreUnder sections (Some bound) any_pair t → IsFleetPlan g k plans → k * bound ≤ cost_of g k plans
tree_bound g sections t k bound plans network law of closed is under fleet = leaves_bound g sections t any_pair k bound plans network law of closed under fleet (tree_keeps g t k plans is fleet)

pub tree_none : (g : Network) (sections : List Section) (t : BranchTree) (k : ℕ) (plans : List (List Stop)) → IsNetwork g → NoFractionIsFaster g
    → All (IsSectionOf g) sections → All (IsClosed g) sections → IsBranchTree g t → LeavesAreUnder sections None any_pair t → IsFleetPlan g k plans → ⊥
tree_none g sections t k plans network law of closed is under fleet = leaves_none g sections t any_pair k plans network law of closed under fleet (tree_keeps g t k plans is fleet)
