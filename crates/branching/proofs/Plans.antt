-- What the pairs of nodes say of fleet plans and of sections.
use Rattle.std.proofs.Common.{◌≡◌, ℕ, ◌≤◌, Bool, true, List, [], ◌∷◌, inl, inr, sym, ap, subst, Option, Some, arith}
use Rattle.std.specs.Prelude.{get_or, slice_get}
use Rattle.customer_sets.specs.Pairs.{allows_of, forbid, require}
use Rattle.ev_model.specs.Network.{Network}
use Rattle.ev_model.specs.declared.Stop.{Stop}
use Rattle.fleet_model.specs.Pairs.{FleetKeepsPairs, KeepsPairs}
use Rattle.fleet_model.specs.Places.{customer_count, places_of}
use Rattle.fleet_model.specs.Section.{Section}
use Rattle.fleet_model.specs.Tree.{BranchTree, IsBranchTree, IsUnder, KeepsSomeLeaf, leaf, LeavesAreUnder, split}
use Rattle.branching.specs.Nodes.{HasNode, node_at}
use Rattle.branching.specs.SearchTree.{IsTreeUnder, section_in, sections_named}
use Rattle.branching.specs.declared.node.Node.{Node}

weaker : (allows new : ℕ → ℕ → Bool) (xs : List ℕ) → ((a b : ℕ) → allows a b ≡ true → new a b ≡ true) → KeepsPairs allows xs → KeepsPairs new xs
weaker allows new [] more keeps = tt
weaker allows new (x ∷ []) more keeps = tt
weaker allows new (x ∷ y ∷ ys) more keeps = (more x y keeps.0, weaker allows new (y ∷ ys) more keeps.1)

weaker_fleet : (g : Network) (allows new : ℕ → ℕ → Bool) (plans : List (List Stop)) → ((a b : ℕ) → allows a b ≡ true → new a b ≡ true) → FleetKeepsPairs g allows plans → FleetKeepsPairs g new plans
weaker_fleet g allows new plans more keeps = λ k d l. weaker allows new (places_of g (get_or plans k d)) more (keeps k d l)

pub keeps_node : (g : Network) (n : ℕ) (nodes : List (Option Node)) (allows : ℕ → ℕ → Bool) (t : BranchTree) (plans : List (List Stop)) → IsTreeUnder n nodes allows t → KeepsSomeLeaf g allows t plans
    → (key : ℕ) × HasNode nodes key (λ node. FleetKeepsPairs g (allows_of node.pairs) plans)
keeps_node g n nodes allows (leaf key) plans under keeps = (
  key,
  record {
    node = under.node;
    here = under.here;
    is = weaker_fleet g allows (allows_of under.node.pairs) plans under.is.more keeps;
  },
)
keeps_node g n nodes allows (split i j apart together) plans under keeps = elim keeps [
  | inl first ↦ keeps_node g n nodes (forbid i j allows) apart plans under.1.0 first
  | inr second ↦ keeps_node g n nodes (require i j allows) together plans under.1.1 second
]

pub is_branch : (g : Network) (n : ℕ) (nodes : List (Option Node)) (allows : ℕ → ℕ → Bool) (t : BranchTree) → n ≡ customer_count g → IsTreeUnder n nodes allows t → IsBranchTree g t
is_branch g n nodes allows (leaf key) all under = tt
is_branch g n nodes allows (split i j apart together) all under =
    let pair = under.0 in
    let first : i ≤ customer_count g = omega (arith, all, pair.first.1) in
    let second : j ≤ customer_count g = omega (arith, all, pair.second.1) in (
      pair.first.0,
      first,
      (pair.second.0, second),
      (is_branch g n nodes (forbid i j allows) apart all under.1.0, is_branch g n nodes (require i j allows) together all under.1.1),
    )

pub named_branch : (g : Network) (nodes : List (Option Node)) (t : BranchTree) → IsBranchTree g t → IsBranchTree g (sections_named nodes t)
named_branch g nodes (leaf key) is = tt
named_branch g nodes (split i j apart together) is =
    (is.0, is.1, is.2, (named_branch g nodes apart is.3.0, named_branch g nodes together is.3.1))

pub named_under : (n : ℕ) (nodes : List (Option Node)) (sections : List Section) (bound : Option ℕ) (allows : ℕ → ℕ → Bool) (t : BranchTree)
    → ((key : ℕ) (node : Node) → node_at nodes key ≡ Some node → (s : Section) × (slice_get sections node.section ≡ Some s) × IsUnder (allows_of node.pairs) s bound)
    → IsTreeUnder n nodes allows t → LeavesAreUnder sections bound allows (sections_named nodes t)
named_under n nodes sections bound allows (leaf key) holds under =
    let node = under.node in
    let has = holds key node under.here in
    let s = has.0 in
    let fits : IsUnder allows s bound = record { pairs = λ a b h. has.2.pairs a b (under.is.more a b h); bounded = has.2.bounded } in
    let names : section_in (node_at nodes key) ≡ node.section = ap section_in under.here in
    (s, subst (λ x. slice_get sections x ≡ Some s) (sym names) has.1, fits)
named_under n nodes sections bound allows (split i j apart together) holds under = (
  named_under n nodes sections bound (forbid i j allows) apart holds under.1.0,
  named_under n nodes sections bound (require i j allows) together holds under.1.1,
)
