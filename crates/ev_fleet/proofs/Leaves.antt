-- The leaf of the node that was taken, and the other leaves.
use Rattle.std.proofs.Common.{◌≡◌, ◌∙◌, ℕ, ◌≤◌, Bool, true, List, [], ◌∷◌, ◌++◌, Option, Some, refl, sym, subst}
use Rattle.std.proofs.lemmas.Bool.{false≢true}
use Rattle.std.proofs.lemmas.Option.{same_Some}
use Rattle.customer_sets.specs.Pairs.{forbid, require}
use Rattle.bound_certificate.specs.declared.certificate.Section.{Section}
use Rattle.branching.specs.Nodes.{node_at, HasNode, IsOpen, awaits}
use Rattle.branching.specs.SearchTree.{HasPairs, IsTreeUnder}
use Rattle.branching.specs.declared.node.Node.{Node}
use Rattle.branching.specs.declared.node.NodeState.{NodeState}
use Rattle.branching.specs.declared.node.NodeState.TheVariants.{Open, Taken, Closed}
use Rattle.ev_fleet.specs.Bounds.{IsAtMost}
use Rattle.ev_fleet.specs.Searched.{EachNode, SearchedTree, branches_of, fork, tip}
use Rattle.ev_fleet.specs.Standing.{IsSplitWell, on_the_way}
use Rattle.ev_fleet.specs.State.{IsLeafWell, IsNodeWell, IsOpenWell, IsStateWell}
use Rattle.ev_fleet.proofs.Bounds.{most_most}
use Rattle.ev_fleet.proofs.Sections.{greatest-more}

-- the pairs of the node that a leaf names are those of the leaf
abbrev pub HasKeyPairs : ℕ → List (Option Node) → (ℕ → ℕ → Bool) → SearchedTree → Type 0
HasKeyPairs n nodes allows (tip own key) = HasNode nodes key (λ node. HasPairs n allows node.pairs)
HasKeyPairs n nodes allows (fork own i j apart together) = Unit {0}

pub under_each : (n : ℕ) (nodes : List (Option Node)) (allows : ℕ → ℕ → Bool) (above : List ℕ) (t : SearchedTree) → IsTreeUnder n nodes allows (branches_of t)
    → EachNode (λ a b s. HasKeyPairs n nodes a s) allows above t
under_each n nodes allows above (tip own key) under = under
under_each n nodes allows above (fork own i j apart together) under = (
  tt,
  (
    under_each n nodes (forbid i j allows) (own ∷ above) apart under.1.0,
    under_each n nodes (require i j allows) (own ∷ above) together under.1.1,
  ),
)

pub splits_each : (n : ℕ) (nodes : List (Option Node)) (allows : ℕ → ℕ → Bool) (above : List ℕ) (t : SearchedTree) → IsTreeUnder n nodes allows (branches_of t)
    → EachNode (λ a b s. IsSplitWell n a s) allows above t
splits_each n nodes allows above (tip own key) under = tt
splits_each n nodes allows above (fork own i j apart together) under = (
  under.0,
  (
    splits_each n nodes (forbid i j allows) (own ∷ above) apart under.1.0,
    splits_each n nodes (require i j allows) (own ∷ above) together under.1.1,
  ),
)

-- what is said of an open node
pub opened : (sections : List Section) (cost : Option ℕ) (floor : ℕ) (above : List ℕ) (own : Option ℕ) (name bound : ℕ) (state : NodeState) → awaits state ≡ true
    → IsStateWell sections cost floor above own name bound state → IsOpenWell sections floor above own name bound
opened sections cost floor above own name bound Open waits well = well
opened sections cost floor above own name bound Taken waits well = absurd well
opened sections cost floor above own name bound Closed waits well = absurd (false≢true waits)

module _ (nodes : List (Option Node)) (sections : List Section) (cost : Option ℕ) (floor : ℕ) (key : ℕ) (node : Node) (here : node_at nodes key ≡ Some node) (waits : IsOpen node) where
  pub open_leaf : (above : List ℕ) (own : Option ℕ) → IsLeafWell nodes sections cost floor above (tip own key) → IsOpenWell sections floor above own node.section node.bound
  open_leaf above own well =
      let same : well.node ≡ node = same_Some well.node node (sym well.here ∙ here) in
      let is : IsNodeWell sections cost floor above own node = subst (IsNodeWell sections cost floor above own) same well.is in
      opened sections cost floor above own node.section node.bound node.state waits is

module _ (sections : List Section) (s : Section) (cost lower : Option ℕ) (floor high : ℕ) (cheaper : IsAtMost lower cost) (below : IsAtMost (Some high) cost) where
  -- a further section, a cheaper plan and a higher floor
  pub state-more : (above : List ℕ) (own : Option ℕ) (name bound : ℕ) (state : NodeState) → (awaits state ≡ true → high ≤ bound) → IsStateWell sections cost floor above own name bound state
      → IsStateWell (sections ++ s ∷ []) lower high above own name bound state
  state-more above own name bound Open least well = record {
    bare = well.bare;
    names = greatest-more sections s above name (Some bound) well.names;
    high = least refl;
  }
  state-more above own name bound Taken least well = well
  state-more above own name bound Closed least well = record {
    bound = well.bound;
    names = greatest-more sections s (on_the_way own above) name well.bound well.names;
    costly = most_most lower cost well.bound cheaper well.costly;
    high = most_most (Some high) cost well.bound below well.costly;
  }

  pub leaf-more : (nodes changed : List (Option Node)) (k : ℕ) → ((o : Node) → node_at nodes k ≡ Some o → node_at changed k ≡ Some o) → ((o : Node) → node_at nodes k ≡ Some o → IsOpen o → high ≤ o.bound)
      → (above : List ℕ) (own : Option ℕ) → IsLeafWell nodes sections cost floor above (tip own k) → IsLeafWell changed (sections ++ s ∷ []) lower high above (tip own k)
  leaf-more nodes changed k kept least above own well = record {
    node = well.node;
    here = kept well.node well.here;
    is = state-more above own well.node.section well.node.bound well.node.state (least well.node well.here) well.is;
  }
