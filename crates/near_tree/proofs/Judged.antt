-- What a judge finds at one node of a walk along a tree.
use Rattle.std.proofs.Common.{◌≡◌, ◌∙◌, ℕ, ◌+◌, ◌<◌, ◌≤◌, Bool, true, false, List, [], ◌∷◌, ◌++◌, Option, length, map, drop, sym, ap, subst, get_or}
use Rattle.std.specs.List.{All}
use Rattle.ev_model.specs.Network.{Network}
use Rattle.near_tree.specs.Branches.{Branch}
use Rattle.near_tree.specs.Paths.{branch_at, IsPath, IsTurnAt, open_behind, trees_at, turn_node, turned}
use Rattle.near_tree.specs.Preorder.{at_leaf, Node, node_of, section_of}
use Rattle.near_tree.specs.Ranges.{CountsFew, IsFitTree, LeafSectionFits, NodeFits, TreeFits}
use Rattle.near_tree.specs.Sites.{leaf_at}
use Rattle.near_tree.specs.Trees.{IsSectionAt, NearTree}
use Rattle.near_tree.specs.Verdicts.{IsVerdict, IsVerdictOn, next_unbounded, TellsLeaf, verdict_by, verdict_of}
use Rattle.near_tree.specs.Walks.{IsWalkedTo}
use Rattle.near_tree.specs.declared.check.LeafTold.TheVariants.{Closed, Fault}
use Rattle.near_tree.specs.declared.faults.LeafFault.{LeafFault}
use Rattle.near_tree.specs.declared.path.Turn.{Turn}
use Rattle.near_tree.specs.declared.proof.LeafSection.{LeafSection}
use Rattle.near_tree.specs.declared.proof.TreeNode.{TreeNode}
use Rattle.near_tree.specs.declared.proof.TreeNode.TheVariants as node
use Rattle.near_tree.specs.declared.proof.TreeProof.{TreeProof}
use Rattle.near_tree.specs.declared.verdict.TreeVerdict.{TreeVerdict}
use Rattle.near_tree.proofs.Paths.{path_more, trees_first}
use Rattle.near_tree.proofs.Walks.{fault_verdict, inner_turn, IsInner, leaf_few, leaf_section, no_left, no_trees, node_next, walk_down, walk_ends, walk_past}

-- walked to a node, whatever the tree
abbrev pub WalksTo : Network → Option ℕ → List TreeNode → List Turn → ℕ → ℕ → Option ℕ → Type 0
WalksTo g bound nodes path i number u = (t : NearTree) → IsFitTree g nodes t → IsWalkedTo g bound t (trees_at path) (map node_of (drop i nodes)) number u

-- the verdict that holds of each tree with the nodes
pub verdict_shown : (g : Network) (p : TreeProof) (nodes : List TreeNode) (v : TreeVerdict) → nodes ≡ p.nodes → TreeFits g p → ((t : NearTree) → IsFitTree g nodes t → IsVerdictOn g p.bound t v) → IsVerdict g p v
verdict_shown g p nodes v same fits each =
    let t = fits.tree.0 in
    (t, fits.tree.1.nodes_are, each t (subst (λ (ns : List TreeNode). IsFitTree g ns t) (sym same) fits.tree.1))

module _ (g : Network) (bound : Option ℕ) (nodes : List TreeNode) (path : List Turn) (i number : ℕ) (u : Option ℕ) (before : WalksTo g bound nodes path i number u) where
  -- past the last node
  pub verdict_end : length nodes ≤ i → (t : NearTree) → IsFitTree g nodes t → IsVerdictOn g bound t (verdict_of u)
  verdict_end past t fit = walk_ends g bound t (trees_at path) (map node_of (drop i nodes)) number u (no_left (trees_at path) nodes i past) (before t fit)

  module _ (n : TreeNode) (less : i < length nodes) (is : n ≡ get_or nodes i n) where
    -- with that node in front
    here : (t : NearTree) → IsFitTree g nodes t → IsWalkedTo g bound t (trees_at path) (node_of n ∷ map node_of (drop (i + 1) nodes)) number u
    here t fit = subst (λ (ns : List Node). IsWalkedTo g bound t (trees_at path) ns number u) (node_next nodes i n less is) (before t fit)

    module _ (inner : IsInner (node_of n)) (t : Turn) (more : List Turn) (made : more ≡ path ++ t ∷ []) (same : turn_node t ≡ node_of n) where
      pub path_down : (s : NearTree) → IsFitTree g nodes s → IsPath g path → IsPath g more
      path_down s fit valid =
          let turn : IsTurnAt g (branch_at path) (node_of n) = inner_turn g bound s (branch_at path) (open_behind path) (node_of n) (map node_of (drop (i + 1) nodes)) number u (here s fit) inner in
          path_more g path more t made valid (subst (λ (m : Node). IsTurnAt g (branch_at path) m) (sym same) turn)

      pub walked_down : t.second ≡ false → WalksTo g bound nodes more (i + 1) number u
      walked_down first s fit =
          let down = walk_down g bound s (branch_at path) (open_behind path) (node_of n) (map node_of (drop (i + 1) nodes)) number u (here s fit) inner in
          let trees : trees_at more ≡ turned (node_of n) false (branch_at path) ∷ turned (node_of n) true (branch_at path) ∷ open_behind path =
          trees_first path more t made first ∙ ap (λ (m : Node). turned m false (branch_at path) ∷ turned m true (branch_at path) ∷ open_behind path) same in
          subst (λ (bs : List Branch). IsWalkedTo g bound s bs (map node_of (drop (i + 1) nodes)) number u) (sym trees) down

    module _ (section : LeafSection) (leaf_is : n ≡ node.Leaf section) where
      at_end : (t : NearTree) → IsFitTree g nodes t → IsWalkedTo g bound t (trees_at path) (at_leaf (section_of section) ∷ map node_of (drop (i + 1) nodes)) number u
      at_end t fit = subst (λ (m : TreeNode). IsWalkedTo g bound t (trees_at path) (node_of m ∷ map node_of (drop (i + 1) nodes)) number u) leaf_is (here t fit)

      pub section_fits : All (NodeFits g) nodes → LeafSectionFits g section
      section_fits all = subst (λ (m : TreeNode). NodeFits g m) (sym is ∙ leaf_is) (all i n less)

      pub section_at : (t : NearTree) → IsFitTree g nodes t → IsSectionAt g (branch_at path) (section_of section)
      section_at t fit = leaf_section g bound t (branch_at path) (open_behind path) (section_of section) (map node_of (drop (i + 1) nodes)) number u (at_end t fit)

      pub section_few : (t : NearTree) → IsFitTree g nodes t → CountsFew (branch_at path) (section_of section)
      section_few t fit = leaf_few g bound t (branch_at path) (open_behind path) (section_of section) (map node_of (drop (i + 1) nodes)) number u (at_end t fit)

      pub fault_told : (x : LeafFault) → TellsLeaf g bound (leaf_at path section) (Fault x) → (t : NearTree) → IsFitTree g nodes t → IsVerdictOn g bound t (verdict_by number x)
      fault_told x told t fit = fault_verdict g bound t (branch_at path) (open_behind path) (section_of section) (map node_of (drop (i + 1) nodes)) number u (at_end t fit) x told

      module _ (bounded : Bool) (told : TellsLeaf g bound (leaf_at path section) (Closed bounded)) (more : ℕ) (next : more ≡ number + 1) where
        past_leaf : (t : NearTree) → IsFitTree g nodes t → IsWalkedTo g bound t (open_behind path) (map node_of (drop (i + 1) nodes)) more (next_unbounded u number bounded)
        past_leaf t fit = walk_past g bound t (branch_at path) (open_behind path) (section_of section) (map node_of (drop (i + 1) nodes)) number u (at_end t fit) bounded more next told.0 told.1

        pub walked_on : (on : List Turn) → open_behind path ≡ trees_at on → WalksTo g bound nodes on (i + 1) more (next_unbounded u number bounded)
        walked_on on goes t fit = subst (λ (bs : List Branch). IsWalkedTo g bound t bs (map node_of (drop (i + 1) nodes)) more (next_unbounded u number bounded)) goes (past_leaf t fit)

        pub verdict_last : open_behind path ≡ [] → (t : NearTree) → IsFitTree g nodes t → IsVerdictOn g bound t (verdict_of (next_unbounded u number bounded))
        verdict_last none t fit = walk_ends g bound t (open_behind path) (map node_of (drop (i + 1) nodes)) more (next_unbounded u number bounded) (no_trees (open_behind path) (map node_of (drop (i + 1) nodes)) none) (past_leaf t fit)
