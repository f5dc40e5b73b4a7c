-- The tree is sound after a node is written and after one is split.
use Rattle.std.proofs.Common.{◌≡◌, ◌≢◌, ◌∙◌, ℕ, ◌+◌, false, List, inl, inr, refl, sym, ap, subst, arith, Option, Some, None, is_some}
use Rattle.std.specs.Prelude.{cond, nat_eq}
use Rattle.std.specs.List.{All, flat_map}
use Rattle.std.proofs.lemmas.Bool.{cases_Bool, cases_eq, eq-eqb, ne_eqb}
use Rattle.customer_sets.specs.Pairs.{allows_of, any_pair, IsPairs}
use Rattle.fleet_model.specs.Tree.{BranchTree}
use Rattle.branching.specs.Nodes.{node_at}
use Rattle.branching.specs.SearchTree.{AreChildren, grown, IsBranchPair, IsSearchTree, leaves_with, SearchTree, with_node}
use Rattle.branching.specs.Shape.{key_lines, NamesNode, split_line, stands, tree_of}
use Rattle.branching.specs.declared.node.Node.{Node}
use Rattle.branching.specs.declared.shape.Line.{Line}
use Rattle.branching.proofs.Children.{children_split, named_customers}
use Rattle.branching.proofs.Elements.{node_kept, node_set}
use Rattle.branching.proofs.Keys.{leaves-grown}
use Rattle.branching.proofs.Places.{names_all, stands-lines}
use Rattle.branching.proofs.Shapes.{key_lines-grown, tree_of-lines}
use Rattle.branching.proofs.Under.{under_grown, under_set}

-- one where there is a node of the key
abbrev one_at : List (Option Node) → ℕ → ℕ
one_at nodes key = cond (is_some (node_at nodes key)) 1 0

some_at : (nodes : List (Option Node)) (key : ℕ) (node : Node) → node_at nodes key ≡ Some node → one_at nodes key ≡ 1
some_at nodes key node here = rw here refl

none_at : (nodes : List (Option Node)) (key : ℕ) → node_at nodes key ≡ None → one_at nodes key ≡ 0
none_at nodes key here = rw here refl

pub one_leaf : (t : SearchTree) (key : ℕ) (node : Node) → IsSearchTree t → node_at t.nodes key ≡ Some node → leaves_with key t.tree ≡ 1
one_leaf t key node is here = is.leaves key ∙ some_at t.nodes key node here

pub node_customers : (t : SearchTree) (key : ℕ) (node : Node) → IsSearchTree t → node_at t.nodes key ≡ Some node → node.pairs.customers ≡ t.customers
node_customers t key node is here =
    let one = one_leaf t key node is here in
    let has = named_customers t.customers t.nodes key any_pair t.tree (omega (arith, one)) is.under in
    let same : has.node ≡ node = grind (arith, has.here, here) in
    subst (λ (m : Node). m.pairs.customers ≡ t.customers) same has.is

pub sound-set : (t : SearchTree) (key : ℕ) (old new : Node) → IsSearchTree t → node_at t.nodes key ≡ Some old → new.pairs ≡ old.pairs → IsSearchTree (with_node t key new)
sound-set t key old new is here same =
    let changed = (with_node t key new).nodes in
    let there : node_at changed key ≡ Some new = node_set t.nodes key old new here in
    let others : (k : ℕ) → k ≢ key → node_at changed k ≡ node_at t.nodes k = λ k apart. node_kept t.nodes key k new apart in
    record {
      few = is.few;
      under = under_set t.customers t.nodes changed key old new here there others same any_pair t.tree is.under;
      leaves = λ k. elim (cases_eq k key) [
        | inl at ↦
            let was : one_at t.nodes k ≡ 1 = subst (λ x. one_at t.nodes x ≡ 1) (sym at) (some_at t.nodes key old here) in
            let now : one_at changed k ≡ 1 = subst (λ x. one_at changed x ≡ 1) (sym at) (some_at changed key new there) in
            is.leaves k ∙ was ∙ sym now
        | inr apart ↦ is.leaves k ∙ ap (λ o. cond (is_some o) 1 0) (sym (others k apart))
      ];
    }

module _ (t : SearchTree) (changed : List (Option Node)) (key other i j section bound : ℕ) (node one two : Node) (is : IsSearchTree t)
    (here : node_at t.nodes key ≡ Some node) (free : node_at t.nodes other ≡ None) (first : node_at changed key ≡ Some one) (second : node_at changed other ≡ Some two)
    (others : (k : ℕ) → k ≢ key → k ≢ other → node_at changed k ≡ node_at t.nodes k) where
  one_more : (k : ℕ) → one_at t.nodes k + cond (nat_eq other k) 1 0 ≡ one_at changed k
  one_more k = elim (cases_eq k other) [
    | inl at ↦
        let was : one_at t.nodes k ≡ 0 = subst (λ x. one_at t.nodes x ≡ 0) (sym at) (none_at t.nodes other free) in
        let now : one_at changed k ≡ 1 = subst (λ x. one_at changed x ≡ 1) (sym at) (some_at changed other two second) in
        rw (was, now, eq-eqb other k (sym at)) refl
    | inr fresh ↦
        let test : nat_eq other k ≡ false = ne_eqb other k (λ e. fresh (sym e)) in
        elim (cases_eq k key) [
          | inl at ↦
              let was : one_at t.nodes k ≡ 1 = subst (λ x. one_at t.nodes x ≡ 1) (sym at) (some_at t.nodes key node here) in
              let now : one_at changed k ≡ 1 = subst (λ x. one_at changed x ≡ 1) (sym at) (some_at changed key one first) in
              rw (was, now, test) refl
          | inr apart ↦
              let same : one_at changed k ≡ one_at t.nodes k = ap (λ o. cond (is_some o) 1 0) (others k apart fresh) in
              rw test (omega (arith, same))
        ]
  ]

  -- the tree with two children in place of a node
  pub sound-split : AreChildren node i j section bound one two → IsPairs two.pairs → IsBranchPair t.customers (allows_of node.pairs) i j
      → IsSearchTree (record { customers = t.customers; nodes = changed; tree = grown key i j other t.tree })
  sound-split are ok pair = record {
    few = is.few;
    under = under_grown t.customers t.nodes changed key other i j node one two here free first second others (children_split t.customers i j section bound node one two are ok pair)
        any_pair t.tree is.under;
    leaves = λ k.
        let count = leaves-grown key i j other k t.tree in
        let own = one_leaf t key node is here in
        let sum : leaves_with k t.tree + cond (nat_eq other k) (leaves_with key t.tree) 0 ≡ one_at t.nodes k + cond (nat_eq other k) 1 0 = rw (is.leaves k, own) refl in
        count ∙ sum ∙ one_more k;
  }

-- the lines of the tree with two children in place of a node
pub lines-split : (t : BranchTree) (shape : List Line) (key i j other : ℕ) → shape ≡ key_lines t → flat_map (split_line key i j other) shape ≡ key_lines (grown key i j other t)
lines-split t shape key i j other is = ap (λ ls. flat_map (split_line key i j other) ls) is ∙ sym (key_lines-grown key i j other t)

pub tree-split : (t : BranchTree) (shape : List Line) (key i j other : ℕ) → shape ≡ key_lines t → tree_of (flat_map (split_line key i j other) shape) ≡ grown key i j other t
tree-split t shape key i j other is = ap tree_of (lines-split t shape key i j other is) ∙ tree_of-lines (grown key i j other t)

pub names_nodes : (t : SearchTree) (shape : List Line) → IsSearchTree t → shape ≡ key_lines t.tree → All (NamesNode t.nodes) shape
names_nodes t shape is lines = names_all t.nodes shape (λ key some.
    let counted : stands key shape ≡ one_at t.nodes key = ap (stands key) lines ∙ stands-lines key t.tree ∙ is.leaves key in
    elim (cases_Bool (is_some (node_at t.nodes key))) [
      | inl there ↦ there
      | inr none ↦
          let zero : one_at t.nodes key ≡ 0 = rw none refl in
          absurd (omega (arith, some, counted, zero))
    ])

pub stands_once : (t : SearchTree) (shape : List Line) (key : ℕ) (node : Node) → IsSearchTree t → shape ≡ key_lines t.tree → node_at t.nodes key ≡ Some node → stands key shape ≡ 1
stands_once t shape key node is lines here = ap (stands key) lines ∙ stands-lines key t.tree ∙ one_leaf t key node is here
