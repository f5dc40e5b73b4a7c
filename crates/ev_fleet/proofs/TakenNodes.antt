-- A node that was taken, and whose section was found, is closed or split: what holds of the search afterwards.
use Rattle.std.proofs.Common.{◌≡◌, ◌∙◌, ℕ, ◌+◌, ◌*◌, ◌<◌, ◌≤◌, Bool, false, List, [], ◌∷◌, ◌++◌, Option, Some, None, inl, inr, refl, sym, ap, subst, arith, length, add-zero}
use Rattle.std.specs.Prelude.{◌≢◌, cond, is_some, nat_eq, nat_lt}
use Rattle.std.proofs.lemmas.Bool.{cases_lt, eqb-true, lt-ltb, ne_eqb}
use Rattle.std.proofs.lemmas.Option.{same_Some}
use Rattle.customer_sets.specs.Pairs.{any_pair}
use Rattle.bound_certificate.specs.Meaning.{priced_section}
use Rattle.bound_certificate.specs.declared.certificate.Section.{Section}
use Rattle.branching.specs.Nodes.{node_at, HasNode, IsOpen}
use Rattle.branching.specs.SearchTree.{HasPairs, IsSearchTree, IsTreeUnder, SearchTree, grown, leaves_with}
use Rattle.branching.specs.declared.node.Node.{Node}
use Rattle.branching.specs.declared.node.NodeState.TheVariants.{Open, Closed}
use Rattle.ev_fleet.specs.Bounds.{HasBound, IsAtMost, IsBoundOf, IsNotAbove}
use Rattle.ev_fleet.specs.Searched.{EachNode, SearchedTree, branches_of, fork, own_of, times_at, times_own, tip}
use Rattle.ev_fleet.specs.Standing.{HasOwnPairs, IsReached}
use Rattle.ev_fleet.specs.State.{IsClosedWell, IsGreatestAt, IsLeafWell, IsNodeWell, IsOpenWell, IsSearchAt, IsStateWell, greater_of, placed}
use Rattle.ev_fleet.proofs.Bounds.{most_same, some_most}
use Rattle.ev_fleet.proofs.Leaves.{HasKeyPairs, leaf-more, open_leaf, under_each}
use Rattle.ev_fleet.proofs.Nodes.{each_both, each_map, each_placed, leaf_of}
use Rattle.ev_fleet.proofs.TreeReplacements.{IsBare, branches-grown, branches-kept, own-placed, times-placed}
use Rattle.ev_fleet.proofs.Sections.{greater_is_above, greatest-pushed, not_above-more, pairs-more, reached-more, section-pushed}
use Rattle.std.proofs.lemmas.List.{length_push}
use Rattle.std.proofs.lemmas.List.Elements.{All-head}

counted : (number n : ℕ) → cond (nat_lt number n) 1 0 + 1 * cond (nat_eq n number) 1 0 ≡ cond (nat_lt number (n + 1)) 1 0
counted number n = elim (cases_lt number n) [
  | inl less ↦
      let one = lt-ltb number n less in
      let two = lt-ltb number (n + 1) (omega (arith, less)) in
      let three : nat_eq n number ≡ false = ne_eqb n number (λ e. omega (arith, e, less)) in
      rw (one, two, three) refl
  | inr le ↦ grind (arith, le)
]

-- the node of a key was open, and has the least bound of all open ones, which is not above the cost; and a section was found for it
module _ (n : ℕ) (tree : SearchTree) (sections : List Section) (cost lower : Option ℕ) (floor : ℕ) (t : SearchedTree)
    (sound : IsSearchTree tree) (among : tree.customers ≡ n) (is : IsSearchAt n tree sections cost floor t)
    (key : ℕ) (node : Node) (here : node_at tree.nodes key ≡ Some node) (waits : IsOpen node)
    (least : (k : ℕ) (o : Node) → node_at tree.nodes k ≡ Some o → IsOpen o → node.bound ≤ o.bound)
    (cheaper : IsAtMost lower cost) (below : IsAtMost (Some node.bound) cost)
    (s : Section) (pairs : s.pairs ≡ node.pairs) (own : Option ℕ) (bounds : IsBoundOf (priced_section s) own) where
  abbrev pub more : List Section
  more = sections ++ s ∷ []

  abbrev pub number : ℕ
  number = length sections

  leaf_here : (above : List ℕ) (o : Option ℕ) → IsLeafWell tree.nodes sections cost floor above (tip o key) → IsOpenWell sections floor above o node.section node.bound
  leaf_here = open_leaf tree.nodes sections cost floor key node here waits

  bare_leaf : (allows : ℕ → ℕ → Bool) (above : List ℕ) (x : SearchedTree) → IsLeafWell tree.nodes sections cost floor above x → IsBare key x
  bare_leaf allows above (tip o k) well = λ hit.
      let same : k ≡ key = eqb-true k key hit in
      (leaf_here above o (subst (λ y. IsLeafWell tree.nodes sections cost floor above (tip o y)) same well)).bare
  bare_leaf allows above (fork o i j apart together) well = tt

  bare : EachNode (λ a b x. IsBare key x) any_pair [] t
  bare = each_map (λ a b x. IsLeafWell tree.nodes sections cost floor b x) (λ a b x. IsBare key x) bare_leaf any_pair [] t is.leaves

  one_leaf : leaves_with key (branches_of t) ≡ 1
  one_leaf =
      ap (λ b. leaves_with key b) is.keys ∙ sound.leaves key ∙ ap (λ o. cond (is_some o) 1 0) here

  key_pairs : EachNode (λ a b x. HasKeyPairs n tree.nodes a x) any_pair [] t
  key_pairs =
      let own_tree : IsTreeUnder tree.customers tree.nodes any_pair (branches_of t) = subst (λ b. IsTreeUnder tree.customers tree.nodes any_pair b) (sym is.keys) sound.under in
      let all : IsTreeUnder n tree.nodes any_pair (branches_of t) = subst (λ m. IsTreeUnder m tree.nodes any_pair (branches_of t)) among own_tree in
      under_each n tree.nodes any_pair [] t all

  -- the section that was found stands below one whose bound is at most that of the node
  reaches : (above : List ℕ) → IsOpenWell sections floor above None node.section node.bound → IsReached more (Some node.bound) above (Some number)
  reaches [] open_ = tt
  reaches (parent ∷ above) open_ =
      let not_above : IsNotAbove sections (Some node.bound) parent = All-head (IsNotAbove sections (Some node.bound)) parent above open_.names.greatest in
      let raised = not_above-more sections s (Some node.bound) (Some node.bound) parent (most_same (Some node.bound)) not_above in
      let number_is = some_most raised.0 node.bound raised.2 in
      (number_is.0, subst (λ b. HasBound more parent b) number_is.1 raised.1, raised)

  raised : floor ≤ node.bound
  raised =
      let some : 0 < leaves_with key (branches_of t) = omega (arith, one_leaf) in
      let found = leaf_of (λ a b x. IsLeafWell tree.nodes sections cost floor b x) key any_pair [] t some is.leaves in
      (leaf_here found.1 found.2 found.3).high

  -- what stands in place of the leaf
  module _ (new : SearchedTree) (stands : (x : ℕ) → times_at x new ≡ times_own x (Some number))
      (fresh_pairs : (allows : ℕ → ℕ → Bool) (above : List ℕ) → HasOwnPairs n more allows (Some number) → EachNode (λ a b x. HasOwnPairs n more a (own_of x)) allows above new)
      (fresh_reached : (allows : ℕ → ℕ → Bool) (above : List ℕ) → IsReached more (Some node.bound) above (Some number)
      → EachNode (λ a b x. IsReached more (Some node.bound) b (own_of x)) allows above new)
      (changed : SearchTree) (keys : branches_of (placed key new t) ≡ changed.tree)
      (kept : (k : ℕ) (o : Node) → k ≢ key → node_at tree.nodes k ≡ Some o → node_at changed.nodes k ≡ Some o)
      (fresh_leaves : (allows : ℕ → ℕ → Bool) (above : List ℕ) → IsOpenWell sections floor above None node.section node.bound
      → EachNode (λ a b x. IsLeafWell changed.nodes more lower node.bound b x) allows above new) where
    once_settled : (x : ℕ) → times_at x (placed key new t) ≡ cond (nat_lt x (length more)) 1 0
    once_settled x =
        let all : times_at x (placed key new t) ≡ times_at x t + leaves_with key (branches_of t) * times_at x new = times-placed key x new any_pair [] t bare in
        let old = is.once x in
        let fresh = stands x in
        let count = counted x (length sections) in
        let long : length more ≡ length sections + 1 = length_push sections s in
        rw (all, one_leaf, old, fresh, long) count

    pairs_settled : EachNode (λ a b x. HasOwnPairs n more a (own_of x)) any_pair [] (placed key new t)
    pairs_settled =
        each_placed (λ a b x. HasOwnPairs n sections a (own_of x) × HasKeyPairs n tree.nodes a x) (λ a b x. HasOwnPairs n more a (own_of x)) key new
        (λ allows above o i j one two three four has. pairs-more sections s n allows (Some o) has.0)
        (λ allows above o has.
        let same : has.1.node ≡ node = same_Some has.1.node node (sym has.1.here ∙ here) in
        let of_node : HasPairs n allows node.pairs = subst (λ (m : Node). HasPairs n allows m.pairs) same has.1.is in
        let of_section : HasPairs n allows s.pairs = subst (λ p. HasPairs n allows p) (sym pairs) of_node in
        fresh_pairs allows above (section-pushed sections s (λ x. HasPairs n allows x.pairs) of_section))
        (λ allows above o k apart has. pairs-more sections s n allows o has.0)
        any_pair [] t (each_both (λ a b x. HasOwnPairs n sections a (own_of x)) (λ a b x. HasKeyPairs n tree.nodes a x) any_pair [] t is.pairs key_pairs)

    -- the floor is raised to the bound of the node
    reached_settled : EachNode (λ a b x. IsReached more (Some node.bound) b (own_of x)) any_pair [] (placed key new t)
    reached_settled =
        each_placed (λ a b x. IsReached sections (Some floor) b (own_of x) × IsLeafWell tree.nodes sections cost floor b x) (λ a b x. IsReached more (Some node.bound) b (own_of x)) key new
        (λ allows above o i j one two three four has. reached-more sections s (Some floor) (Some node.bound) above (Some o) raised has.0)
        (λ allows above o has.
        let open_ = leaf_here above o has.1 in
        fresh_reached allows above (reaches above (subst (λ x. IsOpenWell sections floor above x node.section node.bound) open_.bare open_)))
        (λ allows above o k apart has. reached-more sections s (Some floor) (Some node.bound) above o raised has.0)
        any_pair [] t (each_both (λ a b x. IsReached sections (Some floor) b (own_of x)) (λ a b x. IsLeafWell tree.nodes sections cost floor b x) any_pair [] t is.reached is.leaves)

    leaves_settled : EachNode (λ a b x. IsLeafWell changed.nodes more lower node.bound b x) any_pair [] (placed key new t)
    leaves_settled =
        each_placed (λ a b x. IsLeafWell tree.nodes sections cost floor b x) (λ a b x. IsLeafWell changed.nodes more lower node.bound b x) key new
        (λ allows above o i j one two three four has. tt)
        (λ allows above o has.
        let open_ = leaf_here above o has in
        fresh_leaves allows above (subst (λ x. IsOpenWell sections floor above x node.section node.bound) open_.bare open_))
        (λ allows above o k apart has.
        leaf-more sections s cost lower floor node.bound cheaper below tree.nodes changed.nodes k (λ m at. kept k m apart at) (λ m at waits_. least k m at waits_) above o has)
        any_pair [] t is.leaves

    pub settled : IsSearchAt n changed more lower node.bound (placed key new t)
    settled = record {
      keys = keys;
      root = own-placed key 0 new any_pair [] t bare is.root;
      once = once_settled;
      pairs = pairs_settled;
      reached = reached_settled;
      leaves = leaves_settled;
    }

  abbrev pub name : ℕ
  name = (greater_of number own node.section node.bound).0

  abbrev pub top : Option ℕ
  top = (greater_of number own node.section node.bound).1

  -- the leaf is closed: its bound is not below the cost
  pub closed_search : (changed : SearchTree) (closed : Node) → changed.tree ≡ tree.tree → node_at changed.nodes key ≡ Some closed → closed.state ≡ Closed → closed.section ≡ name → IsAtMost lower top
      → ((k : ℕ) (o : Node) → k ≢ key → node_at tree.nodes k ≡ Some o → node_at changed.nodes k ≡ Some o)
      → IsSearchAt n changed more lower node.bound (placed key (tip (Some number) key) t)
  closed_search changed closed same_tree there state section costly kept =
      settled (tip (Some number) key) (λ x. refl) (λ allows above has. has) (λ allows above has. has) changed (branches-kept key number t ∙ is.keys ∙ sym same_tree) kept
      (λ allows above open_. record {
        node = closed;
        here = there;
        is =
            let well : IsClosedWell more lower node.bound (number ∷ above) name = record {
              bound = top;
              names = greatest-pushed sections s above node.section node.bound own open_.names bounds;
              costly = costly;
              high = greater_is_above number node.section node.bound own;
            } in
            let at_name : IsClosedWell more lower node.bound (number ∷ above) closed.section = subst (λ x. IsClosedWell more lower node.bound (number ∷ above) x) (sym section) well in
            subst (λ x. IsStateWell more lower node.bound above (Some number) closed.section closed.bound x) (sym state) at_name;
      })

  open_child : (changed : SearchTree) (k : ℕ) (above : List ℕ) (child : Node) (bound : ℕ) → node_at changed.nodes k ≡ Some child → child.state ≡ Open → child.section ≡ name → child.bound ≡ bound
      → IsOpenWell more node.bound above None name bound → HasNode changed.nodes k (IsNodeWell more lower node.bound above None)
  open_child changed k above child bound there state section bound_is well = record {
    node = child;
    here = there;
    is =
        let at_name : IsOpenWell more node.bound above None child.section bound = subst (λ x. IsOpenWell more node.bound above None x bound) (sym section) well in
        let at_bound : IsOpenWell more node.bound above None child.section child.bound = subst (λ x. IsOpenWell more node.bound above None child.section x) (sym bound_is) at_name in
        subst (λ x. IsStateWell more lower node.bound above None child.section child.bound x) (sym state) at_bound;
  }

  -- the leaf is split, and both children are open and name the same section
  pub split_search : (changed : SearchTree) (i j other bound : ℕ) (one two : Node) → changed.tree ≡ grown key i j other tree.tree
      → node_at changed.nodes key ≡ Some one → node_at changed.nodes other ≡ Some two
      → (one.state ≡ Open) × (two.state ≡ Open) → (one.section ≡ name) × (two.section ≡ name) → (one.bound ≡ bound) × (two.bound ≡ bound) → top ≡ Some bound
      → ((k : ℕ) (o : Node) → k ≢ key → node_at tree.nodes k ≡ Some o → node_at changed.nodes k ≡ Some o)
      → IsSearchAt n changed more lower node.bound (placed key (fork number i j (tip None key) (tip None other)) t)
  split_search changed i j other bound one two grown_tree first second states named_ bounds_ is_top kept =
      settled (fork number i j (tip None key) (tip None other)) (λ x. add-zero (times_own x (Some number))) (λ allows above has. (has, (tt, tt))) (λ allows above has. (has, (tt, tt))) changed
      (branches-grown key number i j other t ∙ ap (grown key i j other) is.keys ∙ sym grown_tree) kept
      (λ allows above open_.
      let greatest = greatest-pushed sections s above node.section node.bound own open_.names bounds in
      let at_bound : IsGreatestAt more (number ∷ above) name (Some bound) = subst (λ b. IsGreatestAt more (number ∷ above) name b) is_top greatest in
      let up : IsAtMost (Some node.bound) (Some bound) = subst (λ b. IsAtMost (Some node.bound) b) is_top (greater_is_above number node.section node.bound own) in
      let well : IsOpenWell more node.bound (number ∷ above) None name bound = record { bare = refl; names = at_bound; high = up } in (
        tt,
        (
          open_child changed key (number ∷ above) one bound first states.0 named_.0 bounds_.0 well,
          open_child changed other (number ∷ above) two bound second states.1 named_.1 bounds_.1 well,
        ),
      ))
