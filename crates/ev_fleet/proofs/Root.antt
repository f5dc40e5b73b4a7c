-- The search once the section of the root was found.
use Rattle.std.proofs.Common.{◌≡◌, ◌∙◌, ℕ, zero, suc, [], ◌∷◌, Option, Some, None, refl, sym, subst, arith, add-zero}
use Rattle.std.specs.Prelude.{cond, nat_lt}
use Rattle.std.proofs.lemmas.List.Elements.{All-cons, All-nil, Contains-push}
use Rattle.customer_sets.specs.Pairs.{any_pair}
use Rattle.bound_certificate.specs.Meaning.{priced_section}
use Rattle.bound_certificate.specs.declared.certificate.Section.{Section}
use Rattle.branching.specs.Nodes.{node_at, HasNode}
use Rattle.branching.specs.SearchTree.{HasPairs, SearchTree}
use Rattle.branching.specs.declared.node.Node.{Node}
use Rattle.branching.specs.declared.node.NodeState.TheVariants.{Open, Closed}
use Rattle.fleet_model.specs.Tree.{leaf, split}
use Rattle.ev_fleet.specs.Bounds.{HasBound, HasSection, IsAtMost, IsBoundOf, IsNotAbove}
use Rattle.ev_fleet.specs.Searched.{fork, times_own, tip}
use Rattle.ev_fleet.specs.State.{IsClosedWell, IsGreatestAt, IsNodeWell, IsOpenWell, IsSearchAt, IsStateWell}
use Rattle.ev_fleet.proofs.Bounds.{most_same}

stands_once : (number : ℕ) → times_own number (Some 0) ≡ cond (nat_lt number 1) 1 0
stands_once zero = refl
stands_once (suc number) = grind arith

lowest : (bound : Option ℕ) → IsAtMost (Some 0) bound
lowest None = tt
lowest (Some bound) = omega arith

module _ (n : ℕ) (s : Section) (own cost : Option ℕ) (bounds : IsBoundOf (priced_section s) own) (pairs : HasPairs n any_pair s.pairs) where
  here : HasBound (s ∷ []) 0 own
  here = record { section = s; here = refl; is = bounds }

  greatest : IsGreatestAt (s ∷ []) (0 ∷ []) 0 own
  greatest = record {
    among = Contains-push [] 0;
    own = here;
    greatest = All-cons (IsNotAbove (s ∷ []) own) 0 [] (own, here, most_same own) (All-nil (IsNotAbove (s ∷ []) own));
  }

  has : HasSection (s ∷ []) 0 (λ x. HasPairs n any_pair x.pairs)
  has = record { section = s; here = refl; is = pairs }

  -- the root is closed
  pub closed_root : (tree : SearchTree) (closed : Node) → tree.tree ≡ leaf 0 → node_at tree.nodes 0 ≡ Some closed → closed.state ≡ Closed → closed.section ≡ 0 → IsAtMost cost own
      → IsSearchAt n tree (s ∷ []) cost 0 (tip (Some 0) 0)
  closed_root tree closed shape there state section costly = record {
    keys = sym shape;
    root = refl;
    once = stands_once;
    pairs = has;
    reached = tt;
    leaves = record {
      node = closed;
      here = there;
      is =
          let well : IsClosedWell (s ∷ []) cost 0 (0 ∷ []) 0 = record { bound = own; names = greatest; costly = costly; high = lowest own } in
          let at_name : IsClosedWell (s ∷ []) cost 0 (0 ∷ []) closed.section = subst (λ x. IsClosedWell (s ∷ []) cost 0 (0 ∷ []) x) (sym section) well in
          subst (λ x. IsStateWell (s ∷ []) cost 0 [] (Some 0) closed.section closed.bound x) (sym state) at_name;
    };
  }

  child : (tree : SearchTree) (key bound : ℕ) (node : Node) → own ≡ Some bound → node_at tree.nodes key ≡ Some node → node.state ≡ Open → node.section ≡ 0 → node.bound ≡ bound
      → HasNode tree.nodes key (IsNodeWell (s ∷ []) cost 0 (0 ∷ []) None)
  child tree key bound node is there state section bound_is = record {
    node = node;
    here = there;
    is =
        let names : IsGreatestAt (s ∷ []) (0 ∷ []) 0 (Some bound) = subst (λ b. IsGreatestAt (s ∷ []) (0 ∷ []) 0 b) is greatest in
        let well : IsOpenWell (s ∷ []) 0 (0 ∷ []) None 0 bound = record { bare = refl; names = names; high = omega arith } in
        let at_name : IsOpenWell (s ∷ []) 0 (0 ∷ []) None node.section bound = subst (λ x. IsOpenWell (s ∷ []) 0 (0 ∷ []) None x bound) (sym section) well in
        let at_bound : IsOpenWell (s ∷ []) 0 (0 ∷ []) None node.section node.bound = subst (λ x. IsOpenWell (s ∷ []) 0 (0 ∷ []) None node.section x) (sym bound_is) at_name in
        subst (λ x. IsStateWell (s ∷ []) cost 0 (0 ∷ []) None node.section node.bound x) (sym state) at_bound;
  }

  -- the root is split
  pub split_root : (tree : SearchTree) (i j other bound : ℕ) (one two : Node) → own ≡ Some bound → tree.tree ≡ split i j (leaf 0) (leaf other)
      → node_at tree.nodes 0 ≡ Some one → node_at tree.nodes other ≡ Some two
      → (one.state ≡ Open) × (two.state ≡ Open) → (one.section ≡ 0) × (two.section ≡ 0) → (one.bound ≡ bound) × (two.bound ≡ bound)
      → IsSearchAt n tree (s ∷ []) cost 0 (fork 0 i j (tip None 0) (tip None other))
  split_root tree i j other bound one two is shape first second states sections_ bounds_ = record {
    keys = sym shape;
    root = refl;
    once = λ number. add-zero (times_own number (Some 0)) ∙ stands_once number;
    pairs = (has, (tt, tt));
    reached = (tt, (tt, tt));
    leaves = (
      tt,
      (
        child tree 0 bound one is first states.0 sections_.0 bounds_.0,
        child tree other bound two is second states.1 sections_.1 bounds_.1,
      ),
    );
  }
