-- What the calls of the tree make of a search.
use Rattle.std.proofs.Common.{◌≡◌, ◌∙◌, ℕ, ◌≤◌, List, [], ◌∷◌, ◌++◌, Option, Some, None, inl, inr, refl, sym, ap, subst, arith, length, set}
use Rattle.std.specs.Prelude.{◌≢◌}
use Rattle.std.proofs.lemmas.List.Elements.{All-push}
use Rattle.std.proofs.lemmas.Option.{none-some}
use Rattle.ev_model.specs.Network.{Network}
use Rattle.bound_certificate.specs.Meaning.{priced_section}
use Rattle.bound_certificate.specs.Ranges.{customer_count}
use Rattle.bound_certificate.specs.declared.certificate.Section.{Section}
use Rattle.branching.specs.Nodes.{node_at, IsNext, IsOpen}
use Rattle.branching.specs.SearchTree.{IsSearchTree, IsSplitOf, SearchTree, closed_with, with_node}
use Rattle.branching.specs.declared.node.Node.{Node}
use Rattle.ev_fleet.specs.Bounds.{IsAtMost, IsBoundOf}
use Rattle.ev_fleet.specs.Searched.{fork, tip}
use Rattle.ev_fleet.specs.State.{IsFound, IsSearch, greater_of, placed}
use Rattle.ev_fleet.specs.Splitting.{IsSettled, taken_of}
use Rattle.branching.proofs.Elements.{node_kept, node_set}
use Rattle.ev_fleet.proofs.TakenNodes.{closed_search, split_search}

module _ (g : Network) (tree : SearchTree) (sections : List Section) (cost lower : Option ℕ) (sound : IsSearchTree tree) (is : IsSearch g tree sections cost)
    (key : ℕ) (node : Node) (next : IsNext tree.nodes key node) (cheaper : IsAtMost lower cost) (below : IsAtMost (Some node.bound) cost)
    (s : Section) (pairs : s.pairs ≡ node.pairs) (found : IsFound g s) (own : Option ℕ) (bounds : IsBoundOf (priced_section s) own) where
  least : (k : ℕ) (o : Node) → node_at tree.nodes k ≡ Some o → IsOpen o → node.bound ≤ o.bound
  least k o at waits = elim (next.least k o at waits) [ inl less ↦ omega (arith, less) | inr same ↦ omega (arith, same.0) ]

  abbrev pub name : ℕ
  name = (greater_of (length sections) own node.section node.bound).0

  abbrev pub top : Option ℕ
  top = (greater_of (length sections) own node.section node.bound).1

  abbrev pub before : List (Option Node)
  before = set tree.nodes key (Some (taken_of node))

  taken_here : node_at before key ≡ Some (taken_of node)
  taken_here = node_set tree.nodes key node (taken_of node) next.here

  -- after the node was closed
  pub closed_step : (changed : SearchTree) → changed ≡ with_node (with_node tree key (taken_of node)) key (closed_with name (taken_of node)) → IsAtMost lower top → IsSearch g changed (sections ++ s ∷ []) lower
  closed_step changed made costly =
      let closed = closed_with name (taken_of node) in
      let nodes : changed.nodes ≡ set before key (Some closed) = ap (λ (x : SearchTree). x.nodes) made in
      let shape : changed.tree ≡ tree.tree = ap (λ (x : SearchTree). x.tree) made in
      let many : changed.customers ≡ tree.customers = ap (λ (x : SearchTree). x.customers) made in
      let there : node_at changed.nodes key ≡ Some closed = ap (λ xs. node_at xs key) nodes ∙ node_set before key (taken_of node) closed taken_here in
      record {
        customers = many ∙ is.customers;
        found = All-push (IsFound g) sections s is.found found;
        floor = node.bound;
        standing = placed key (tip (Some (length sections)) key) is.standing;
        is = closed_search (customer_count g) tree sections cost lower is.floor is.standing sound is.customers is.is key node next.here next.waits least cheaper below s pairs own bounds
            changed closed shape there refl refl costly
            (λ k o apart at. ap (λ xs. node_at xs k) nodes ∙ node_kept before key k closed apart ∙ node_kept tree.nodes key k (taken_of node) apart ∙ at);
      }

  -- after it was split
  pub split_step : (changed : SearchTree) (other i j bound : ℕ) → IsSplitOf (with_node tree key (taken_of node)) key other i j name bound changed → top ≡ Some bound → IsSearch g changed (sections ++ s ∷ []) lower
  split_step changed other i j bound split is_top = record {
    customers = split.customers ∙ is.customers;
    found = All-push (IsFound g) sections s is.found found;
    floor = node.bound;
    standing = placed key (fork (length sections) i j (tip None key) (tip None other)) is.standing;
    is = split_search (customer_count g) tree sections cost lower is.floor is.standing sound is.customers is.is key node next.here next.waits least cheaper below s pairs own bounds
        changed i j other bound split.apart split.together split.tree split.first split.second split.children.waiting split.children.sections split.children.bounds is_top
        (λ k o apart at.
        let was : node_at before k ≡ Some o = node_kept tree.nodes key k (taken_of node) apart ∙ at in
        let used : k ≢ other = λ e. none-some o (sym split.free ∙ subst (λ x. node_at before x ≡ Some o) e was) in
        split.others k apart used ∙ was);
  }

  -- after it was closed or split
  pub settled_step : (changed : SearchTree) → IsSettled (with_node tree key (taken_of node)) key name top lower changed → IsSearch g changed (sections ++ s ∷ []) lower
  settled_step changed done = elim done [
    | inl closed ↦ closed_step changed (closed.1 (taken_of node) taken_here) closed.0
    | inr split ↦ split_step changed split.other split.i split.j split.number split.split split.bounds
  ]
