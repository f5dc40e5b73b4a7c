-- What holds of a search behind its root.
use Rattle.std.proofs.Common.{◌≡◌, ◌∙◌, ℕ, zero, suc, true, List, [], ◌∷◌, ◌++◌, length, set, Option, Some, None, inl, inr, refl, sym, ap, subst, arith}
use Rattle.std.specs.Prelude.{nat_lt}
use Rattle.std.specs.List.{All}
use Rattle.std.proofs.lemmas.Bool.{cases_eq, lt-ltb}
use Rattle.std.proofs.lemmas.List.Elements.{All-cons, All-nil}
use Rattle.std.proofs.lemmas.Option.{none-some, same_Some}
use Rattle.customer_sets.specs.Pairs.{ForbiddenPairs, allows_of, any_pair}
use Rattle.ev_model.specs.Network.{Network}
use Rattle.fleet_model.specs.Tree.{leaf, split}
use Rattle.bound_certificate.specs.Meaning.{priced_section}
use Rattle.bound_certificate.specs.Ranges.{customer_count}
use Rattle.bound_certificate.specs.declared.certificate.Root.{Root}
use Rattle.bound_certificate.specs.declared.certificate.Section.{Section}
use Rattle.branching.specs.Nodes.{node_at, NoneIsOpen}
use Rattle.branching.specs.SearchTree.{HasPairs, IsRoot, SearchTree, closed_with, grown, with_node}
use Rattle.branching.specs.declared.node.Node.{Node}
use Rattle.branching.specs.declared.node.NodeState.TheVariants.{Open}
use Rattle.column_pool.specs.Bounds.{IsNodeBound}
use Rattle.ev_fleet.specs.Answers.{answer_of}
use Rattle.ev_fleet.specs.Bounds.{IsAtMost, IsBoundOf}
use Rattle.ev_fleet.specs.Held.{cost_at}
use Rattle.ev_fleet.specs.Searched.{SearchedTree, fork, tip}
use Rattle.ev_fleet.specs.Searching.{IsAdvanced, IsBegun, IsFirst, ShowsRoot, greater_at}
use Rattle.ev_fleet.specs.Splitting.{IsSettled, taken_of}
use Rattle.ev_fleet.specs.State.{IsFound, IsSearch, IsSearchAt, greater_of}
use Rattle.ev_fleet.specs.declared.state.FleetSearch.{FleetSearch}
use Rattle.ev_fleet.specs.Whole.{IsNoDearer}
use Rattle.ev_fleet.proofs.SearchSteps.{no_dearer_by}
use Rattle.branching.proofs.Elements.{node_set}
use Rattle.ev_fleet.proofs.Found.{found_of, node_section}
use Rattle.ev_fleet.proofs.OwnCosts.{own_lower}
use Rattle.ev_fleet.proofs.Root.{closed_root, split_root}

-- the one node of a new tree
abbrev pub first_node : ForbiddenPairs → Node
first_node p = record { state = Open; pairs = p; section = 0; bound = 0 }

only : (n : ℕ) (tree : SearchTree) (root : IsRoot n tree) (key : ℕ) (node : Node) → node_at tree.nodes key ≡ Some node → (key ≡ 0) × (first_node root.pairs ≡ node)
only n tree root key node here = elim (cases_eq key 0) [
  | inl is ↦
      let at : node_at tree.nodes 0 ≡ Some node = subst (λ k. node_at tree.nodes k ≡ Some node) is here in
      (is, same_Some (first_node root.pairs) node (sym root.node ∙ at))
  | inr apart ↦ absurd (none-some node (sym (root.alone key apart) ∙ here))
]

-- a node of bound 0 never has the greater one
first_name : (own : Option ℕ) → (greater_of 0 own 0 0).0 ≡ 0
first_name None = refl
first_name (Some zero) = refl
first_name (Some (suc own)) = let test : nat_lt 0 (suc own) ≡ true = lt-ltb 0 (suc own) (omega arith) in rw test refl

first_top : (own : Option ℕ) → (greater_of 0 own 0 0).1 ≡ own
first_top None = refl
first_top (Some zero) = refl
first_top (Some (suc own)) = let test : nat_lt 0 (suc own) ≡ true = lt-ltb 0 (suc own) (omega arith) in rw test refl

any_pairs : (n : ℕ) (p : ForbiddenPairs) → p.customers ≡ n → ((a b : ℕ) → allows_of p a b ≡ true) → HasPairs n any_pair p
any_pairs n p among any = record { customers = among; same = λ a b _ _. any a b; more = λ a b _. any a b }

-- the root is closed or split
settled_root : (n : ℕ) (tree : SearchTree) (root : IsRoot n tree) (s : Section) (own cost : Option ℕ) → IsBoundOf (priced_section s) own → HasPairs n any_pair s.pairs
    → (name : ℕ) (top : Option ℕ) → name ≡ 0 → top ≡ own → (new : SearchTree) → IsSettled (with_node tree 0 (taken_of (first_node root.pairs))) 0 name top cost new
    → (new.customers ≡ n) × ((t : SearchedTree) × IsSearchAt n new (s ∷ []) cost 0 t)
settled_root n tree root s own cost bounds pairs name top is_name is_top new settled =
    let taken = taken_of (first_node root.pairs) in
    let before : List (Option Node) = set tree.nodes 0 (Some taken) in
    let taken_here : node_at before 0 ≡ Some taken = node_set tree.nodes 0 (first_node root.pairs) taken root.node in
    elim settled [
      | inl done ↦
          let closed = closed_with name taken in
          let made = done.1 taken taken_here in
          let shape : new.tree ≡ leaf 0 = ap (λ (x : SearchTree). x.tree) made ∙ root.tree in
          let there : node_at new.nodes 0 ≡ Some closed = ap (λ (x : SearchTree). node_at x.nodes 0) made ∙ node_set before 0 taken closed taken_here in
          let costly : IsAtMost cost own = subst (λ b. IsAtMost cost b) is_top done.0 in (
            ap (λ (x : SearchTree). x.customers) made ∙ root.many,
            (tip (Some 0) 0, closed_root n s own cost bounds pairs new closed shape there refl is_name costly),
          )
      | inr parted ↦
          let halves = parted.split in
          let is : own ≡ Some parted.number = sym is_top ∙ parted.bounds in
          let shape : new.tree ≡ split parted.i parted.j (leaf 0) (leaf parted.other) = halves.tree ∙ ap (grown 0 parted.i parted.j parted.other) root.tree in
          let names = halves.children.sections in (
            halves.customers ∙ root.many,
            (
              fork 0 parted.i parted.j (tip None 0) (tip None parted.other),
              split_root n s own cost bounds pairs new parted.i parted.j parted.other parted.number halves.apart halves.together is shape halves.first halves.second halves.children.waiting
                  (names.0 ∙ is_name, names.1 ∙ is_name) halves.children.bounds,
            ),
          )
    ]

-- a new tree has an open node
pub root_open : (n : ℕ) (tree : SearchTree) → IsRoot n tree → NoneIsOpen tree.nodes → ⊥
root_open n tree root none = none 0 (record { node = first_node root.pairs; here = root.node; is = refl })

-- the facts of the first step, over the tree and the sections that there were
module _ (g : Network) (old new : FleetSearch) (r : Root) (first : IsFirst g old) (advanced : IsAdvanced g old new r) where
  abbrev pub p : ForbiddenPairs
  p = first.root.pairs

  here : (advanced.key ≡ 0) × (first_node p ≡ advanced.node)
  here = only (customer_count g) old.tree first.root advanced.key advanced.node advanced.next.here

  pairs : HasPairs (customer_count g) any_pair advanced.section.pairs
  pairs =
      let of_node : advanced.section.pairs ≡ advanced.node.pairs = (node_section g advanced.node.pairs advanced.section r advanced.found).pairs in
      let of_root : p ≡ advanced.node.pairs = ap (λ (m : Node). m.pairs) here.1 in
      subst (λ q. HasPairs (customer_count g) any_pair q) (of_root ∙ sym of_node) (any_pairs (customer_count g) p first.root.among first.root.any)

  greater : greater_at old.sections.items advanced.own advanced.node ≡ greater_of 0 advanced.own 0 0
  greater =
      ap (λ (xs : List Section). greater_at xs advanced.own advanced.node) first.none ∙ ap (λ (m : Node). greater_at [] advanced.own m) (sym here.1)

  settled : IsSettled (with_node old.tree 0 (taken_of (first_node p))) 0 (greater_at old.sections.items advanced.own advanced.node).0
      (greater_at old.sections.items advanced.own advanced.node).1 (cost_at new.held) new.tree
  settled =
      let name = (greater_at old.sections.items advanced.own advanced.node).0 in
      let top = (greater_at old.sections.items advanced.own advanced.node).1 in
      let at_key : IsSettled (with_node old.tree 0 (taken_of advanced.node)) 0 name top (cost_at new.held) new.tree =
      subst (λ k. IsSettled (with_node old.tree k (taken_of advanced.node)) k name top (cost_at new.held) new.tree) here.0 advanced.settled in
      subst (λ (m : Node). IsSettled (with_node old.tree 0 (taken_of m)) 0 name top (cost_at new.held) new.tree) (sym here.1) at_key

  sections : new.sections.items ≡ advanced.section ∷ []
  sections = advanced.sections ∙ ap (λ (xs : List Section). xs ++ advanced.section ∷ []) first.none

  search : IsSearch g new.tree (advanced.section ∷ []) (cost_at new.held)
  search =
      let name = (greater_at old.sections.items advanced.own advanced.node).0 in
      let top = (greater_at old.sections.items advanced.own advanced.node).1 in
      let is_name : name ≡ 0 = ap (λ (x : ℕ × Option ℕ). x.0) greater ∙ first_name advanced.own in
      let is_top : top ≡ advanced.own = ap (λ (x : ℕ × Option ℕ). x.1) greater ∙ first_top advanced.own in
      let done = settled_root (customer_count g) old.tree first.root advanced.section advanced.own (cost_at new.held) advanced.bound pairs name top is_name is_top new.tree settled in
      record {
        customers = done.0;
        found = All-cons (IsFound g) advanced.section [] (found_of g advanced.node.pairs advanced.section r advanced.found) (All-nil (IsFound g));
        floor = 0;
        standing = done.1.0;
        is = done.1.1;
      }

  shows : ShowsRoot g (advanced.section ∷ []) r
  shows =
      let of_node : advanced.section.pairs ≡ advanced.node.pairs = (node_section g advanced.node.pairs advanced.section r advanced.found).pairs in
      let found : IsNodeBound g advanced.section.pairs (answer_of advanced.section r) = subst (λ q. IsNodeBound g q (answer_of advanced.section r)) (sym of_node) advanced.found in
      record { section = advanced.section; here = refl; is = (pairs, found) }

  pub begun : IsBegun g new r
  begun = record {
    searching = record {
      search = subst (λ xs. IsSearch g new.tree xs (cost_at new.held)) (sym sections) search;
      whole = subst (λ xs. All (IsNoDearer g (cost_at new.held)) xs) (sym sections)
          (All-cons (IsNoDearer g (cost_at new.held)) advanced.section [] (no_dearer_by g old new r advanced) (All-nil (IsNoDearer g (cost_at new.held))));
      held = advanced.held;
      own = own_lower g (cost_at old.held) (cost_at new.held) first.own advanced.cheaper;
      pool = advanced.pool;
    };
    root = subst (λ xs. ShowsRoot g xs r) (sym sections) shows;
    taken = advanced.taken;
    one = ap length sections;
  }
