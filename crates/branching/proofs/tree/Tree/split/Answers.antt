use Rattle.std.proofs.Common.{◌≡◌, ◌∙◌, ◌<◌, List, Option, Some, ◌≢◌, ℕ, set, refl, sym, ap, subst, arith}
use Rattle.std.specs.Prelude.{IsSome}
use Rattle.std.proofs.lemmas.Option.{none-some, same_Some}
use Rattle.customer_sets.specs.Pairs.{allows_of}
use Rattle.fleet_model.specs.Tree.{BranchTree}
use Rattle.slab.specs.Slab.{Slab}
use Rattle.branching.specs.Nodes.{IsTaken, node_at}
use Rattle.branching.specs.SearchTree.{grown, IsBranchPair, IsSearchTree, IsSplitOf, SearchTree}
use Rattle.branching.specs.Shape.{key_lines, tree_of}
use Rattle.branching.specs.Stored.{search_tree_of}
use Rattle.branching.specs.Work.{work_left}
use Rattle.branching.specs.declared.node.Node.{Node}
use Rattle.branching.proofs.Counts.{fewer_apart, fewer_together}
use Rattle.branching.proofs.Elements.{split_added, split_first, split_free, split_others, split_second, split_still}
use Rattle.branching.proofs.Shapes.{tree_of-lines}
use Rattle.branching.proofs.Stored.{lines-split, node_customers, sound-split, stands_once}
use Rattle.branching.proofs.Works.{work_splits}
use Rattle.branching.proofs.tree.Tree.split.Goals as goal

pub split_leaf-requires : goal.split_leaf-requires
split_leaf-requires c =
    let t : SearchTree = search_tree_of c.self.inside in
    let asked = c.requires.taken.node in
    let there : node_at t.nodes c.args.key ≡ Some asked = subst (λ (p : SearchTree). node_at p.nodes c.args.key ≡ Some asked) (sym c.self.view_is) c.requires.taken.here in
    stands_once t c.self.inside.shape.items c.args.key asked c.self.invariant.sound c.self.invariant.whole there

pub children-apart-requires-clause-first : goal.children-apart-requires-clause-first
children-apart-requires-clause-first c =
    let t : SearchTree = search_tree_of c.self.inside in
    let key = c.args.key in
    let old = c.index.result.now in
    let same : c.reserve.new.self.slots ≡ t.nodes = ap (λ (s : Slab Node). s.slots) c.reserve.ensures.rest_kept in
    let here : node_at t.nodes key ≡ Some old = subst (λ xs. node_at xs key ≡ Some old) same c.index.ensures in
    let pair : IsBranchPair t.customers (allows_of old.pairs) c.args.i c.args.j = subst (λ (p : SearchTree). (node : Node) → node_at p.nodes key ≡ Some node → IsBranchPair p.customers (allows_of node.pairs) c.args.i c.args.j) (sym c.self.view_is) c.requires.pair old here in
    let among = node_customers t key old c.self.invariant.sound here in
    (pair.first.0, omega (arith, pair.first.1, among))

pub children-apart-requires-clause-second : goal.children-apart-requires-clause-second
children-apart-requires-clause-second c =
    let t : SearchTree = search_tree_of c.self.inside in
    let key = c.args.key in
    let old = c.index.result.now in
    let same : c.reserve.new.self.slots ≡ t.nodes = ap (λ (s : Slab Node). s.slots) c.reserve.ensures.rest_kept in
    let here : node_at t.nodes key ≡ Some old = subst (λ xs. node_at xs key ≡ Some old) same c.index.ensures in
    let pair : IsBranchPair t.customers (allows_of old.pairs) c.args.i c.args.j = subst (λ (p : SearchTree). (node : Node) → node_at p.nodes key ≡ Some node → IsBranchPair p.customers (allows_of node.pairs) c.args.i c.args.j) (sym c.self.view_is) c.requires.pair old here in
    let among = node_customers t key old c.self.invariant.sound here in
    (pair.second.0, omega (arith, pair.second.1, among))

pub children-apart-requires-clause-apart : goal.children-apart-requires-clause-apart
children-apart-requires-clause-apart c =
    let t : SearchTree = search_tree_of c.self.inside in
    let key = c.args.key in
    let old = c.index.result.now in
    let same : c.reserve.new.self.slots ≡ t.nodes = ap (λ (s : Slab Node). s.slots) c.reserve.ensures.rest_kept in
    let here : node_at t.nodes key ≡ Some old = subst (λ xs. node_at xs key ≡ Some old) same c.index.ensures in
    let pair : IsBranchPair t.customers (allows_of old.pairs) c.args.i c.args.j = subst (λ (p : SearchTree). (node : Node) → node_at p.nodes key ≡ Some node → IsBranchPair p.customers (allows_of node.pairs) c.args.i c.args.j) (sym c.self.view_is) c.requires.pair old here in
    pair.apart

pub index_mut-requires : goal.index_mut-requires
index_mut-requires c =
    let key = c.args.key in
    let old = c.index.result.now in
    let before = c.reserve.new.self.slots in
    let is_key : c.insert_reserved.result ≡ c.vacant_key-second.result = c.insert_reserved.ensures.key ∙ sym c.vacant_key-second.ensures.value in
    let apart : key ≢ c.insert_reserved.result = λ e. none-some old (sym c.vacant_key-second.ensures.vacant ∙ subst (λ k. node_at before k ≡ Some old) (e ∙ is_key) c.index.ensures) in
    let still : node_at c.insert_reserved.new.self.slots key ≡ Some old = c.insert_reserved.ensures.updates.others key apart ∙ c.index.ensures in
    subst IsSome (sym still) refl

pub invariant_of-self-2 : goal.invariant_of-self-2
invariant_of-self-2 c =
    let t : SearchTree = search_tree_of c.self.inside in
    let key = c.args.key in
    let old = c.index.result.now in
    let same : c.reserve.new.self.slots ≡ t.nodes = ap (λ (s : Slab Node). s.slots) c.reserve.ensures.rest_kept in
    let here : node_at t.nodes key ≡ Some old = subst (λ xs. node_at xs key ≡ Some old) same c.index.ensures in
    let pair : IsBranchPair t.customers (allows_of old.pairs) c.args.i c.args.j = subst (λ (p : SearchTree). (node : Node) → node_at p.nodes key ≡ Some node → IsBranchPair p.customers (allows_of node.pairs) c.args.i c.args.j) (sym c.self.view_is) c.requires.pair old here in
    let one = c.children-apart.result.0 in
    let two = c.children-apart.result.1 in
    let other = c.vacant_key-second.result in
    let before = c.reserve.new.self.slots in
    let added = c.insert_reserved.new.self.slots in
    let is_key : c.insert_reserved.result ≡ other = c.insert_reserved.ensures.key ∙ sym c.vacant_key-second.ensures.value in
    let updates = c.insert_reserved.ensures.updates in
    let there : node_at added other ≡ Some two = subst (λ k. node_at added k ≡ Some two) is_key updates.changed in
    let kept : (k : ℕ) → k ≢ other → node_at added k ≡ node_at before k = λ k fresh. updates.others k (λ e. fresh (e ∙ is_key)) in
    let free = c.vacant_key-second.ensures.vacant in
    let shape = c.self.inside.shape.items in
    let new_shape = c.split_leaf.new.shape.items in
    let lines : new_shape ≡ key_lines (grown key c.args.i c.args.j other t.tree) = c.in_ok-split_leaf.ensures.ok ∙ lines-split t.tree shape key c.args.i c.args.j other c.self.invariant.whole in
    let tree : tree_of new_shape ≡ grown key c.args.i c.args.j other t.tree = ap (λ ls. tree_of ls) lines ∙ tree_of-lines (grown key c.args.i c.args.j other t.tree) in
    let changed : List (Option Node) = set added key (Some one) in
    let sound : IsSearchTree (record { customers = t.customers; nodes = changed; tree = grown key c.args.i c.args.j other t.tree }) =
    sound-split t changed key other c.args.i c.args.j c.args.section c.args.bound old one two c.self.invariant.sound here
    (split_free t.nodes before added key other old one two same c.index.ensures free there kept)
    (split_first t.nodes before added key other old one two same c.index.ensures free there kept)
    (split_second t.nodes before added key other old one two same c.index.ensures free there kept)
    (split_others t.nodes before added key other old one two same c.index.ensures free there kept)
    c.children-apart.ensures.children c.children-apart.ensures.pairs pair in
    record {
      whole = lines ∙ ap (λ (u : BranchTree). key_lines u) (sym tree);
      sound = subst (λ (u : BranchTree). IsSearchTree (record { customers = t.customers; nodes = changed; tree = u })) (sym tree) sound;
    }

pub returns-clause-ok : goal.returns-clause-ok
returns-clause-ok c =
    let t : SearchTree = search_tree_of c.self.inside in
    let key = c.args.key in
    let old = c.index.result.now in
    let same : c.reserve.new.self.slots ≡ t.nodes = ap (λ (s : Slab Node). s.slots) c.reserve.ensures.rest_kept in
    let here : node_at t.nodes key ≡ Some old = subst (λ xs. node_at xs key ≡ Some old) same c.index.ensures in
    let pair : IsBranchPair t.customers (allows_of old.pairs) c.args.i c.args.j = subst (λ (p : SearchTree). (node : Node) → node_at p.nodes key ≡ Some node → IsBranchPair p.customers (allows_of node.pairs) c.args.i c.args.j) (sym c.self.view_is) c.requires.pair old here in
    let one = c.children-apart.result.0 in
    let two = c.children-apart.result.1 in
    let other = c.vacant_key-second.result in
    let before = c.reserve.new.self.slots in
    let added = c.insert_reserved.new.self.slots in
    let is_key : c.insert_reserved.result ≡ other = c.insert_reserved.ensures.key ∙ sym c.vacant_key-second.ensures.value in
    let updates = c.insert_reserved.ensures.updates in
    let there : node_at added other ≡ Some two = subst (λ k. node_at added k ≡ Some two) is_key updates.changed in
    let kept : (k : ℕ) → k ≢ other → node_at added k ≡ node_at before k = λ k fresh. updates.others k (λ e. fresh (e ∙ is_key)) in
    let free = c.vacant_key-second.ensures.vacant in
    let shape = c.self.inside.shape.items in
    let new_shape = c.split_leaf.new.shape.items in
    let lines : new_shape ≡ key_lines (grown key c.args.i c.args.j other t.tree) = c.in_ok-split_leaf.ensures.ok ∙ lines-split t.tree shape key c.args.i c.args.j other c.self.invariant.whole in
    let tree : tree_of new_shape ≡ grown key c.args.i c.args.j other t.tree = ap (λ ls. tree_of ls) lines ∙ tree_of-lines (grown key c.args.i c.args.j other t.tree) in
    let changed : List (Option Node) = set added key (Some one) in
    let is : IsSplitOf t key other c.args.i c.args.j c.args.section c.args.bound (record { customers = t.customers; nodes = changed; tree = tree_of new_shape }) = record {
      node = old;
      here = here;
      free = split_free t.nodes before added key other old one two same c.index.ensures free there kept;
      apart = one;
      together = two;
      children = c.children-apart.ensures.children;
      first = split_first t.nodes before added key other old one two same c.index.ensures free there kept;
      second = split_second t.nodes before added key other old one two same c.index.ensures free there kept;
      others = split_others t.nodes before added key other old one two same c.index.ensures free there kept;
      customers = refl;
      tree = tree;
    } in
    subst (λ (p : SearchTree). IsSplitOf p key other c.args.i c.args.j c.args.section c.args.bound (record { customers = t.customers; nodes = changed; tree = tree_of new_shape })) c.self.view_is is

pub returns-clause-work : goal.returns-clause-work
returns-clause-work c =
    let t : SearchTree = search_tree_of c.self.inside in
    let key = c.args.key in
    let old = c.index.result.now in
    let same : c.reserve.new.self.slots ≡ t.nodes = ap (λ (s : Slab Node). s.slots) c.reserve.ensures.rest_kept in
    let here : node_at t.nodes key ≡ Some old = subst (λ xs. node_at xs key ≡ Some old) same c.index.ensures in
    let pair : IsBranchPair t.customers (allows_of old.pairs) c.args.i c.args.j = subst (λ (p : SearchTree). (node : Node) → node_at p.nodes key ≡ Some node → IsBranchPair p.customers (allows_of node.pairs) c.args.i c.args.j) (sym c.self.view_is) c.requires.pair old here in
    let among = node_customers t key old c.self.invariant.sound here in
    let one = c.children-apart.result.0 in
    let two = c.children-apart.result.1 in
    let other = c.vacant_key-second.result in
    let before = c.reserve.new.self.slots in
    let added = c.insert_reserved.new.self.slots in
    let is_key : c.insert_reserved.result ≡ other = c.insert_reserved.ensures.key ∙ sym c.vacant_key-second.ensures.value in
    let updates = c.insert_reserved.ensures.updates in
    let there : node_at added other ≡ Some two = subst (λ k. node_at added k ≡ Some two) is_key updates.changed in
    let kept : (k : ℕ) → k ≢ other → node_at added k ≡ node_at before k = λ k fresh. updates.others k (λ e. fresh (e ∙ is_key)) in
    let free = c.vacant_key-second.ensures.vacant in
    let are = c.children-apart.ensures.children in
    let asked = c.requires.taken.node in
    let at : node_at t.nodes key ≡ Some asked = subst (λ (p : SearchTree). node_at p.nodes key ≡ Some asked) (sym c.self.view_is) c.requires.taken.here in
    let taken : IsTaken old = subst IsTaken (same_Some asked old (sym at ∙ here)) c.requires.taken.is in
    let less_one = fewer_apart t.customers c.args.i c.args.j c.args.section c.args.bound old one two among are pair in
    let less_two = fewer_together t.customers c.args.i c.args.j c.args.section c.args.bound old one two among are pair in
    let less : work_left (set added key (Some one)) < work_left t.nodes =
    work_splits t.nodes added key other old one two here (split_free t.nodes before added key other old one two same c.index.ensures free there kept) there
    (split_added t.nodes before added key other old one two same c.index.ensures free there kept)
    (split_still t.nodes before added key other old one two same c.index.ensures free there kept)
    taken are.waiting.0 are.waiting.1 less_one less_two in
    subst (λ (p : SearchTree). work_left (set added key (Some one)) < work_left p.nodes) c.self.view_is less
