use Rattle.std.proofs.Common.{◌≡◌, ◌∙◌, ◌<◌, ℕ, List, [], ◌∷◌, ◌++◌, reverse, ap, sym, subst, arith, Some}
use Rattle.std.specs.Prelude.{if◌then◌else◌, slice_get, slice_index_or}
use Rattle.std.proofs.lemmas.Option.{same_Some, slice_get_within}
use Rattle.ev_model.specs.Network.{is_customer, Network, node_count}
use Rattle.label_pool.proofs.Elements.{element_at}
use Rattle.label_search.specs.Steps.{with_node}
use Rattle.label_search.specs.declared.found.Found.{Found}
use Rattle.label_search.proofs.GrownTrees.{read}
use Rattle.label_search.proofs.WaysBack.{elder_at, IsTraced, traced_back, traced_home, traced_start, turned}
use Rattle.label_search.proofs.order.order_of.Goals as goal

pub loop-parent-init : goal.loop-parent-init
loop-parent-init g c =
    let s = g.R.Resources.space c.args.resources.now in
    let f = element_at c.args.tree.now.found.items c.args.home c.requires.known in
    subst (IsTraced s c.args.tree.now.found.items c.args.home) (sym (ap reverse c.new-order.ensures.items))
    (traced_home s c.requires.lawful c.args.tree.now.found.items c.args.tree.now.groups.items c.requires.tree c.args.home f.0 f.1 (c.requires.earns f.0 f.1))

pub index-requires : goal.index-requires
index-requires g c =
    let within = slice_get_within c.args.tree.now.found.items c.loop-parent.at c.loop-parent.invariant.label c.loop-parent.invariant.here in
    omega (arith, within)

pub index-requires-in-Some : goal.index-requires-in-Some
index-requires-in-Some g c =
    let within = slice_get_within c.args.tree.now.found.items c.loop-parent.at c.loop-parent.invariant.label c.loop-parent.invariant.here in
    omega (arith, within)

-- what was read is the label at hand
is_label : {L : Type 0} (found : List (Found L)) (at : ℕ) (label f : Found L) → slice_get found at ≡ Some label → f ≡ slice_index_or found at f → f ≡ label
is_label found at label f here is = same_Some f label (sym (read found at f (slice_get_within found at label here) is) ∙ here)

pub push_customer-requires : goal.push_customer-requires
push_customer-requires g c =
    let s = g.R.Resources.space c.args.resources.now in
    let here = read c.args.tree.now.found.items c.loop-parent.at c.index-in-Some.result.now (slice_get_within c.args.tree.now.found.items c.loop-parent.at c.loop-parent.invariant.label c.loop-parent.invariant.here) c.index-in-Some.ensures in
    let known : s.node c.index-in-Some.result.now.label < node_count s.network = (c.requires.tree.labels c.loop-parent.at c.index-in-Some.result.now here).range.node in
    let at : c.node-node.result < node_count s.network = subst (λ x. x < node_count s.network) (sym c.node-node.ensures) known in
    subst (λ (k : Network). c.node-node.result < node_count k) (sym c.instance.ensures.same) at

the_parent : {L : Type 0} (label f : Found L) (parent : ℕ) → f ≡ label → f.parent ≡ Some parent → label.parent ≡ Some parent
the_parent {L} label f parent same is = sym (ap (λ (k : Found L). k.parent) same) ∙ is

pub loop-parent-smaller : goal.loop-parent-smaller
loop-parent-smaller g c =
    elder_at (g.R.Resources.space c.args.resources.now) c.requires.lawful c.args.tree.now.found.items c.args.tree.now.groups.items c.requires.tree c.loop-parent.at c.in-Some.parent c.loop-parent.invariant.label c.loop-parent.invariant.here (the_parent c.loop-parent.invariant.label c.index.result.now c.in-Some.parent (is_label c.args.tree.now.found.items c.loop-parent.at c.loop-parent.invariant.label c.index.result.now c.loop-parent.invariant.here c.index.ensures) c.in-Some.is)

pub loop-parent-preserved : goal.loop-parent-preserved
loop-parent-preserved g c =
    let s = g.R.Resources.space c.args.resources.now in
    let same = is_label c.args.tree.now.found.items c.loop-parent.at c.loop-parent.invariant.label c.index-in-Some.result.now c.loop-parent.invariant.here c.index-in-Some.ensures in
    let back = traced_back s c.requires.lawful c.args.tree.now.found.items c.args.tree.now.groups.items c.requires.tree c.loop-parent.at c.in-Some.parent (reverse c.loop-parent.order.items) c.loop-parent.invariant (the_parent c.loop-parent.invariant.label c.index.result.now c.in-Some.parent (is_label c.args.tree.now.found.items c.loop-parent.at c.loop-parent.invariant.label c.index.result.now c.loop-parent.invariant.here c.index.ensures) c.in-Some.is) in
    let pushed : c.push_customer.new.order.items ≡ (if is_customer s.network c.node-node.result then c.loop-parent.order.items ++ c.node-node.result ∷ [] else c.loop-parent.order.items) =
    subst (λ (k : Network). c.push_customer.new.order.items ≡ (if is_customer k c.node-node.result then c.loop-parent.order.items ++ c.node-node.result ∷ [] else c.loop-parent.order.items)) c.instance.ensures.same c.in_ok-push_customer.ensures in
    let items = turned s.network c.node-node.result c.loop-parent.order.items c.push_customer.new.order.items pushed in
    let node : with_node s.network c.node-node.result (reverse c.loop-parent.order.items) ≡ with_node s.network (s.node c.loop-parent.invariant.label.label) (reverse c.loop-parent.order.items) =
    ap (λ x. with_node s.network x (reverse c.loop-parent.order.items)) (c.node-node.ensures ∙ ap (λ (f : Found g.row.R-Label.Denot). s.node f.label) same) in
    subst (IsTraced s c.args.tree.now.found.items c.in-Some.parent) (sym (items ∙ node)) back

pub returns : goal.returns
returns g c =
    let s = g.R.Resources.space c.args.resources.now in
    let same = is_label c.args.tree.now.found.items c.loop-parent.at c.loop-parent.invariant.label c.index.result.now c.loop-parent.invariant.here c.index.ensures in
    let none = sym (ap (λ (f : Found g.row.R-Label.Denot). f.parent) same) ∙ c.in_default.is in
    let made = traced_start s c.requires.lawful c.args.tree.now.found.items c.args.tree.now.groups.items c.requires.tree c.loop-parent.at (reverse c.loop-parent.order.items) c.loop-parent.invariant none in
    subst s.has_route (sym c.reverse.ensures.items) made
