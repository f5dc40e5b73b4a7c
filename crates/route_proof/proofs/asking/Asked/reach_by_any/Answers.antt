use Rattle.std.proofs.Common.{◌∙◌, ap, subst, arith}
use Rattle.std.proofs.lemmas.Grind.{common_steps}
use Rattle.ev_model.specs.Network.{Network, node_count}
use Rattle.route_proof.specs.Asking.{vehicle}
use Rattle.label_index.specs.Entries.{TellsTime}
use Rattle.route_proof.specs.Links.{key_of}
use Rattle.route_proof.proofs.EntryLooks.{left_first, left_nothing}
use Rattle.route_proof.proofs.asking.Asked.reach_by_any.Goals as goal

pub returns-clause-none : goal.returns-clause-none
returns-clause-none c =
    let q = c.args.self.now.judged.now in
    let p = c.args.self.now.place in
    let nodes = c.nodes.ensures.value ∙ ap (λ (g : Network). node_count g) c.instance.ensures.value in
    let key = c.key_of-key.ensures ∙ ap (λ n. key_of n c.args.self.now.place.passed c.args.self.now.place.node) nodes in
    let tells = subst (λ b. TellsTime c.entries-entries.result.now c.loop-entries.at c.key_of-key.result c.args.time b) c.loop-entries-test.false c.is_in_time.ensures in
    left_nothing (node_count q.journey.network) q.labels (vehicle p c.args.level c.args.time) c.key_of-key.result key c.entries-entries.result.now c.entries-entries.ensures
    c.first-begin.result c.loop-entries.at c.first-begin.ensures.behind tells c.loop-entries.invariant

pub first-begin-requires : goal.first-begin-requires
first-begin-requires = grind (arith, common_steps)

pub reach_by-requires-clause-known : goal.reach_by-requires-clause-known
reach_by-requires-clause-known = grind (arith, common_steps)

pub loop-entries-init : goal.loop-entries-init
loop-entries-init c =
    let q = c.args.self.now.judged.now in
    let p = c.args.self.now.place in
    let nodes = c.nodes.ensures.value ∙ ap (λ (g : Network). node_count g) c.instance.ensures.value in
    let key = c.key_of-key.ensures ∙ ap (λ n. key_of n c.args.self.now.place.passed c.args.self.now.place.node) nodes in
    left_first (node_count q.journey.network) q.labels (vehicle p c.args.level c.args.time) c.key_of-key.result key c.entries-entries.result.now c.entries-entries.ensures
    c.first-begin.result c.first-begin.ensures.within c.first-begin.ensures.before
