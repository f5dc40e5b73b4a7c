use Rattle.std.proofs.Common.{◌≡◌, ◌+◌, ◌*◌, ◌<◌, subst, true, false}
use Rattle.std.specs.List.{All}
use Rattle.ev_model.specs.Network.{node_count}
use Rattle.closed_lists.specs.Asking.{Asking}
use Rattle.closed_lists.specs.Links.{AreEntries}
use Rattle.label_index.specs.Entries.{TellsTime}
use Rattle.closed_lists.specs.Sections.{IsLabelOf}
use Rattle.closed_lists.specs.Targets.{state_of}
use Rattle.closed_lists.proofs.CoveredStates.{IsCandidate, candidate, left_first, left_next, left_nothing}
use Rattle.closed_lists.proofs.coverage.Asked.reach_any.Goals as goal

the_candidate : (c : goal.After-index-entries-at) → IsCandidate c.args.self.now.question c.args.self.now.target.last c.args.self.now.target.node c.index-entries-at.result
the_candidate c =
    let all = subst (λ (a : Asking). All (IsLabelOf a.question.network) a.question.labels) c.self.view_is c.entries-entries.ensures.labels in
    let are = subst (λ (a : Asking). AreEntries (node_count a.question.network) a.question.prices a.question.labels c.entries-entries.result.now) c.self.view_is c.entries-entries.ensures.are in
    let key = subst (λ (a : Asking). c.self.inside.key ≡ a.target.last * node_count a.question.network + a.target.node) c.self.view_is c.self.invariant.key in
    let node = subst (λ (a : Asking). a.target.node < node_count a.question.network) c.self.view_is c.self.invariant.node in
    let tells : TellsTime c.entries-entries.result.now c.loop-entries.at c.self.inside.key c.args.time true = subst (λ b. TellsTime c.entries-entries.result.now c.loop-entries.at c.self.inside.key c.args.time b) c.loop-entries-test.true c.is_in_time.ensures in
    candidate c.args.self.now.question c.args.self.now.target.last c.args.self.now.target.node c.self.inside.key c.loop-entries.at c.args.time c.entries-entries.result.now c.index-entries-at.result all are key node tells c.index-entries-at.is

pub reach_of-requires-clause-entry : goal.reach_of-requires-clause-entry
reach_of-requires-clause-entry c = (the_candidate c).known

pub reach_of-requires-clause-last : goal.reach_of-requires-clause-last
reach_of-requires-clause-last c d = ((the_candidate c).at d).0

pub reach_of-requires-clause-node : goal.reach_of-requires-clause-node
reach_of-requires-clause-node c d = ((the_candidate c).at d).1

pub reach_of-requires-clause-own : goal.reach_of-requires-clause-own
reach_of-requires-clause-own c = (the_candidate c).small

pub loop-entries-init : goal.loop-entries-init
loop-entries-init c =
    let are = subst (λ (a : Asking). AreEntries (node_count a.question.network) a.question.prices a.question.labels c.entries-entries.result.now) c.self.view_is c.entries-entries.ensures.are in
    let key = subst (λ (a : Asking). c.self.inside.key ≡ a.target.last * node_count a.question.network + a.target.node) c.self.view_is c.self.invariant.key in
    left_first c.args.self.now.question (node_count c.args.self.now.question.network) (state_of c.args.self.now.target c.args.value.now c.args.level) c.entries-entries.result.now are c.self.inside.key key
    c.first-begin.result c.first-begin.ensures.within c.first-begin.ensures.before

pub loop-entries-preserved : goal.loop-entries-preserved
loop-entries-preserved c =
    let are = subst (λ (a : Asking). AreEntries (node_count a.question.network) a.question.prices a.question.labels c.entries-entries.result.now) c.self.view_is c.entries-entries.ensures.are in
    let key = subst (λ (a : Asking). c.self.inside.key ≡ a.target.last * node_count a.question.network + a.target.node) c.self.view_is c.self.invariant.key in
    let tells : TellsTime c.entries-entries.result.now c.loop-entries.at c.self.inside.key c.args.time true = subst (λ b. TellsTime c.entries-entries.result.now c.loop-entries.at c.self.inside.key c.args.time b) c.loop-entries-test.true c.is_in_time.ensures in
    left_next c.args.self.now.question (node_count c.args.self.now.question.network) (state_of c.args.self.now.target c.args.value.now c.args.level) c.entries-entries.result.now are c.self.inside.key key
    c.first-begin.result c.loop-entries.at c.index-entries-at.result tells.0 c.index-entries-at.is c.in-None.ensures.none c.loop-entries.invariant

pub returns-clause-none : goal.returns-clause-none
returns-clause-none c =
    let are = subst (λ (a : Asking). AreEntries (node_count a.question.network) a.question.prices a.question.labels c.entries-entries.result.now) c.self.view_is c.entries-entries.ensures.are in
    let key = subst (λ (a : Asking). c.self.inside.key ≡ a.target.last * node_count a.question.network + a.target.node) c.self.view_is c.self.invariant.key in
    let tells : TellsTime c.entries-entries.result.now c.loop-entries.at c.self.inside.key c.args.time false = subst (λ b. TellsTime c.entries-entries.result.now c.loop-entries.at c.self.inside.key c.args.time b) c.loop-entries-test.false c.is_in_time.ensures in
    let timed = subst (λ t. TellsTime c.entries-entries.result.now c.loop-entries.at c.self.inside.key t false) c.requires.time tells in
    left_nothing c.args.self.now.question (node_count c.args.self.now.question.network) (state_of c.args.self.now.target c.args.value.now c.args.level) c.entries-entries.result.now are c.self.inside.key key
    c.first-begin.result c.loop-entries.at c.first-begin.ensures.behind timed c.loop-entries.invariant
