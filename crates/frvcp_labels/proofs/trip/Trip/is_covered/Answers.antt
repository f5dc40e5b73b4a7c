use Rattle.std.proofs.Common.{◌≡◌, ◌∙◌, ◌+◌, ◌*◌, subst, sym, true}
use Rattle.dominance.specs.Coverage.{does_cover}
use Rattle.ev_model.specs.Network.{node_count}
use Rattle.piece_fn.specs.PieceFn.{level_times}
use Rattle.route_steps.specs.Steps.{state_at}
use Rattle.route_steps.specs.declared.state.State.{State}
use Rattle.frvcp_labels.proofs.ChargedStates.{left_falls, lives_at}
use Rattle.frvcp_labels.proofs.MoreLabels.{covered_reached}
use Rattle.frvcp_labels.proofs.trip.Trip.is_covered.Goals as goal

pub returns-then-covers_whole : goal.returns-then-covers_whole
returns-then-covers_whole c _ v holds =
    let live = lives_at c.args.pool.now.labels (c.args.passed * node_count c.args.self.now.network + c.args.node) c.in-Some.i c.loop-at.at c.in-Some.is c.loop-at.invariant in
    let covers = subst (λ (s : State). does_cover (level_times s.value) (level_times c.args.value.now) 0 ≡ true) (c.value.ensures live.label live.here) (sym c.covers_whole.ensures ∙ c.if-covers_whole.true) in
    covered_reached c.args.self.now c.args.pool.now.labels (state_at c.args.passed c.args.node 0 c.args.value.now) v c.requires.pool.labels c.requires.node (record { by = c.in-Some.i; is = live; covered = covers }) holds

pub loop-at-smaller : goal.loop-at-smaller
loop-at-smaller c =
    let live = lives_at c.args.pool.now.labels (c.args.passed * node_count c.args.self.now.network + c.args.node) c.in-Some.i c.loop-at.at c.in-Some.is c.loop-at.invariant in
    left_falls c.args.pool.now.labels (c.args.passed * node_count c.args.self.now.network + c.args.node) c.in-Some.i c.loop-at.at c.next_live-at.result c.in-Some.is live (c.next_live-at.ensures (c.args.passed * node_count c.args.self.now.network + c.args.node) live)
