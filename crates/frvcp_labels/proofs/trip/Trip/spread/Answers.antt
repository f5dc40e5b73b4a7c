use Rattle.std.proofs.Common.{◌≡◌, ◌+◌, Some, arith, subst, sym}
use Rattle.std.specs.Prelude.{slice_get}
use Rattle.std.proofs.lemmas.Result.{IfOk-weaker}
use Rattle.label_pool.specs.declared.label.Label.{Label}
use Rattle.frvcp_labels.specs.Search.{SpreadsTo}
use Rattle.route_steps.specs.Steps.{MayGo}
use Rattle.route_steps.specs.declared.state.State.{State}
use Rattle.frvcp_labels.proofs.MoreLabels.{grown_on, grown_same}
use Rattle.frvcp_labels.proofs.StationSteps.{IfOk-both, goes_next, on_way, on_way_still, route_small, spread_from, spreads_whole, still_inside}
use Rattle.frvcp_labels.proofs.trip.Trip.spread.Goals as goal

pub overflow_add-passed : goal.overflow_add-passed
overflow_add-passed c =
    let small = route_small c.args.self.now c.args.pool.now c.requires.pool in
    let is = (spread_from c.args.self.now c.args.pool.now.labels c.args.i c.value.result.now c.requires.from c.requires.on_way c.value.ensures).is in
    let before = (spread_from c.args.self.now c.args.pool.now.labels c.args.i c.value.result.now c.requires.from c.requires.on_way c.value.ensures).before in
    omega (arith, small, is, before)

pub overflow_add-passed-2 : goal.overflow_add-passed-2
overflow_add-passed-2 c =
    let small = route_small c.args.self.now c.args.pool.now c.requires.pool in
    let is = (spread_from c.args.self.now c.args.pool.now.labels c.args.i c.value.result.now c.requires.from c.requires.on_way c.value.ensures).is in
    let before = (spread_from c.args.self.now c.args.pool.now.labels c.args.i c.value.result.now c.requires.from c.requires.on_way c.value.ensures).before in
    omega (arith, small, is, before)

pub node_at-requires : goal.node_at-requires
node_at-requires c =
    let is = (spread_from c.args.self.now c.args.pool.now.labels c.args.i c.value.result.now c.requires.from c.requires.on_way c.value.ensures).is in
    let before = (spread_from c.args.self.now c.args.pool.now.labels c.args.i c.value.result.now c.requires.from c.requires.on_way c.value.ensures).before in
    omega (arith, is, before)

pub go-requires-clause-next : goal.go-requires-clause-next
go-requires-clause-next c =
    subst (λ x. (label : Label State) → slice_get c.args.pool.now.labels c.args.i ≡ Some label → MayGo c.args.self.now.network c.args.self.now.route label.value.passed (c.value.result.now.passed + 1) x) (sym c.node_at.ensures)
    (goes_next c.args.self.now c.args.pool.now.labels c.args.pool.now.labels c.args.i c.value.result.now.passed (grown_same c.args.pool.now.labels) (spread_from c.args.self.now c.args.pool.now.labels c.args.i c.value.result.now c.requires.from c.requires.on_way c.value.ensures) c.requires.pool.trip)

pub go_to_stations-requires-clause-from : goal.go_to_stations-requires-clause-from
go_to_stations-requires-clause-from c = still_inside c.args.pool.now.labels c.go.new.pool.labels c.args.i c.in_ok-go.ensures.grown c.requires.from

pub go_to_stations-requires-clause-on_way : goal.go_to_stations-requires-clause-on_way
go_to_stations-requires-clause-on_way c =
    on_way c.args.self.now c.go.new.pool.labels c.args.i c.value.result.now.passed (on_way_still c.args.self.now c.args.pool.now.labels c.go.new.pool.labels c.args.i c.value.result.now.passed c.in_ok-go.ensures.grown (spread_from c.args.self.now c.args.pool.now.labels c.args.i c.value.result.now c.requires.from c.requires.on_way c.value.ensures))

pub returns-clause-grown : goal.returns-clause-grown
returns-clause-grown c =
    IfOk-weaker c.go_to_stations.result _ _ (λ u grown. grown_on c.args.pool.now.labels c.go.new.pool.labels c.go_to_stations.new.pool.labels c.in_ok-go.ensures.grown grown) c.go_to_stations.ensures.grown

pub returns-clause-spreads : goal.returns-clause-spreads
returns-clause-spreads c =
    IfOk-weaker c.go_to_stations.result _ _
    (λ u both. spreads_whole c.args.self.now c.args.pool.now.labels c.go.new.pool.labels c.go_to_stations.new.pool.labels c.args.bar c.args.i c.value.result.now.passed (spread_from c.args.self.now c.args.pool.now.labels c.args.i c.value.result.now c.requires.from c.requires.on_way c.value.ensures) c.in_ok-go.ensures.grown both.0
    (subst (λ x. (label : Label State) → slice_get c.args.pool.now.labels c.args.i ≡ Some label → SpreadsTo c.args.self.now c.go.new.pool.labels label.value (c.value.result.now.passed + 1) x) c.node_at.ensures c.in_ok-go.ensures.spreads) both.1)
    (IfOk-both c.go_to_stations.result _ _ c.go_to_stations.ensures.grown c.go_to_stations.ensures.spreads)
