use Rattle.std.proofs.Common.{◌≡◌, ◌∙◌, ◌<◌, ap, arith, length, subst}
use Rattle.std.specs.Prelude.{slice_index}
use Rattle.route_steps.specs.Stations.{stations}
use Rattle.route_steps.specs.Trips.{Journey}
use Rattle.frvcp_labels.proofs.MoreLabels.{grown_on, grown_same}
use Rattle.frvcp_labels.proofs.StationSteps.{goes_to_station, spread_to_stations, spreads_each, spreads_more, spreads_none, still_inside}
use Rattle.frvcp_labels.proofs.trip.Trip.go_to_stations.Goals as goal

pub loop-station-init : goal.loop-station-init
loop-station-init c = record {
  pool = c.requires.pool;
  full = c.requires.full;
  charged = c.requires.charged;
  grown = grown_same c.args.pool.now.labels;
  below = spreads_none c.args.self.now c.args.pool.now.labels c.args.pool.now.labels c.args.bar c.args.i c.args.passed;
}

pub go_to_station-requires-clause-from : goal.go_to_station-requires-clause-from
go_to_station-requires-clause-from c = still_inside c.args.pool.now.labels c.loop-station.pool.labels c.args.i c.loop-station.invariant.grown c.requires.from

pub go_to_station-requires-clause-next : goal.go_to_station-requires-clause-next
go_to_station-requires-clause-next c =
    goes_to_station c.args.self.now c.args.pool.now.labels c.loop-station.pool.labels c.args.i c.args.passed c.loop-station.invariant.grown
    (spread_to_stations c.args.self.now c.args.pool.now.labels c.args.i c.args.passed c.requires.from c.requires.on_way) c.loop-station.station-index _
    (subst (λ xs. c.loop-station.station-index < length xs) (c.self.invariant.are_stations ∙ ap (λ (j : Journey). stations j.network) c.self.view_is) c.loop-station-test.true)
    (ap (λ xs. slice_index xs c.loop-station.station-index) (c.self.invariant.are_stations ∙ ap (λ (j : Journey). stations j.network) c.self.view_is))

pub loop-station-preserved : goal.loop-station-preserved
loop-station-preserved c = record {
  pool = c.in_ok-go_to_station.ensures.pool;
  full = c.in_ok-go_to_station.ensures.full;
  charged = c.in_ok-go_to_station.ensures.charged;
  grown = grown_on c.args.pool.now.labels c.loop-station.pool.labels c.go_to_station.new.pool.labels c.loop-station.invariant.grown c.in_ok-go_to_station.ensures.grown;
  below = spreads_more c.args.self.now c.args.pool.now.labels c.loop-station.pool.labels c.go_to_station.new.pool.labels c.args.bar c.args.i c.args.passed c.loop-station.station-index _ c.loop-station.invariant.grown c.in_ok-go_to_station.ensures.grown
      (ap (λ xs. slice_index xs c.loop-station.station-index) (c.self.invariant.are_stations ∙ ap (λ (j : Journey). stations j.network) c.self.view_is))
      c.loop-station.invariant.below c.in_ok-go_to_station.ensures.spreads;
}

pub returns-clause-spreads : goal.returns-clause-spreads
returns-clause-spreads c =
    spreads_each c.args.self.now c.args.pool.now.labels c.loop-station.pool.labels c.args.bar c.args.i c.args.passed c.loop-station.station-index
    (spread_to_stations c.args.self.now c.args.pool.now.labels c.args.i c.args.passed c.requires.from c.requires.on_way) c.loop-station.invariant.below
    (let all : length c.self.inside.stations.now ≡ length (stations c.args.self.now.network) = ap length (c.self.invariant.are_stations ∙ ap (λ (j : Journey). stations j.network) c.self.view_is) in let last = c.loop-station-test.false in let most = c.loop-station.auto.station-index-end in omega (arith, all, last, most))
