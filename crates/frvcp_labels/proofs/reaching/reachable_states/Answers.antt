use Rattle.std.proofs.Common.{List, None, ℕ, arith}
use Rattle.std.proofs.lemmas.Grind.{common_steps}
use Rattle.ev_model.specs.Network.{Network}
use Rattle.std.proofs.lemmas.Result.{IfOk-weaker}
use Rattle.frvcp_labels.proofs.SearchLoops.{all_held, on_way_only}
use Rattle.frvcp_labels.proofs.StationSteps.{IfOk-both}
use Rattle.route_steps.proofs.WayHomePlans.{is_trip}
use Rattle.route_steps.specs.Trips.{Journey}
use Rattle.route_steps.specs.Ways.{begin}
use Rattle.frvcp_labels.proofs.reaching.reachable_states.Goals as goal

abbrev of : Network → List ℕ → ℕ → Journey
of g route start = record { network = g; route = route; start = start }

pub settle_all-requires-clause-spread : goal.settle_all-requires-clause-spread
settle_all-requires-clause-spread c = on_way_only (of c.args.inst.now c.args.route.now c.args.start) c.in_ok-pool.pool.labels (begin c.args.start) (c.in_ok-pool.ensures.spread None)

pub returns-clause-all : goal.returns-clause-all
returns-clause-all c =
    IfOk-weaker c.live_states.result _ _
    (λ states both. all_held (of c.args.inst.now c.args.route.now c.args.start) c.settle_all.new.pool.labels states.items (is_trip c.args.inst.now c.args.route.now c.station_nodes.ensures.network c.requires.route) c.in_ok-settle_all.ensures.pool.labels c.in_ok-settle_all.ensures.spread c.in_ok-settle_all.ensures.none both.0 both.1)
    (IfOk-both c.live_states.result _ _ c.live_states.ensures.held c.live_states.ensures.labels)

pub invariant_of-trip : goal.invariant_of-trip
invariant_of-trip = grind (arith, common_steps)

pub returns-clause-on_way : goal.returns-clause-on_way
returns-clause-on_way = grind (arith, common_steps)

pub returns-clause-network : goal.returns-clause-network
returns-clause-network = grind (arith, common_steps)

pub settle_all-requires-clause-full : goal.settle_all-requires-clause-full
settle_all-requires-clause-full = grind (arith, common_steps)

pub live_states-requires : goal.live_states-requires
live_states-requires = grind (arith, common_steps)
