use Rattle.std.proofs.Common.{◌≡◌, ◌≤◌, ◌++◌, ◌∷◌, [], List, Option, None, Some, false, true, sym, subst, refl, arith}
use Rattle.std.specs.Option.{IsSome, IfSome}
use Rattle.ev_model.specs.Feasible.{IsFeasible}
use Rattle.ev_model.specs.Route.{FollowsRoute}
use Rattle.ev_model.specs.Time.{time_of}
use Rattle.ev_model.specs.declared.Stop.{Stop}
use Rattle.level_table.specs.Table.{entry_at}
use Rattle.level_table.specs.Places.{index_of}
use Rattle.level_table.specs.declared.offers.Offer.{Offer}
use Rattle.level_table.specs.declared.reach.Reach.{Reach}
use Rattle.level_table.proofs.TableSizes.{route-length}
use Rattle.level_table.proofs.Walked.{best-move, best-offer, feasible-plan, on-way, plan-time, rank-falls, walked-home, walked-on, walked-start, IsWalked}
use Rattle.level_table.proofs.trip.Trip.walk.Goals as goal

pub unwrap-offer-requires : goal.unwrap-offer-requires
unwrap-offer-requires c =
    let g = c.args.self.now.network in
    let route = c.args.self.now.route in
    let place = c.loop-place.place in
    let is = on-way g route c.args.start.level c.args.entries.now c.requires.table.trip c.requires.table place (omega (arith, c.loop-place-test.true)) c.loop-place.invariant.on_route in
    let found = best-move g route c.args.entries.now place c.loop-place.invariant.held.0 c.best.result c.requires.table.trip c.requires.table is
    c.loop-place.invariant.held.1 c.best.ensures.least in
    subst (λ (o : Option Offer). IsSome o) (sym found.1) refl

pub go_on-requires-clause-ends : goal.go_on-requires-clause-ends
go_on-requires-clause-ends c = route-length c.args.self.now.network c.args.self.now.route c.requires.table.trip.is_route

pub go_on-requires-clause-added : goal.go_on-requires-clause-added
go_on-requires-clause-added c =
    let is = on-way c.args.self.now.network c.args.self.now.route c.args.start.level c.args.entries.now c.requires.table.trip c.requires.table c.loop-place.place
    (omega (arith, c.loop-place-test.true)) c.loop-place.invariant.on_route in
    omega (arith, c.loop-place.invariant.added, is.level, c.requires.table.trip.network.small_capacity)

pub loop-place-smaller : goal.loop-place-smaller
loop-place-smaller c =
    let g = c.args.self.now.network in
    let route = c.args.self.now.route in
    let start = c.args.start.level in
    let entries = c.args.entries.now in
    let place = c.loop-place.place in
    let held = c.loop-place.invariant.held in
    let is = on-way g route start entries c.requires.table.trip c.requires.table place (omega (arith, c.loop-place-test.true)) c.loop-place.invariant.on_route in
    let best = best-offer g route start entries c.requires.table.trip c.requires.table place held.0 c.best.result c.unwrap-offer.result is held.1
    c.unwrap-offer.ensures c.best.ensures.some c.best.ensures.least in
    rank-falls g route start entries c.requires.table.trip c.requires.table place c.unwrap-offer.result held.0 best.0 held.1 best.1

pub loop-place-preserved : goal.loop-place-preserved
loop-place-preserved c =
    let g = c.args.self.now.network in
    let route = c.args.self.now.route in
    let start = c.args.start.level in
    let entries = c.args.entries.now in
    let place = c.loop-place.place in
    let held = c.loop-place.invariant.held in
    let is = on-way g route start entries c.requires.table.trip c.requires.table place (omega (arith, c.loop-place-test.true)) c.loop-place.invariant.on_route in
    let best = best-offer g route start entries c.requires.table.trip c.requires.table place held.0 c.best.result c.unwrap-offer.result is held.1
    c.unwrap-offer.ensures c.best.ensures.some c.best.ensures.least in
    walked-on g route start entries c.requires.table.trip c.requires.table place c.loop-place.stop c.in_ok-stop.stop c.loop-place.stops.items c.go_on.new.stops.items
    c.unwrap-offer.result held.0 is c.loop-place.invariant best.0 held.1 best.1 c.in_ok-stop.ensures.stop c.in_ok-stop.ensures.stops

pub returns-clause-feasible : goal.returns-clause-feasible
returns-clause-feasible c =
    let g = c.args.self.now.network in
    let route = c.args.self.now.route in
    let start = c.args.start.level in
    let entries = c.args.entries.now in
    let done = walked-home g route start entries c.requires.table.trip c.requires.table c.loop-place.place c.loop-place.stop c.loop-place.stops.items
    (omega (arith, c.loop-place-test.false)) c.loop-place.invariant in
    subst (λ (plan : List Stop). IsFeasible g 1 start plan) (sym c.in_ok-push.ensures.items)
    (feasible-plan g route start entries c.requires.table.trip c.requires.table c.args.start (entry_at entries (index_of g c.args.start))
    (c.loop-place.stops.items ++ c.loop-place.stop ∷ []) c.requires.start refl c.requires.reached done.0 done.1)

pub returns-clause-follows : goal.returns-clause-follows
returns-clause-follows c =
    let g = c.args.self.now.network in
    let route = c.args.self.now.route in
    let start = c.args.start.level in
    let entries = c.args.entries.now in
    let done = walked-home g route start entries c.requires.table.trip c.requires.table c.loop-place.place c.loop-place.stop c.loop-place.stops.items
    (omega (arith, c.loop-place-test.false)) c.loop-place.invariant in
    subst (λ (plan : List Stop). FollowsRoute route plan) (sym c.in_ok-push.ensures.items) done.0.follows

pub returns-clause-time : goal.returns-clause-time
returns-clause-time c =
    let g = c.args.self.now.network in
    let route = c.args.self.now.route in
    let start = c.args.start.level in
    let entries = c.args.entries.now in
    let done = walked-home g route start entries c.requires.table.trip c.requires.table c.loop-place.place c.loop-place.stop c.loop-place.stops.items
    (omega (arith, c.loop-place-test.false)) c.loop-place.invariant in
    subst (λ (plan : List Stop). IfSome (entry_at entries (index_of g c.args.start)) (λ r. time_of g 1 start plan ≤ r.time)) (sym c.in_ok-push.ensures.items)
    (plan-time g route start entries c.requires.table.trip c.requires.table c.args.start (entry_at entries (index_of g c.args.start))
    (time_of g 1 start (c.loop-place.stops.items ++ c.loop-place.stop ∷ [])) c.requires.start refl done.1)

some_reach : (o : Option Reach) → IsSome o → (r : Reach) × (o ≡ Some r)
some_reach None some = let both : false ≡ true = some in cc
some_reach (Some r) some = (r, refl)

pub loop-place-init : goal.loop-place-init
loop-place-init c =
    let g = c.args.self.now.network in
    let route = c.args.self.now.route in
    let entries = c.args.entries.now in
    let held = some_reach (entry_at entries (index_of g c.args.start)) c.requires.reached in
    subst (λ (stops : List Stop). IsWalked g route c.args.start.level entries c.args.start (record { node = 0; added = 0; via = false }) stops) (sym c.new-stops.ensures.items)
    (walked-start g route c.args.start.level entries c.requires.table.trip c.requires.table c.args.start held.0 c.requires.start c.requires.level held.1)
