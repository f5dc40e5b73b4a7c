use Rattle.std.proofs.Common.{◌<◌, ◌+◌, ◌^◌, ◌*◌, subst, arith}
use Rattle.std.proofs.lemmas.Grind.{common_steps}
use Rattle.ev_model.specs.Network.{scaled_limit}
use Rattle.level_table.specs.Table.{IsNoFarther, IsOffer, entry_at, rank_at}
use Rattle.level_table.specs.Places.{index_of, place_of}
use Rattle.level_table.specs.Reach.{rank}
use Rattle.level_table.specs.declared.moves.Move.{Move}
use Rattle.level_table.specs.declared.place.Place.{Place}
use Rattle.level_table.proofs.TableSizes.{better-table, closed-none, few-steps, nearer-rank}
use Rattle.level_table.proofs.trip.Trip.improve.Goals as goal

pub returns-in_default-clause-closed : goal.returns-in_default-clause-closed
returns-in_default-clause-closed c = λ unchanged.
    let g = c.args.self.now.network in
    let route = c.args.self.now.route in
    let entries = c.args.entries.now in
    closed-none g route entries c.args.index c.requires.table.trip c.requires.table
    (subst (λ (p : Place). (step : Move) → IsNoFarther g route entries p step ((scaled_limit g + 1) * 2 ^ 32)) c.place_of.ensures.value c.in_default.ensures.least)

pub returns-clause-table : goal.returns-clause-table
returns-clause-table c =
    let g = c.args.self.now.network in
    let route = c.args.self.now.route in
    let entries = c.args.entries.now in
    let index = c.args.index in
    let offer = c.in-Some.offer in
    let is_offer : IsOffer g route entries (place_of g index) offer =
    subst (λ (p : Place). IsOffer g route entries p offer) c.place_of.ensures.value c.in-Some.ensures.some in
    let steps = few-steps g route entries (index_of g offer.to) is_offer.rest.0 c.requires.table.trip c.requires.table is_offer.rest.1 in
    let nearer : rank offer.reach < rank_at g entries index =
    nearer-rank (scaled_limit g) offer.reach (entry_at entries index) is_offer.in_time (omega (arith, steps, is_offer.rest.3)) c.if-not-is_nearer.ensures in
    better-table g route entries index offer c.requires.table.trip c.requires.table c.requires.cell is_offer nearer

pub returns-clause-changed : goal.returns-clause-changed
returns-clause-changed = grind (arith, common_steps)

pub returns-clause-closed : goal.returns-clause-closed
returns-clause-closed = grind (arith, common_steps)
