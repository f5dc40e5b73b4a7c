use Rattle.std.proofs.Common.{◌≡◌, ◌∙◌, ◌-◌, ◌<◌, List, get_or, ℕ, ap, subst, sym, arith}
use Rattle.ev_model.specs.Network.{node_count}
use Rattle.level_table.specs.Stations.{stations}
use Rattle.level_table.specs.Journey.{Journey}
use Rattle.level_table.proofs.StationNodes.{station-known}
use Rattle.level_table.proofs.trip.Trip.node_at.Goals as goal

pub returns-else-slot-eq0-clause-known : goal.returns-else-slot-eq0-clause-known
returns-else-slot-eq0-clause-known c =
    let g = c.args.self.now.network in
    let same : c.self.inside.stations.now ≡ stations g = c.self.invariant.are_stations ∙ ap (λ (t : Journey). stations t.network) c.self.view_is in
    subst (λ (xs : List ℕ). get_or xs (c.args.slot - 1) 0 < node_count g) (sym same)
    (station-known g (c.args.slot - 1) (omega (arith, c.requires.slot)))
