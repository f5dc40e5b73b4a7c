-- What contracts see of a trip.
use Rattle.std.specs.Prelude.{◌≡◌, ℕ, List}
use Rattle.ev_model.specs.Network.{Network}
use Rattle.level_table.specs.Stations.{stations}
use Rattle.level_table.specs.Places.{IsTrip}
use Rattle.level_table.specs.declared.trip.Trip.TheInside.{Inside}

-- a network and a route on it
pub record Journey : Type 0 where
  pub network : Network
  pub route : List ℕ

abbrev pub journey : Inside → Journey
journey t = record { network = t.inst.now; route = t.route.now }

-- a route with a table that is small enough, and the nodes that have a curve
pub record IsSmallTrip (t : Inside) : Type 0 where
  pub trip : IsTrip t.inst.now t.route.now
  pub are_stations : t.stations.now ≡ stations t.inst.now
