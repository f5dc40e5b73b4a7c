-- What a `Trip` is, by its fields.
use Rattle.std.specs.Prelude.{◌≡◌, ◌≤◌}
use Rattle.frvcp_labels.specs.Rest.{IsRestBound}
use Rattle.route_steps.specs.Stations.{stations}
use Rattle.route_steps.specs.Trips.{IsTrip, Journey}
use Rattle.frvcp_labels.specs.declared.trip.Trip.TheInside.{Inside}

abbrev pub journey : Inside → Journey
journey t = record { network = t.inst.now; route = t.route.now; start = t.start }

pub record IsSoundTrip (t : Inside) : Type 0 where
  pub trip : IsTrip t.inst.now t.route.now
  pub are_stations : t.stations.now ≡ stations t.inst.now
  pub start : t.start ≤ t.inst.now.capacity
  pub rest : IsRestBound t.inst.now t.route.now t.rest.now.rate t.rest.now.least.items
