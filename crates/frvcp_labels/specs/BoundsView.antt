-- What `RouteBounds` are, by their fields.
use Rattle.std.specs.Prelude.{◌≡◌}
use Rattle.frvcp_labels.specs.Bounds.{AreWayCosts, lists_in}
use Rattle.frvcp_labels.specs.Rest.{IsRate}
use Rattle.route_steps.specs.Stations.{stations}
use Rattle.frvcp_labels.specs.declared.bounds.RouteBounds.TheInside.{Inside}

-- the nodes that have a curve, and the ways' costs without charging, and at a rate than which none
-- is faster
pub record AreBounds (b : Inside) : Type 0 where
  pub are_stations : b.stations.items ≡ stations b.inst.now
  pub none : b.by_time.rate ≡ 0
  pub by_time_are : AreWayCosts b.inst.now 0 (lists_in b.by_time.layers.items)
  pub is_rate : IsRate b.inst.now b.by_charge.rate
  pub by_charge_are : AreWayCosts b.inst.now b.by_charge.rate (lists_in b.by_charge.layers.items)
