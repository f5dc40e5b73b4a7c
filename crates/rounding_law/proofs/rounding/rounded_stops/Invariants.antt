use Rattle.std.proofs.Common.{◌≡◌, ◌<◌, ◌≤◌, ◌++◌, drop}
use Rattle.ev_model.specs.Levels.{KeepsBatteryFrom}
use Rattle.ev_model.specs.Network.{node_count}
use Rattle.ev_model.specs.Plan.{AreStopsFrom}
use Rattle.rounding_law.specs.Rounding.{rounded_from, rounded_plan}
use Rattle.rounding_law.proofs.rounding.rounded_stops.Given as goal

-- what was rounded and what is left make the whole plan
abbrev pub invariant-loop-at : goal.invariant-loop-at
invariant-loop-at l = record {
  from : l.from < node_count l.inst;
  some : 1 ≤ l.at;
  stops_left : AreStopsFrom l.inst l.from (drop l.at l.stops);
  kept : KeepsBatteryFrom l.inst l.p.k l.from l.level (drop l.at l.stops);
  told : l.whole.items ++ rounded_from l.inst l.p.k l.j l.from l.level (drop l.at l.stops) ≡ rounded_plan l.inst l.p.k l.j l.start l.stops;
}
