-- Sums over visits and over routes.
use Rattle.std.specs.Prelude.{◌+◌, ◌*◌, ◌^◌, ◌<◌, ◌≤◌, List, [], ◌∷◌, map}
use Rattle.plan_schedule.specs.declared.schedule.RouteSchedule.{RouteSchedule}
use Rattle.plan_schedule.specs.declared.schedule.Totals.{Totals}
use Rattle.plan_schedule.specs.declared.schedule.Visit.{Visit}

abbrev pub nothing : Totals
nothing = record {
  driving = 0;
  serving = 0;
  plugging = 0;
  charging = 0;
  time = 0;
  energy_driven = 0;
  energy_charged = 0;
  stops = 0;
}

-- the sums of one visit
abbrev pub of_visit : Visit → Totals
of_visit v = record {
  driving = v.driving;
  serving = v.service;
  plugging = v.plugging;
  charging = v.charging;
  time = v.driving + v.service + v.plugging + v.charging;
  energy_driven = v.energy;
  energy_charged = v.charged;
  stops = 1;
}

abbrev pub plus : Totals → Totals → Totals
plus a b = record {
  driving = a.driving + b.driving;
  serving = a.serving + b.serving;
  plugging = a.plugging + b.plugging;
  charging = a.charging + b.charging;
  time = a.time + b.time;
  energy_driven = a.energy_driven + b.energy_driven;
  energy_charged = a.energy_charged + b.energy_charged;
  stops = a.stops + b.stops;
}

-- the sums of a list, behind others
abbrev pub summed : Totals → List Totals → Totals
summed sums [] = sums
summed sums (t ∷ ts) = summed (plus sums t) ts

abbrev pub route_totals : List Visit → Totals
route_totals visits = summed nothing (map of_visit visits)

abbrev pub plan_totals : List RouteSchedule → Totals
plan_totals routes = summed nothing (map (λ r. r.totals) routes)

-- the program holds them
pub record AreSmall (t : Totals) : Type 0 where
  pub driving : t.driving < 2 ^ 128
  pub serving : t.serving < 2 ^ 128
  pub plugging : t.plugging < 2 ^ 128
  pub charging : t.charging < 2 ^ 128
  pub time : t.time < 2 ^ 128
  pub energy_driven : t.energy_driven < 2 ^ 128
  pub energy_charged : t.energy_charged < 2 ^ 128
  pub stops : t.stops < 2 ^ 128

-- sums of a route that lasts no longer than is allowed, of at most 2^64 visits
pub record AreRouteSums (t : Totals) : Type 0 where
  pub driving : t.driving ≤ 10 ^ 18
  pub serving : t.serving ≤ 10 ^ 18
  pub plugging : t.plugging ≤ 10 ^ 18
  pub charging : t.charging ≤ 10 ^ 18
  pub time : t.time ≤ 10 ^ 18
  pub energy_driven : t.energy_driven ≤ 2 ^ 64 * 10 ^ 9
  pub energy_charged : t.energy_charged ≤ 2 ^ 64 * 10 ^ 9
  pub stops : t.stops ≤ 2 ^ 64
