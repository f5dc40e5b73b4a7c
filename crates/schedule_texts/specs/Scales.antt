-- Where times and levels stand in a panel. Lengths are in tenths of a pixel.
use Rattle.std.specs.Prelude.{ℕ, ◌+◌, ◌-◌, ◌*◌, ◌/◌, ◌≤◌, ◌^◌, List, [], ◌∷◌, Option, None, Some, length, max, min, nat_lt, if◌then◌else◌}
use Rattle.place_names.specs.declared.place.Place.{Place}
use Rattle.plan_schedule.specs.declared.schedule.RouteSchedule.{RouteSchedule}
use Rattle.plan_schedule.specs.declared.schedule.Schedule.{Schedule}
use Rattle.schedule_texts.specs.Clocks.{AreClocks}
use Rattle.schedule_texts.specs.Labels.{widest}
use Rattle.schedule_texts.specs.Latest.{latest_of}
use Rattle.schedule_texts.specs.declared.clock.Clock.{Clock}
use Rattle.schedule_texts.specs.declared.picture.scale.Scale.{Scale}

-- the most stops of a route
abbrev pub most_stops : ℕ → List RouteSchedule → ℕ
most_stops most [] = most
most_stops most (r ∷ rs) = most_stops (max most (length r.visits)) rs

-- the limit is drawn where the last vehicle comes home after four fifths of it
abbrev pub near_limit : ℕ → ℕ → Option ℕ
near_limit latest limit = if nat_lt (5 * latest) (4 * limit) then None else Some limit

-- the time at the right end: that of the last vehicle, or the limit where it is drawn
abbrev pub end_with : ℕ → Option ℕ → ℕ
end_with latest None = latest
end_with latest (Some limit) = max latest limit

-- how much higher panels are for names of more than five characters, of which 24 are shown at most
abbrev pub rise_of : List Place → ℕ
rise_of places = 52 * (min (widest 5 places) 24 - 5)

-- a picture is as wide as the most stops of a route ask for, from 800 to 5200 pixels; all panels have the same times
abbrev pub scale_of : Option Clock → List Place → Schedule → Scale
scale_of clock places s = record {
  width = 200 * min (max (most_stops 0 s.routes) 40) 260;
  latest = end_with (latest_of 0 s.routes) (near_limit (latest_of 0 s.routes) s.limit);
  full = s.full;
  reserve = s.reserve;
  home = s.home;
  limit = near_limit (latest_of 0 s.routes) s.limit;
  denominator = s.denominator;
  clock = clock;
  rise = rise_of places;
}

-- the numbers of a scale are those of an instance and of a clock
pub record IsScale (scale : Scale) : Type 0 where
  pub wide : 8000 ≤ scale.width
  pub narrow : scale.width ≤ 52000
  pub low : scale.rise ≤ 1000
  pub some_denominator : 1 ≤ scale.denominator
  pub small_denominator : scale.denominator ≤ 10 ^ 9
  pub clock : AreClocks scale.clock

-- where a scaled time stands, from the left: the latest at the right end
abbrev pub x_at : Scale → ℕ → ℕ
x_at scale time = 1200 + time * scale.width / max scale.latest 1

-- where a time in hundredths of a unit stands, scaled or not: nothing but its place is rounded
abbrev pub mark_at : Scale → ℕ → ℕ
mark_at scale hundredths =
    1200 + hundredths * scale.denominator * scale.width / (100 * max scale.latest 1)

-- where a level stands, from the top of the panel: a full battery at the top of its axis, an empty one at its bottom
abbrev pub y_at : Scale → ℕ → ℕ
y_at scale level = 2200 - level * 1600 / max scale.full 1
