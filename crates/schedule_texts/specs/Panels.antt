-- The panels of routes.
use Rattle.std.specs.Prelude.{ℕ, ◌+◌, ◌*◌, ◌++◌, List, [], ◌∷◌, Option, None, Some, codes, decimal, nat_lt, if◌then◌else◌}
use Rattle.place_names.specs.declared.place.Place.{Place}
use Rattle.plan_schedule.specs.declared.schedule.RouteSchedule.{RouteSchedule}
use Rattle.schedule_texts.specs.Axes.{axis_text}
use Rattle.schedule_texts.specs.Clocks.{clock_text}
use Rattle.schedule_texts.specs.Decimals.{decimal_text}
use Rattle.schedule_texts.specs.Frames.{frame_text}
use Rattle.schedule_texts.specs.Latest.{latest_in}
use Rattle.schedule_texts.specs.LevelLines.{bends_text, line_text}
use Rattle.schedule_texts.specs.Names.{left_out, names_text, room_of}
use Rattle.schedule_texts.specs.Shapes.{stops_text}
use Rattle.schedule_texts.specs.declared.clock.Clock.{Clock}
use Rattle.schedule_texts.specs.declared.picture.scale.Scale.{Scale}

-- when the vehicle begins and ends by the clock, where there is one
unfoldable pub span_text : Option Clock → ℕ → RouteSchedule → List ℕ
span_text None denominator r = []
span_text (Some c) denominator r =
    codes ", from " ++ clock_text c denominator 0 ++ codes " to "
    ++ clock_text c denominator (latest_in 0 r.visits)

-- how many names are left out, where some are
abbrev pub left_out_text : ℕ → List ℕ
left_out_text count = if nat_lt 0 count then codes ", names left out " ++ decimal count else []

-- the heading of a route at a height
unfoldable pub heading_text : Scale → ℕ → RouteSchedule → List ℕ
heading_text scale y r =
    (codes "<text class='h' x='1200' y='" ++ decimal y) ++ (codes "'>route " ++ decimal r.number)
    ++ (codes ": stops " ++ decimal r.totals.stops) ++ codes ", time "
    ++ decimal_text scale.denominator r.totals.time
    ++ (codes ", energy charged " ++ decimal r.totals.energy_charged)
    ++ span_text scale.clock scale.denominator r
    ++ left_out_text (left_out scale r.visits) ++ codes "</text>\n"

-- what stands in the panel of a route
unfoldable pub panel_text : Scale → List Place → RouteSchedule → List ℕ
panel_text scale places r =
    axis_text scale ++ frame_text scale
    ++ names_text scale places (room_of scale r.visits) r.visits ++ line_text scale r.line
    ++ bends_text scale r.line ++ stops_text scale places 0 r.visits

-- where the panel with this number begins, from the top: its heading stands there, and the rest below the names
abbrev pub panel_top : Scale → ℕ → ℕ
panel_top scale at = at * (2800 + scale.rise) + 900

-- the panel with this number from above
unfoldable pub placed_text : Scale → List Place → ℕ → RouteSchedule → List ℕ
placed_text scale places at r =
    heading_text scale (panel_top scale at + 130) r
    ++ (codes "<g transform='translate(0," ++ decimal (panel_top scale at + scale.rise))
    ++ codes ")'>\n" ++ panel_text scale places r ++ codes "</g>\n"

-- panels, of which the first has this number
abbrev pub panels_text : Scale → List Place → ℕ → List RouteSchedule → List ℕ
panels_text scale places at [] = []
panels_text scale places at (r ∷ rs) =
    placed_text scale places at r ++ panels_text scale places (at + 1) rs
