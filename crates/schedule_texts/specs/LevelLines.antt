-- The line that a level follows: it goes straight through the points of its corners.
use Rattle.std.specs.Prelude.{ℕ, ◌++◌, List, [], codes, decimal, if◌then◌else◌}
use Rattle.ev_text.specs.Texts.{joined_texts}
use Rattle.plan_schedule.specs.declared.schedule.Corner.{Corner}
use Rattle.schedule_texts.specs.Scales.{x_at, y_at}
use Rattle.schedule_texts.specs.declared.picture.scale.Scale.{Scale}

-- the point of a corner
abbrev pub point_text : Scale → Corner → List ℕ
point_text scale c =
    decimal (x_at scale c.time) ++ codes "," ++ decimal (y_at scale c.level) ++ codes " "

unfoldable pub line_text : Scale → List Corner → List ℕ
line_text scale line =
    codes "<polyline class='l' points='" ++ joined_texts (point_text scale) line ++ codes "'/>\n"

-- a small ring at a point
unfoldable pub ring_at : ℕ → ℕ → List ℕ
ring_at x y =
    (codes "<circle class='b' cx='" ++ decimal x) ++ (codes "' cy='" ++ decimal y)
    ++ codes "' r='26'/>\n"

-- at a corner
abbrev pub ring_text : Scale → Corner → List ℕ
ring_text scale c = ring_at (x_at scale c.time) (y_at scale c.level)

-- a ring at a breakpoint of a curve
abbrev pub bend_text : Scale → Corner → List ℕ
bend_text scale c = if c.bend then ring_text scale c else []

abbrev pub bends_text : Scale → List Corner → List ℕ
bends_text scale line = joined_texts (bend_text scale) line
