-- The routes of a schedule as lines between their places, in SVG. Lengths are in tenths of a pixel.
use Rattle.std.specs.Prelude.{◌==◌, ℕ, ◌+◌, ◌-◌, ◌*◌, ◌/◌, ◌%◌, ◌^◌, ◌<◌, ◌≤◌, ◌++◌, List, [], ◌∷◌, Option, None, Some, codes, decimal, length, max, min, nat_lt, slice_get, if◌then◌else◌}
use Rattle.ev_text.specs.Texts.{joined_texts}
use Rattle.place_names.specs.declared.place.Place.{Place}
use Rattle.place_names.specs.declared.place.Point.{Point}
use Rattle.plan_schedule.specs.declared.schedule.PlaceKind.{PlaceKind}
use Rattle.plan_schedule.specs.declared.schedule.PlaceKind.TheVariants.{Depot, Customer, Station}
use Rattle.plan_schedule.specs.declared.schedule.RouteSchedule.{RouteSchedule}
use Rattle.plan_schedule.specs.declared.schedule.Schedule.{Schedule}
use Rattle.plan_schedule.specs.declared.schedule.Visit.{Visit}
use Rattle.schedule_texts.specs.Decimals.{decimal_text}
use Rattle.schedule_texts.specs.Labels.{shortened, xml_text}
use Rattle.schedule_texts.specs.Pictures.{size_text}
use Rattle.schedule_texts.specs.Shapes.{place_text}
use Rattle.schedule_texts.specs.declared.map.scale.Bounds.{Bounds}
use Rattle.schedule_texts.specs.declared.map.scale.MapScale.{MapScale}
use Rattle.schedule_texts.specs.declared.map.scale.Spot.{Spot}

-- ---- where places stand

-- bounds that hold a point as well
abbrev pub widened : Bounds → Option Point → Bounds
widened b None = b
widened b (Some p) = record {
  left = min b.left p.x;
  right = max b.right p.x;
  bottom = min b.bottom p.y;
  top = max b.top p.y;
}

-- bounds that hold the points of places as well
abbrev pub bounds_with : Bounds → List Place → Bounds
bounds_with b [] = b
bounds_with b (p ∷ ps) = bounds_with (widened b p.point) ps

-- of no point
abbrev pub no_bounds : Bounds
no_bounds = record { left = 2 ^ 64 - 1; right = 0; bottom = 2 ^ 64 - 1; top = 0 }

-- the greater one of how wide and how high they are
abbrev pub span_of : Bounds → ℕ
span_of b = max (max (b.right - b.left) (b.top - b.bottom)) 1

-- a map of so many places is 1000 to 4000 pixels wide or high, below its rows
abbrev pub scale_by : Bounds → ℕ → ℕ → MapScale
scale_by b places rows = record {
  left = b.left;
  top = b.top;
  span = span_of b;
  side = 200 * min (max places 50) 200;
  head = 1300 + 220 * rows;
  across = (b.right - b.left) * (200 * min (max places 50) 200) / span_of b;
  down = (b.top - b.bottom) * (200 * min (max places 50) 200) / span_of b;
}

abbrev pub map_scale : List Place → ℕ → MapScale
map_scale places rows = scale_by (bounds_with no_bounds places) (length places) rows

-- where a point stands
abbrev pub spot_at : MapScale → Point → Spot
spot_at m p = record {
  x = 800 + (p.x - m.left) * m.side / m.span;
  y = m.head + (m.top - p.y) * m.side / m.span;
}

abbrev pub spot_by : MapScale → Option Point → Option Spot
spot_by m None = None
spot_by m (Some p) = Some (spot_at m p)

-- where a place is
abbrev pub point_in : Option Place → Option Point
point_in None = None
point_in (Some p) = p.point

-- where a node stands
abbrev pub spot_of : MapScale → List Place → ℕ → Option Spot
spot_of m places node = spot_by m (point_in (slice_get places node))

-- ---- vehicles

-- the colour of a vehicle, by its number: one of eight
abbrev pub colour_at : ℕ → List ℕ
colour_at n =
    if n == 0 then codes "#0b5394"
    else if n == 1 then codes "#b45f06"
    else if n == 2 then codes "#38761d"
    else if n == 3 then codes "#990000"
    else if n == 4 then codes "#674ea7"
    else if n == 5 then codes "#134f5c"
    else if n == 6 then codes "#7f6000"
    else codes "#a64d79"

abbrev pub colour_of : ℕ → List ℕ
colour_of number = colour_at (number % 8)

-- its sign at a place: its number in a disc of its colour
unfoldable pub disc_text : ℕ → ℕ → ℕ → List ℕ
disc_text number x y =
    codes "<circle fill='" ++ colour_of number ++ (codes "' cx='" ++ decimal x)
    ++ (codes "' cy='" ++ decimal y) ++ (codes "' r='85'/><text class='q' x='" ++ decimal x)
    ++ (codes "' y='" ++ decimal (y + 38)) ++ (codes "'>" ++ decimal number)
    ++ codes "</text>"

-- where it charges: its number in a square
unfoldable pub charge_text : ℕ → ℕ → ℕ → List ℕ
charge_text number x y =
    codes "<path class='s' stroke='" ++ colour_of number ++ (codes "' d='M" ++ decimal x)
    ++ (codes " " ++ decimal y) ++ (codes "m-95 -95h190v190h-190z'/><text class='t' x='" ++ decimal x)
    ++ (codes "' y='" ++ decimal (y + 38)) ++ (codes "'>" ++ decimal number)
    ++ codes "</text>"

-- at a station where it doesn't: a ring
unfoldable pub ring_text : ℕ → ℕ → ℕ → List ℕ
ring_text number x y =
    codes "<circle class='o' stroke='" ++ colour_of number ++ (codes "' cx='" ++ decimal x)
    ++ (codes "' cy='" ++ decimal y) ++ codes "' r='60'/>"

-- by what a node is, and what is charged there; the depot has a mark of its own
abbrev pub sign_by : PlaceKind → ℕ → ℕ → ℕ → ℕ → List ℕ
sign_by Depot charged number x y = []
sign_by Customer charged number x y = disc_text number x y
sign_by Station charged number x y =
    if nat_lt 0 charged then charge_text number x y else ring_text number x y

-- what a pointer at it is told
unfoldable pub told_text : List Place → ℕ → ℕ → Visit → List ℕ
told_text places number at v =
    (codes "<g><title>route " ++ decimal number) ++ (codes ", stop " ++ decimal at)
    ++ place_text places v ++ (codes ", charged " ++ decimal v.charged) ++ codes "</title>"

abbrev pub sign_text : List Place → ℕ → ℕ → Visit → Option Spot → List ℕ
sign_text places number at v None = []
sign_text places number at v (Some s) =
    told_text places number at v ++ sign_by v.kind v.charged number s.x s.y ++ codes "</g>\n"

-- the signs of a vehicle at visits, of which the first has this position
abbrev pub signs_text : MapScale → List Place → ℕ → ℕ → List Visit → List ℕ
signs_text m places number at [] = []
signs_text m places number at (v ∷ vs) =
    sign_text places number at v (spot_of m places v.node)
    ++ signs_text m places number (at + 1) vs

abbrev pub route_signs : MapScale → List Place → RouteSchedule → List ℕ
route_signs m places r = signs_text m places r.number 0 r.visits

-- a corner of its line
abbrev pub point_text : ℕ → ℕ → List ℕ
point_text x y = decimal x ++ codes "," ++ decimal y ++ codes " "

abbrev pub corner_text : Option Spot → List ℕ
corner_text None = []
corner_text (Some s) = point_text s.x s.y

abbrev pub visit_corner : MapScale → List Place → Visit → List ℕ
visit_corner m places v = corner_text (spot_of m places v.node)

-- its line
unfoldable pub route_line : MapScale → List Place → RouteSchedule → List ℕ
route_line m places r =
    codes "<polyline class='w' stroke='" ++ colour_of r.number ++ codes "' points='"
    ++ joined_texts (visit_corner m places) r.visits ++ codes "'/>\n"

-- its row above the map: its sign, and what it does
unfoldable pub row_text : ℕ → ℕ → RouteSchedule → List ℕ
row_text denominator y r =
    codes "<path class='w' stroke='" ++ colour_of r.number ++ (codes "' d='M800 " ++ decimal y)
    ++ codes "h500'/>" ++ disc_text r.number 1050 y
    ++ (codes "<text x='1450' y='" ++ decimal (y + 40)) ++ (codes "'>route " ++ decimal r.number)
    ++ (codes ": stops " ++ decimal r.totals.stops) ++ codes ", time "
    ++ decimal_text denominator r.totals.time
    ++ (codes ", energy charged " ++ decimal r.totals.energy_charged) ++ codes "</text>\n"

-- rows, of which the first has this number
abbrev pub rows_text : ℕ → ℕ → List RouteSchedule → List ℕ
rows_text denominator at [] = []
rows_text denominator at (r ∷ rs) =
    row_text denominator (700 + 220 * at) r ++ rows_text denominator (at + 1) rs

-- ---- places

-- a place and its name
unfoldable pub named_spot : List ℕ → ℕ → ℕ → List ℕ
named_spot name x y =
    (codes "<circle class='u' cx='" ++ decimal x) ++ (codes "' cy='" ++ decimal y)
    ++ (codes "' r='35'/><text class='m' x='" ++ decimal (x + 130))
    ++ (codes "' y='" ++ decimal (y - 60)) ++ codes "'>" ++ name ++ codes "</text>\n"

abbrev pub name_at_spot : List ℕ → Option Spot → List ℕ
name_at_spot name None = []
name_at_spot name (Some s) = named_spot (xml_text (shortened name)) s.x s.y

abbrev pub place_mark : MapScale → Place → List ℕ
place_mark m p = name_at_spot p.name (spot_by m p.point)

-- the depot
unfoldable pub depot_at : ℕ → ℕ → List ℕ
depot_at x y =
    (codes "<path class='d' d='M" ++ decimal x) ++ (codes " " ++ decimal y)
    ++ codes "m0 -110l110 110l-110 110l-110 -110z'/>\n"

abbrev pub depot_mark : Option Spot → List ℕ
depot_mark None = []
depot_mark (Some s) = depot_at s.x s.y

-- ---- the page

-- the colours and the type, the title, and what the marks are
unfoldable pub map_style : List ℕ
map_style =
    codes "<style>text{font-family:Helvetica,Arial,sans-serif;font-size:120px;fill:#222222}"
    ++ codes ".k{font-size:180px;font-weight:bold}.m{font-size:110px;paint-order:stroke;stroke:#ffffff;stroke-width:24}"
    ++ codes ".w{fill:none;stroke-width:30;stroke-linejoin:round;stroke-opacity:0.75}"
    ++ codes ".q{font-size:110px;font-weight:bold;fill:#ffffff;text-anchor:middle}"
    ++ codes ".t{font-size:110px;font-weight:bold;text-anchor:middle}"
    ++ codes ".s{fill:#e69f00;stroke-width:26}.o{fill:#ffffff;stroke-width:26}"
    ++ codes ".u{fill:#9a9a9a}.d{fill:#222222;stroke:#ffffff;stroke-width:20}</style>\n"
    ++ codes "<rect width='100%' height='100%' fill='#ffffff'/>\n"
    ++ codes "<text class='k' x='800' y='320'>Routes</text>\n"
    ++ codes "<path class='d' d='M1870 150l110 110l-110 110l-110 -110z'/>"
    ++ codes "<text x='2050' y='300'>depot</text>"
    ++ codes "<path class='s' stroke='#222222' d='M2705 165h190v190h-190z'/>"
    ++ codes "<text x='2960' y='300'>a vehicle charges</text>\n"

unfoldable pub page_text : MapScale → ℕ → List Place → List RouteSchedule → List ℕ
page_text m denominator places routes =
    size_text (max m.across 7000 + 3500) (m.head + m.down + 700) ++ map_style
    ++ rows_text denominator 0 routes ++ joined_texts (route_line m places) routes
    ++ joined_texts (place_mark m) places ++ joined_texts (route_signs m places) routes
    ++ depot_mark (spot_of m places 0) ++ codes "</svg>\n"

-- without a plan the places stand alone
abbrev pub map_text : List Place → Option Schedule → List ℕ
map_text places None = page_text (map_scale places 0) 1 places []
map_text places (Some s) =
    page_text (map_scale places (length s.routes)) s.denominator places s.routes

-- the program holds the numbers of a scale, and those of a spot
pub record IsMapScale (m : MapScale) : Type 0 where
  pub some : 1 ≤ m.span
  pub side : m.side ≤ 40000
  pub head : m.head < 2 ^ 80
  pub across : m.across < 2 ^ 80
  pub down : m.down < 2 ^ 80

pub record IsSpot (s : Spot) : Type 0 where
  pub x : s.x < 2 ^ 81
  pub y : s.y < 2 ^ 81
