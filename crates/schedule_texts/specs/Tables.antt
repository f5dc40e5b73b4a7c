-- The schedule as a table.
use Rattle.std.specs.Prelude.{ℕ, ◌+◌, ◌++◌, ◌≤◌, ◌^◌, Bool, List, [], ◌∷◌, Option, None, Some, codes, decimal, length, max, nat_lt, if◌then◌else◌}
use Rattle.ev_text.specs.Texts.{joined_texts}
use Rattle.report_lines.specs.Lines.{number_line}
use Rattle.place_names.specs.Places.{name_at}
use Rattle.place_names.specs.declared.place.Place.{Place}
use Rattle.plan_schedule.specs.declared.schedule.PlaceKind.{PlaceKind}
use Rattle.plan_schedule.specs.declared.schedule.PlaceKind.TheVariants.{Depot, Customer, Station}
use Rattle.plan_schedule.specs.declared.schedule.RouteSchedule.{RouteSchedule}
use Rattle.plan_schedule.specs.declared.schedule.Schedule.{Schedule}
use Rattle.plan_schedule.specs.declared.schedule.Totals.{Totals}
use Rattle.plan_schedule.specs.declared.schedule.Visit.{Visit}
use Rattle.schedule_texts.specs.Clocks.{AreClocks, moment_text}
use Rattle.schedule_texts.specs.Decimals.{cell, left_cell, time_text}
use Rattle.schedule_texts.specs.Labels.{widest}
use Rattle.schedule_texts.specs.Latest.{latest_of}
use Rattle.schedule_texts.specs.declared.clock.Clock.{Clock}
use Rattle.schedule_texts.specs.declared.table.Columns.{Columns}

-- how wide the latest time is, as a time and as a moment
abbrev pub latest_width : Bool → Option Clock → ℕ → ℕ → ℕ
latest_width exact clock denominator latest =
    max (length (time_text exact denominator latest))
    (length (moment_text clock exact denominator latest))

-- how wide the column of names is: four places at least, and none where there are no names
abbrev pub names_width : List Place → ℕ
names_width [] = 0
names_width (p ∷ ps) = widest 4 (p ∷ ps)

-- columns of times are as wide as the latest time and nine places at least, those of levels as a full battery and five
abbrev pub columns_of : Bool → Option Clock → List Place → Schedule → Columns
columns_of exact clock places s = record {
  exact = exact;
  clock = clock;
  denominator = s.denominator;
  time = max (latest_width exact clock s.denominator (latest_of 0 s.routes)) 9;
  level = max (length (decimal s.full)) 5;
  name = names_width places;
}

abbrev pub number_cell : ℕ → ℕ → List ℕ
number_cell width number = cell width (decimal number)

abbrev pub time_cell : Columns → ℕ → List ℕ
time_cell c time = cell c.time (time_text c.exact c.denominator time)

-- when something happens: by the clock where there is one
abbrev pub moment_cell : Columns → ℕ → List ℕ
moment_cell c time = cell c.time (moment_text c.clock c.exact c.denominator time)

-- the numbers of a layout are those of an instance and of a clock
pub record AreColumns (c : Columns) : Type 0 where
  pub some : 1 ≤ c.denominator
  pub small : c.denominator ≤ 10 ^ 9
  pub clock : AreClocks c.clock

-- what a node is, behind two spaces, eight places wide
abbrev pub kind_cell : PlaceKind → List ℕ
kind_cell Depot = codes "  depot   "
kind_cell Customer = codes "  customer"
kind_cell Station = codes "  station "

-- the time to plug in, and the levels from which and to which is charged
unfoldable pub charge_cells : Columns → Visit → List ℕ
charge_cells c v =
    if nat_lt 0 v.charged
    then time_cell c v.plugging ++ number_cell c.level v.level ++ number_cell c.level v.level_left
    else cell c.time (codes "-") ++ cell c.level (codes "-") ++ cell c.level (codes "-")

-- the heads of the columns
unfoldable pub header_text : Columns → List ℕ
header_text c =
    codes "  stop  node" ++ left_cell c.name (codes "name") ++ codes "  what    "
    ++ cell c.time (codes "arrival")
    ++ cell c.level (codes "level") ++ cell c.time (codes "plug time")
    ++ cell c.level (codes "from") ++ cell c.level (codes "to")
    ++ cell c.time (codes "leaving") ++ codes "\n"

-- where a visit is
unfoldable pub place_cells : Columns → List Place → ℕ → Visit → List ℕ
place_cells c places at v =
    number_cell 4 at ++ number_cell 4 v.node ++ left_cell c.name (name_at places v.node)
    ++ kind_cell v.kind

-- when, and with which levels
unfoldable pub stay_cells : Columns → Visit → List ℕ
stay_cells c v =
    moment_cell c v.arrival ++ number_cell c.level v.level ++ charge_cells c v
    ++ moment_cell c v.leaving

-- the row of a visit
abbrev pub row_text : Columns → List Place → ℕ → Visit → List ℕ
row_text c places at v = place_cells c places at v ++ stay_cells c v ++ codes "\n"

-- the rows of visits, of which the first has this position
abbrev pub rows_text : Columns → List Place → ℕ → List Visit → List ℕ
rows_text c places at [] = []
rows_text c places at (v ∷ vs) = row_text c places at v ++ rows_text c places (at + 1) vs

-- a word and a sum of times
abbrev pub sum_text : Columns → List ℕ → ℕ → List ℕ
sum_text c word time = word ++ time_text c.exact c.denominator time

-- the sums of times of a route or of a plan
unfoldable pub times_text : Columns → Totals → List ℕ
times_text c t =
    sum_text c (codes "time ") t.time ++ sum_text c (codes ", driving ") t.driving
    ++ sum_text c (codes ", serving ") t.serving
    ++ sum_text c (codes ", plugging in ") t.plugging
    ++ sum_text c (codes ", charging ") t.charging

-- the sums of energies, how many stops there are, and the end of the line
unfoldable pub energies_text : Totals → List ℕ
energies_text t =
    (codes ", energy driven " ++ decimal t.energy_driven)
    ++ (codes ", energy charged " ++ decimal t.energy_charged)
    ++ number_line (codes ", stops ") t.stops

abbrev pub sums_text : Columns → Totals → List ℕ
sums_text c t = times_text c t ++ energies_text t

-- the lines of a route
unfoldable pub route_text : Columns → List Place → RouteSchedule → List ℕ
route_text c places r =
    number_line (codes "route ") r.number ++ header_text c ++ rows_text c places 0 r.visits
    ++ (codes "total of route " ++ decimal r.number) ++ codes ": " ++ sums_text c r.totals
    ++ codes "\n"

-- the lines of routes, and of the whole plan
unfoldable pub plan_text : Columns → List Place → Schedule → List ℕ
plan_text c places s =
    joined_texts (route_text c places) s.routes ++ codes "total of the plan: " ++ sums_text c s.totals

abbrev pub table_text : Bool → Option Clock → List Place → Option Schedule → List ℕ
table_text exact clock places None = codes "no plan\n"
table_text exact clock places (Some s) = plan_text (columns_of exact clock places s) places s
