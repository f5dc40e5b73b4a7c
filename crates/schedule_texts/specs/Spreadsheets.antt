-- The schedule as CSV, for spreadsheets: a record that names the columns, and one a stop.
use Rattle.std.specs.Prelude.{◌≡◌, ◌==◌, ◌||◌, ℕ, ◌+◌, ◌-◌, ◌++◌, Bool, false, List, [], ◌∷◌, Option, None, Some, codes, decimal, map, nat_lt, if◌then◌else◌}
use Rattle.std.specs.List.{list_any}
use Rattle.ev_text.specs.Texts.{joined_texts}
use Rattle.place_names.specs.Places.{name_at}
use Rattle.place_names.specs.declared.place.Place.{Place}
use Rattle.plan_schedule.specs.declared.schedule.PlaceKind.{PlaceKind}
use Rattle.plan_schedule.specs.declared.schedule.PlaceKind.TheVariants.{Depot, Customer, Station}
use Rattle.plan_schedule.specs.declared.schedule.RouteSchedule.{RouteSchedule}
use Rattle.plan_schedule.specs.declared.schedule.Schedule.{Schedule}
use Rattle.plan_schedule.specs.declared.schedule.Visit.{Visit}
use Rattle.schedule_texts.specs.Clocks.{moment_text}
use Rattle.schedule_texts.specs.Decimals.{decimal_text}
use Rattle.schedule_texts.specs.declared.clock.Clock.{Clock}

-- a spreadsheet takes a cell that begins so for a formula: with = + - @, a tab, or the end of a line
abbrev pub starts_formula : ℕ → Bool
starts_formula b =
    (b == 61) || (b == 43) || (b == 45) || (b == 64) || (b == 9) || (b == 10) || (b == 13)

abbrev pub begins_formula : List ℕ → Bool
begins_formula [] = false
begins_formula (b ∷ bs) = starts_formula b

-- a text in a cell: behind an apostrophe where it would be taken for a formula
abbrev pub cell_of : List ℕ → List ℕ
cell_of text = if begins_formula text then 39 ∷ text else text

-- a comma, a quote and the end of a line stand between quotes
abbrev pub calls_for_quotes : ℕ → Bool
calls_for_quotes b = (b == 44) || (b == 34) || (b == 13) || (b == 10)

-- a text with each quote twice
abbrev pub doubled : List ℕ → List ℕ
doubled [] = []
doubled (b ∷ bs) = if b == 34 then 34 ∷ b ∷ doubled bs else b ∷ doubled bs

-- a cell as it is written
abbrev pub field_text : List ℕ → List ℕ
field_text cell =
    if list_any calls_for_quotes cell then codes "\"" ++ doubled cell ++ codes "\"" else cell

-- cells behind others of their record
abbrev pub more_fields : List (List ℕ) → List ℕ
more_fields [] = []
more_fields (cell ∷ cells) = codes "," ++ field_text cell ++ more_fields cells

-- the line of a record of at least two cells
abbrev pub record_text : List (List ℕ) → List ℕ
record_text [] = []
record_text (cell ∷ cells) = field_text cell ++ more_fields cells ++ codes "\n"

abbrev pub kind_word : PlaceKind → List ℕ
kind_word Depot = codes "depot"
kind_word Customer = codes "customer"
kind_word Station = codes "station"

-- what stands where something is charged
abbrev pub charged_text : Visit → List ℕ → List ℕ
charged_text v text = if nat_lt 0 v.charged then text else []

-- when charging begins: it ends when the vehicle leaves
abbrev pub charge_begin : Visit → ℕ
charge_begin v = v.leaving - v.charging

-- texts with that of a name in front, where there are names
abbrev pub with_name : List Place → List ℕ → List (List ℕ) → List (List ℕ)
with_name [] name texts = texts
with_name (p ∷ ps) name texts = name ∷ texts

-- the names of the columns behind that of names
abbrev pub last_names : List (List ℕ)
last_names =
    codes "what" ∷ codes "arrival" ∷ codes "level" ∷ codes "plug time" ∷ codes "charge begin"
    ∷ codes "charge end" ∷ codes "from" ∷ codes "to" ∷ codes "leaving" ∷ []

-- the names of the columns
abbrev pub column_names : List Place → List (List ℕ)
column_names places =
    codes "route" ∷ codes "stop" ∷ codes "node" ∷ with_name places (codes "name") last_names

-- what a visit is and when, column by column
unfoldable pub stay_texts : Option Clock → ℕ → Visit → List (List ℕ)
stay_texts clock denominator v =
    kind_word v.kind ∷ moment_text clock false denominator v.arrival ∷ decimal v.level
    ∷ charged_text v (decimal_text denominator v.plugging)
    ∷ charged_text v (moment_text clock false denominator (charge_begin v))
    ∷ charged_text v (moment_text clock false denominator v.leaving)
    ∷ charged_text v (decimal v.level) ∷ charged_text v (decimal v.level_left)
    ∷ moment_text clock false denominator v.leaving ∷ []

-- the texts of a visit, column by column
abbrev pub visit_texts : Option Clock → List Place → ℕ → ℕ → ℕ → Visit → List (List ℕ)
visit_texts clock places denominator number at v =
    decimal number ∷ decimal at ∷ decimal v.node
    ∷ with_name places (name_at places v.node) (stay_texts clock denominator v)

-- the cells of visits of a route, of which the first has this position
abbrev pub visit_cells : Option Clock → List Place → ℕ → ℕ → ℕ → List Visit →
    List (List (List ℕ))
visit_cells clock places denominator number at [] = []
visit_cells clock places denominator number at (v ∷ vs) =
    map cell_of (visit_texts clock places denominator number at v)
    ∷ visit_cells clock places denominator number (at + 1) vs

-- the cells of routes
abbrev pub route_cells : Option Clock → List Place → ℕ → List RouteSchedule →
    List (List (List ℕ))
route_cells clock places denominator [] = []
route_cells clock places denominator (r ∷ rs) =
    visit_cells clock places denominator r.number 0 r.visits
    ++ route_cells clock places denominator rs

-- the cells behind the names of the columns: none without a plan
abbrev pub plan_cells : Option Clock → List Place → Option Schedule → List (List (List ℕ))
plan_cells clock places None = []
plan_cells clock places (Some s) = route_cells clock places s.denominator s.routes

-- all cells, record by record
abbrev pub csv_cells : Option Clock → List Place → Option Schedule → List (List (List ℕ))
csv_cells clock places schedule =
    map cell_of (column_names places) ∷ plan_cells clock places schedule

abbrev pub csv_text : Option Clock → List Place → Option Schedule → List ℕ
csv_text clock places schedule = joined_texts record_text (csv_cells clock places schedule)

-- no spreadsheet takes the cell for a formula
abbrev pub IsNoFormula : List ℕ → Type 0
IsNoFormula cell = begins_formula cell ≡ false
