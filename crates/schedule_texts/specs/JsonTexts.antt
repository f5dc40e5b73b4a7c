-- The schedule as one JSON text. Times are scaled.
use Rattle.std.specs.Prelude.{ℕ, ◌+◌, ◌++◌, Bool, List, [], ◌∷◌, Option, None, Some, codes, decimal, nat_lt, if◌then◌else◌}
use Rattle.serde_json.specs.Data.{string}
use Rattle.serde_json.specs.Written.{compact_text}
use Rattle.place_names.specs.Places.{name_at}
use Rattle.place_names.specs.declared.place.Place.{Place}
use Rattle.plan_schedule.specs.declared.schedule.PlaceKind.{PlaceKind}
use Rattle.plan_schedule.specs.declared.schedule.PlaceKind.TheVariants.{Depot, Customer, Station}
use Rattle.plan_schedule.specs.declared.schedule.RouteSchedule.{RouteSchedule}
use Rattle.plan_schedule.specs.declared.schedule.Schedule.{Schedule}
use Rattle.plan_schedule.specs.declared.schedule.Totals.{Totals}
use Rattle.plan_schedule.specs.declared.schedule.Visit.{Visit}
use Rattle.schedule_texts.specs.Clocks.{clock_text}
use Rattle.schedule_texts.specs.declared.clock.Clock.{Clock}

-- a name with its number, behind what parts it from others
abbrev pub field : List ℕ → ℕ → List ℕ
field name number = name ++ decimal number

-- what stands in front of an item at a position: a comma, unless it is the first, and the end of a line
abbrev pub mark : ℕ → List ℕ
mark at = if nat_lt 0 at then codes ",\n" else codes "\n"

-- items, parted by commas, of which the first has this position
abbrev pub items_from : {A : Type 0} → (A → List ℕ) → ℕ → List A → List ℕ
items_from text at [] = []
items_from text at (a ∷ others) = mark at ++ text a ++ items_from text (at + 1) others

abbrev pub kind_field : PlaceKind → List ℕ
kind_field Depot = codes ",\"kind\":\"depot\""
kind_field Customer = codes ",\"kind\":\"customer\""
kind_field Station = codes ",\"kind\":\"station\""

abbrev pub inserted_field : Bool → List ℕ
inserted_field inserted =
    if inserted then codes ",\"inserted\":true" else codes ",\"inserted\":false"

-- the visit of a stop: how it was come to, and when
unfoldable pub way_fields : Visit → List ℕ
way_fields v =
    field (codes ",\"energy\":") v.energy ++ field (codes ",\"driving\":") v.driving
    ++ field (codes ",\"arrival\":") v.arrival ++ field (codes ",\"level\":") v.level

-- what happens there, until the vehicle leaves
unfoldable pub stay_fields : Visit → List ℕ
stay_fields v =
    field (codes ",\"service\":") v.service ++ field (codes ",\"plugging\":") v.plugging
    ++ field (codes ",\"charging\":") v.charging ++ field (codes ",\"charged\":") v.charged
    ++ field (codes ",\"level_left\":") v.level_left
    ++ field (codes ",\"leaving\":") v.leaving

-- when the vehicle arrives and leaves by the clock, where there is one
unfoldable pub clock_fields : Option Clock → ℕ → Visit → List ℕ
clock_fields None denominator v = []
clock_fields (Some c) denominator v =
    codes ",\"arrival_clock\":\"" ++ clock_text c denominator v.arrival
    ++ codes "\",\"leaving_clock\":\"" ++ clock_text c denominator v.leaving ++ codes "\""

-- the name of a node as a JSON string, where there are names
unfoldable pub name_field : List Place → ℕ → List ℕ
name_field [] node = []
name_field (p ∷ ps) node = codes ",\"name\":" ++ compact_text (string (name_at (p ∷ ps) node))

-- where a stop is
unfoldable pub place_fields : List Place → Visit → List ℕ
place_fields places v =
    field (codes "{\"node\":") v.node ++ name_field places v.node ++ kind_field v.kind
    ++ inserted_field v.inserted

abbrev pub visit_text : Option Clock → List Place → ℕ → Visit → List ℕ
visit_text clock places denominator v =
    place_fields places v ++ way_fields v ++ stay_fields v ++ clock_fields clock denominator v
    ++ codes "}"

-- the sums of a route or of a plan
unfoldable pub totals_text : Totals → List ℕ
totals_text t =
    field (codes "{\"time\":") t.time ++ field (codes ",\"driving\":") t.driving
    ++ field (codes ",\"serving\":") t.serving ++ field (codes ",\"plugging\":") t.plugging
    ++ field (codes ",\"charging\":") t.charging
    ++ field (codes ",\"energy_driven\":") t.energy_driven
    ++ field (codes ",\"energy_charged\":") t.energy_charged
    ++ field (codes ",\"stops\":") t.stops ++ codes "}"

unfoldable pub route_text : Option Clock → List Place → ℕ → RouteSchedule → List ℕ
route_text clock places denominator r =
    field (codes "{\"route\":") r.number ++ codes ",\"stops\":["
    ++ items_from (visit_text clock places denominator) 0 r.visits ++ codes "],\"totals\":"
    ++ totals_text r.totals ++ codes "}"

-- what stands of a plan behind the format
unfoldable pub schedule_text : Option Clock → List Place → Schedule → List ℕ
schedule_text clock places s =
    field (codes "\"denominator\":") s.denominator ++ field (codes ",\"full\":") s.full
    ++ field (codes ",\"reserve\":") s.reserve ++ field (codes ",\"home\":") s.home
    ++ codes ",\"routes\":[" ++ items_from (route_text clock places s.denominator) 0 s.routes
    ++ codes "],\"totals\":"
    ++ totals_text s.totals ++ codes "}\n"

abbrev pub behind_format : Option Clock → List Place → Option Schedule → List ℕ
behind_format clock places None = codes "\"routes\":null}\n"
behind_format clock places (Some s) = schedule_text clock places s

abbrev pub json_text : Option Clock → List Place → Option Schedule → List ℕ
json_text clock places schedule =
    codes "{\"format\":\"evview schedule 1\"," ++ behind_format clock places schedule
