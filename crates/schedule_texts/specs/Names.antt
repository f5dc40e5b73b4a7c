-- The names of stops, slanted above a panel, from left to right. Each stands above its stop, or as near to it as the names beside it leave
-- room. Where a panel has no room for all, stations and the depot have theirs first, then the first customers.
use Rattle.std.specs.Prelude.{ℕ, ◌+◌, ◌-◌, ◌*◌, ◌/◌, ◌^◌, ◌≤◌, ◌++◌, Bool, false, true, List, [], ◌∷◌, codes, decimal, length, max, min, nat_lt, if◌then◌else◌}
use Rattle.place_names.specs.declared.place.Place.{Place}
use Rattle.plan_schedule.specs.declared.schedule.PlaceKind.{PlaceKind}
use Rattle.plan_schedule.specs.declared.schedule.PlaceKind.TheVariants.{Depot, Customer, Station}
use Rattle.plan_schedule.specs.declared.schedule.Visit.{Visit}
use Rattle.schedule_texts.specs.Labels.{label_of}
use Rattle.schedule_texts.specs.Scales.{x_at, y_at}
use Rattle.schedule_texts.specs.declared.picture.names.Room.{Room}
use Rattle.schedule_texts.specs.declared.picture.scale.Scale.{Scale}

abbrev pub is_customer : PlaceKind → Bool
is_customer Depot = false
is_customer Customer = true
is_customer Station = false

-- how many of the visits are those of customers, behind others
abbrev pub customers_in : ℕ → List Visit → ℕ
customers_in count [] = count
customers_in count (v ∷ vs) =
    customers_in (if is_customer v.kind then count + 1 else count) vs

-- how many names a panel has room for: one every fifteen pixels
abbrev pub names_within : Scale → ℕ
names_within scale = scale.width / 150 + 1

-- so many of each kind have their names, of others and customers
abbrev pub room_for : ℕ → ℕ → ℕ → Room
room_for within others customers = record {
  free = 0;
  others = min others within;
  customers = min customers (within - min others within);
}

abbrev pub room_of : Scale → List Visit → Room
room_of scale visits =
    room_for (names_within scale) (length visits - customers_in 0 visits) (customers_in 0 visits)

-- how many names are left out
abbrev pub left_out : Scale → List Visit → ℕ
left_out scale visits =
    length visits - ((room_of scale visits).others + (room_of scale visits).customers)

-- how many more names of its kind there are
abbrev pub left_for : Room → PlaceKind → ℕ
left_for room kind = if is_customer kind then room.customers else room.others

-- the place of a name that leaves room for those behind it
abbrev pub last_place : Scale → Room → ℕ
last_place scale room = 1200 + scale.width - 150 * (room.others + room.customers - 1)

-- where the name of a visit stands
abbrev pub name_place : Scale → Room → Visit → ℕ
name_place scale room v = max room.free (min (x_at scale v.arrival) (last_place scale room))

-- a line from a point to where a name stands, and how the name's element begins
unfoldable pub mark_text : ℕ → ℕ → ℕ → List ℕ
mark_text x y place =
    (codes "<path class='n' d='M" ++ decimal x) ++ (codes " " ++ decimal y)
    ++ (codes "V600L" ++ decimal place)
    ++ (codes " 555'/><text class='m' transform='translate(" ++ decimal place)
    ++ codes ",540) rotate(-60)' y='40'>"

-- a line from a visit to its name, and the name
unfoldable pub name_text : Scale → List Place → ℕ → Visit → List ℕ
name_text scale places place v =
    mark_text (x_at scale v.arrival) (y_at scale v.level) place ++ label_of places v
    ++ codes "</text>\n"

-- the name of a visit, where there is room for one of its kind
abbrev pub name_if : Scale → List Place → Room → Visit → List ℕ
name_if scale places room v =
    if nat_lt 0 (left_for room v.kind)
    then name_text scale places (name_place scale room v) v else []

-- the room behind a name
abbrev pub spent : Room → ℕ → PlaceKind → Room
spent room place kind = record {
  free = place + 150;
  others = if is_customer kind then room.others else room.others - 1;
  customers = if is_customer kind then room.customers - 1 else room.customers;
}

-- the room behind a visit
abbrev pub room_behind : Scale → Room → Visit → Room
room_behind scale room v =
    if nat_lt 0 (left_for room v.kind)
    then spent room (name_place scale room v) v.kind else room

abbrev pub names_text : Scale → List Place → Room → List Visit → List ℕ
names_text scale places room [] = []
names_text scale places room (v ∷ vs) =
    name_if scale places room v ++ names_text scale places (room_behind scale room v) vs

-- the program holds its numbers
pub record IsRoom (room : Room) : Type 0 where
  pub free : room.free + 150 * (room.others + room.customers) ≤ 10 ^ 6
  pub others : room.others ≤ 1000
  pub customers : room.customers ≤ 1000
