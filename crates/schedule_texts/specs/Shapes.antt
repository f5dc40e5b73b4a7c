-- The shapes of stops, where the vehicle arrives: a diamond is the depot, a circle a customer, a square a station.
use Rattle.std.specs.Prelude.{ℕ, ◌+◌, ◌-◌, ◌++◌, List, [], ◌∷◌, codes, decimal, false}
use Rattle.place_names.specs.declared.place.Place.{Place}
use Rattle.plan_schedule.specs.declared.schedule.PlaceKind.{PlaceKind}
use Rattle.plan_schedule.specs.declared.schedule.PlaceKind.TheVariants.{Depot, Customer, Station}
use Rattle.plan_schedule.specs.declared.schedule.Visit.{Visit}
use Rattle.schedule_texts.specs.Clocks.{moment_text}
use Rattle.schedule_texts.specs.Labels.{name_words}
use Rattle.schedule_texts.specs.Scales.{x_at, y_at}
use Rattle.schedule_texts.specs.declared.picture.scale.Scale.{Scale}

-- how the element of a diamond begins, its top at a point
unfoldable pub diamond_text : ℕ → ℕ → List ℕ
diamond_text x top =
    (codes "<path class='d' d='M" ++ decimal x) ++ (codes " " ++ decimal top)
    ++ codes "l70 70l-70 70l-70 -70z'>"

-- of a circle, its middle at a point
unfoldable pub circle_text : ℕ → ℕ → List ℕ
circle_text x y =
    (codes "<circle class='p' cx='" ++ decimal x) ++ (codes "' cy='" ++ decimal y)
    ++ codes "' r='50'>"

-- of a square, its left upper corner at a point
unfoldable pub square_text : ℕ → ℕ → List ℕ
square_text left top =
    (codes "<rect class='s' x='" ++ decimal left) ++ (codes "' y='" ++ decimal top)
    ++ codes "' width='100' height='100'>"

-- how the element of a shape begins, its middle at a point
abbrev pub shape_text : PlaceKind → ℕ → ℕ → List ℕ
shape_text Depot x y = diamond_text x (y - 70)
shape_text Customer x y = circle_text x y
shape_text Station x y = square_text (x - 50) (y - 50)

-- how it ends
abbrev pub shape_end : PlaceKind → List ℕ
shape_end Depot = codes "</path>\n"
shape_end Customer = codes "</circle>\n"
shape_end Station = codes "</rect>\n"

-- the words between the number of a stop and that of its node
abbrev pub kind_words : PlaceKind → List ℕ
kind_words Depot = codes ": depot "
kind_words Customer = codes ": customer "
kind_words Station = codes ": station "

-- what a node is, its number and its name
abbrev pub place_text : List Place → Visit → List ℕ
place_text places v = kind_words v.kind ++ decimal v.node ++ name_words places v.node

-- what a pointer at a shape is told
unfoldable pub title_text : Scale → List Place → ℕ → Visit → List ℕ
title_text scale places at v =
    (codes "<title>stop " ++ decimal at) ++ place_text places v ++ codes ", arrival "
    ++ moment_text scale.clock false scale.denominator v.arrival ++ (codes ", level " ++ decimal v.level)
    ++ codes "</title>"

abbrev pub stop_text : Scale → List Place → ℕ → Visit → List ℕ
stop_text scale places at v =
    shape_text v.kind (x_at scale v.arrival) (y_at scale v.level)
    ++ title_text scale places at v ++ shape_end v.kind

-- the shapes of visits, of which the first has this position
abbrev pub stops_text : Scale → List Place → ℕ → List Visit → List ℕ
stops_text scale places at [] = []
stops_text scale places at (v ∷ vs) =
    stop_text scale places at v ++ stops_text scale places (at + 1) vs
