-- The schedule as a picture in SVG.
use Rattle.std.specs.Prelude.{ℕ, ◌+◌, ◌*◌, ◌/◌, ◌++◌, List, [], ◌∷◌, Option, None, Some, codes, decimal, length}
use Rattle.place_names.specs.declared.place.Place.{Place}
use Rattle.plan_schedule.specs.declared.schedule.RouteSchedule.{RouteSchedule}
use Rattle.plan_schedule.specs.declared.schedule.Schedule.{Schedule}
use Rattle.schedule_texts.specs.Panels.{panels_text}
use Rattle.schedule_texts.specs.Scales.{scale_of}
use Rattle.schedule_texts.specs.declared.clock.Clock.{Clock}
use Rattle.schedule_texts.specs.declared.picture.scale.Scale.{Scale}

-- how a page of a size begins
unfoldable pub size_text : ℕ → ℕ → List ℕ
size_text across down =
    (codes "<svg xmlns='http://www.w3.org/2000/svg' width='" ++ decimal (across / 10))
    ++ (codes "' height='" ++ decimal (down / 10)) ++ (codes "' viewBox='0 0 " ++ decimal across)
    ++ (codes " " ++ decimal down) ++ codes "'>\n"

-- the colours and the type
unfoldable pub style_text : List ℕ
style_text =
    codes "<style>text{font-family:Helvetica,Arial,sans-serif;font-size:120px;fill:#222222}"
    ++ codes ".h{font-size:140px;font-weight:bold}.k{font-size:180px;font-weight:bold}"
    ++ codes ".c{text-anchor:middle}.e{text-anchor:end}"
    ++ codes ".l{fill:none;stroke:#0b5394;stroke-width:20;stroke-linejoin:round}"
    ++ codes ".f{stroke:#2e7d32;stroke-width:12}"
    ++ codes ".r{stroke:#b00020;stroke-width:12;stroke-dasharray:60 40}"
    ++ codes ".a{stroke:#222222;stroke-width:12}.g{stroke:#e4e4e4;stroke-width:6}"
    ++ codes ".o{stroke:#6a1b9a;stroke-width:12;stroke-dasharray:120 40}"
    ++ codes ".i{stroke:#b00020;stroke-width:12;stroke-dasharray:20 30}.m{font-size:110px}"
    ++ codes ".n{fill:none;stroke:#9a9a9a;stroke-width:6;stroke-dasharray:16 24}"
    ++ codes ".p{fill:#ffffff;stroke:#222222;stroke-width:16}"
    ++ codes ".s{fill:#e69f00;stroke:#222222;stroke-width:12}"
    ++ codes ".d{fill:#222222}.b{fill:#ffffff;stroke:#0b5394;stroke-width:12}</style>\n"

-- the title of a page, and what the shapes are: a diamond the depot, a circle a customer, a square a station, a ring a breakpoint
unfoldable pub legend_text : List ℕ
legend_text =
    codes "<rect width='100%' height='100%' fill='#ffffff'/>\n"
    ++ codes "<text class='k' x='1200' y='320'>Battery levels over time</text>\n"
    ++ codes "<path class='d' d='M1270 530l70 70l-70 70l-70 -70z'/>"
    ++ codes "<text x='1400' y='640'>depot</text>\n"
    ++ codes "<circle class='p' cx='2150' cy='600' r='50'/>"
    ++ codes "<text x='2260' y='640'>c: customer</text>\n"
    ++ codes "<rect class='s' x='3300' y='550' width='100' height='100'/>"
    ++ codes "<text x='3460' y='640'>s: station</text>\n"
    ++ codes "<circle class='b' cx='4500' cy='600' r='26'/>"
    ++ codes "<text x='4580' y='640'>breakpoint of a charging curve</text>\n"

-- the head of a page of a width, with room for panels of a height: its size, colours and type, and what the shapes are
unfoldable pub head_text : ℕ → ℕ → List ℕ
head_text width height = size_text (width + 2700) (height + 1100) ++ style_text ++ legend_text

-- a page without a panel, which says why
unfoldable pub none_text : List ℕ → List ℕ
none_text why =
    head_text 8000 0 ++ codes "<text x='1200' y='940'>" ++ why ++ codes "</text>\n"

-- the page of routes
abbrev pub routes_text : Scale → List Place → List RouteSchedule → List ℕ
routes_text scale places [] = none_text (codes "no routes")
routes_text scale places (r ∷ rs) =
    head_text scale.width (length (r ∷ rs) * (2800 + scale.rise))
    ++ panels_text scale places 0 (r ∷ rs)

abbrev pub page_text : Option Clock → List Place → Option Schedule → List ℕ
page_text clock places None = none_text (codes "no plan")
page_text clock places (Some s) = routes_text (scale_of clock places s) places s.routes

abbrev pub picture_text : Option Clock → List Place → Option Schedule → List ℕ
picture_text clock places schedule = page_text clock places schedule ++ codes "</svg>\n"
