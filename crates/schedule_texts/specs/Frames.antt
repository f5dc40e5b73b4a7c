-- The lines of a panel that are no level of a vehicle, and what they are: a full battery, the reserve, the level at home where it is higher,
-- the limit where it is near, levels between, the axis.
use Rattle.std.specs.Prelude.{ℕ, zero, suc, ◌+◌, ◌-◌, ◌*◌, ◌/◌, ◌++◌, List, [], Option, None, Some, codes, decimal, max, min, nat_lt, if◌then◌else◌}
use Rattle.schedule_texts.specs.Axes.{step_above}
use Rattle.schedule_texts.specs.Decimals.{decimal_text}
use Rattle.schedule_texts.specs.Scales.{x_at, y_at}
use Rattle.schedule_texts.specs.declared.picture.scale.Scale.{Scale}

-- lines of a width, that of the reserve at a height
unfoldable pub lines_text : ℕ → ℕ → List ℕ
lines_text width reserve_at =
    (codes "<path class='f' d='M1200 600h" ++ decimal width)
    ++ (codes "'/><path class='r' d='M1200 " ++ decimal reserve_at)
    ++ (codes "h" ++ decimal width)
    ++ (codes "'/><path class='a' d='M1200 2200h" ++ decimal width) ++ codes "'/>\n"

-- the level of an empty battery at the left, and what the axes show
unfoldable pub captions_text : List ℕ
captions_text =
    codes "</text><text class='e' x='1100' y='2240'>0</text>\n"
    ++ codes "<text class='e' x='1100' y='480'>units of charge</text>\n"
    ++ codes "<text x='1200' y='2560'>time, in units of the instance</text>\n"

-- behind that of a full one
unfoldable pub levels_text : ℕ → List ℕ
levels_text full =
    (codes "<text class='e' x='1100' y='640'>full " ++ decimal full) ++ captions_text

-- a level at a height, with a line of a width
unfoldable pub level_at : ℕ → ℕ → ℕ → List ℕ
level_at y width level =
    (codes "<path class='g' d='M1200 " ++ decimal y) ++ (codes "h" ++ decimal width)
    ++ (codes "'/><text class='e' x='1100' y='" ++ decimal (y + 40))
    ++ (codes "'>" ++ decimal level) ++ codes "</text>\n"

-- a level, unless it would touch that of a full battery
abbrev pub level_text : Scale → ℕ → List ℕ
level_text scale level =
    if nat_lt 730 (y_at scale level) then level_at (y_at scale level) scale.width level else []

-- the first so many multiples of a step
abbrev pub steps_text : Scale → ℕ → ℕ → List ℕ
steps_text scale step zero = []
steps_text scale step (suc count) =
    steps_text scale step count ++ level_text scale ((count + 1) * step)

-- levels between: multiples of 1, 2 or 5 times a power of ten, five at most
abbrev pub level_step : Scale → ℕ
level_step scale = step_above (scale.full / 5)

abbrev pub between_text : Scale → List ℕ
between_text scale = steps_text scale (level_step scale) (scale.full / level_step scale)

-- where the words of the reserve stand: beside its line, and below the highest ones
abbrev pub reserve_words_at : Scale → ℕ
reserve_words_at scale = max (y_at scale scale.reserve + 40) 770

-- the reserve at the right
unfoldable pub reserve_text : ℕ → ℕ → ℕ → List ℕ
reserve_text x y reserve =
    (codes "<text x='" ++ decimal x) ++ (codes "' y='" ++ decimal y)
    ++ (codes "'>reserve " ++ decimal reserve) ++ codes "</text>\n"

-- where those of the level at home stand: beside its line, and above those of the reserve
abbrev pub home_words_at : Scale → ℕ
home_words_at scale = min (y_at scale scale.home + 40) (reserve_words_at scale - 130)

-- a line of a width at a height, and words beside it at another height
unfoldable pub home_line : ℕ → ℕ → ℕ → ℕ → List ℕ
home_line y width words_at home =
    (codes "<path class='o' d='M1200 " ++ decimal y) ++ (codes "h" ++ decimal width)
    ++ (codes "'/><text x='" ++ decimal (width + 1300)) ++ (codes "' y='" ++ decimal words_at)
    ++ (codes "'>home " ++ decimal home) ++ codes "</text>\n"

-- the level at home, where it is above the reserve
abbrev pub home_text : Scale → List ℕ
home_text scale =
    if nat_lt scale.reserve scale.home
    then home_line (y_at scale scale.home) scale.width (home_words_at scale) scale.home else []

-- a line at a time, and words below it
unfoldable pub limit_line : ℕ → ℕ → ℕ → List ℕ
limit_line x denominator limit =
    (codes "<path class='i' d='M" ++ decimal x)
    ++ (codes " 600V2200'/><text class='e' x='" ++ decimal (x + 60)) ++ codes "' y='2560'>limit "
    ++ decimal_text denominator limit ++ codes "</text>\n"

-- the limit, where it is drawn
abbrev pub limit_text : Scale → Option ℕ → List ℕ
limit_text scale None = []
limit_text scale (Some limit) = limit_line (x_at scale limit) scale.denominator limit

unfoldable pub frame_text : Scale → List ℕ
frame_text scale =
    between_text scale ++ lines_text scale.width (y_at scale scale.reserve)
    ++ levels_text scale.full
    ++ reserve_text (scale.width + 1300) (reserve_words_at scale) scale.reserve
    ++ home_text scale ++ limit_text scale scale.limit
