-- The axis of time: a mark at each multiple of a step, one a hundred pixels at most.
use Rattle.std.specs.Prelude.{ℕ, zero, suc, ◌+◌, ◌*◌, ◌/◌, ◌%◌, ◌++◌, List, [], codes, decimal, nat_eq, nat_lt, if◌then◌else◌}
use Rattle.schedule_texts.specs.Decimals.{hundredths_text}
use Rattle.schedule_texts.specs.Scales.{mark_at}
use Rattle.schedule_texts.specs.declared.picture.scale.Scale.{Scale}

-- the first number above another one among 1, 2 and 5 times so many powers of ten, from this power on; the power behind them if none is
abbrev pub step_from : ℕ → ℕ → ℕ → ℕ
step_from zero power least = power
step_from (suc powers) power least =
    if nat_lt least power then power
    else if nat_lt least (2 * power) then 2 * power
    else if nat_lt least (5 * power) then 5 * power
    else step_from powers (10 * power) least

-- the first of 1, 2, 5, 10, 20, 50, .., 10 ^ 20 above a number
unfoldable pub step_above : ℕ → ℕ
step_above least = step_from 20 1 least

-- the time at the right end, in hundredths
abbrev pub span_of : Scale → ℕ
span_of scale = scale.latest * 100 / scale.denominator

-- the hundredths of a unit of time from mark to mark: 1, 2 or 5 times a power of ten
abbrev pub step_of : Scale → ℕ
step_of scale = step_above (span_of scale / (scale.width / 1000))

-- a time in hundredths: whole where all marks are
abbrev pub label_text : ℕ → ℕ → List ℕ
label_text step hundredths =
    if nat_eq (step % 100) 0 then decimal (hundredths / 100)
    else hundredths_text (hundredths / 100) (hundredths % 100)

-- the lines of a mark, and how the element of its label begins
unfoldable pub mark_open : ℕ → List ℕ
mark_open x =
    (codes "<path class='g' d='M" ++ decimal x)
    ++ (codes " 600v1600'/><path class='a' d='M" ++ decimal x)
    ++ (codes " 2200v50'/>\n<text class='c' x='" ++ decimal x) ++ codes "' y='2390'>"

abbrev pub mark_text : Scale → ℕ → ℕ → List ℕ
mark_text scale step hundredths =
    mark_open (mark_at scale hundredths) ++ label_text step hundredths ++ codes "</text>\n"

-- so many marks, the first at 0
abbrev pub marks_text : Scale → ℕ → ℕ → List ℕ
marks_text scale step zero = []
marks_text scale step (suc count) =
    marks_text scale step count ++ mark_text scale step (count * step)

abbrev pub axis_text : Scale → List ℕ
axis_text scale =
    marks_text scale (step_of scale) (span_of scale / step_of scale + 1)
