-- Times as texts, and texts in cells.
use Rattle.std.specs.Prelude.{ℕ, ◌+◌, ◌-◌, ◌*◌, ◌/◌, ◌%◌, ◌++◌, Bool, List, [], codes, decimal, length, nat_lt, replicate, if◌then◌else◌}
use Rattle.schedule_texts.specs.Labels.{characters}
use Rattle.report_lines.specs.Lines.{over}

-- the hundredths that are nearest to what a scaled time is above a whole unit of time, a half up: from 0 to 100
abbrev pub part_of : ℕ → ℕ → ℕ
part_of denominator scaled = (scaled % denominator * 200 + denominator) / (2 * denominator)

-- a whole number and hundredths, of which there are fewer than 100
abbrev pub hundredths_text : ℕ → ℕ → List ℕ
hundredths_text whole part =
    decimal whole ++ (if nat_lt part 10 then codes ".0" else codes ".") ++ decimal part

-- a scaled time as a decimal with two digits, rounded to the nearest hundredth, a half up
abbrev pub decimal_text : ℕ → ℕ → List ℕ
decimal_text denominator scaled =
    hundredths_text (scaled / denominator + part_of denominator scaled / 100)
    (part_of denominator scaled % 100)

-- a scaled time as it is, over the denominator, or as a decimal
abbrev pub time_text : Bool → ℕ → ℕ → List ℕ
time_text exact denominator scaled =
    if exact then over denominator scaled else decimal_text denominator scaled

-- a text at the left end of so many places, behind two spaces; nothing where the column has no place
abbrev pub left_cell : ℕ → List ℕ → List ℕ
left_cell width text =
    if nat_lt 0 width then codes "  " ++ text ++ replicate (width - characters text) 32 else []

-- a text at the right end of so many places, behind two spaces
abbrev pub cell : ℕ → List ℕ → List ℕ
cell width text = codes "  " ++ replicate (width - length text) 32 ++ text
