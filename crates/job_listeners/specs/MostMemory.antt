-- The most memory that a process had taken, by the text of its status.
use Rattle.std.specs.Prelude.{◌==◌, ◌||◌, ℕ, ◌-◌, ◌^◌, Bool, List, [], ◌∷◌, Option, None, Some, Result, Ok, Err, codes, drop, length, nat_eq, if◌then◌else◌}
use Rattle.std.specs.List.{starts_with, take_while}
use Rattle.ev_text.specs.Scans.{whole_at}
use Rattle.ev_text.specs.declared.TextFault.{TextFault}

-- what stands in front of the number
abbrev pub mark : List ℕ
mark = codes "VmHWM:"

abbrev pub is_blank : ℕ → Bool
is_blank b = b == 32 || b == 9

abbrev pub number_taken : Result (ℕ × (List ℕ × ℕ)) TextFault → Option ℕ
number_taken (Ok found) = Some found.0
number_taken (Err fault) = None

-- the number behind blanks
abbrev pub number_behind : List ℕ → Option ℕ
number_behind text =
    number_taken (whole_at (2 ^ 64 - 1) (drop (length (take_while is_blank text)) text, 0))

-- the number behind the first mark
abbrev pub most_memory : List ℕ → Option ℕ
most_memory [] = None
most_memory (b ∷ bs) =
    if starts_with nat_eq (b ∷ bs) mark then number_behind (drop (length mark) (b ∷ bs))
    else most_memory bs
