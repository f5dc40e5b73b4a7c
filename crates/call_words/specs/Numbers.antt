-- Numbers in their one spelling, as words and as values of options.
use Rattle.std.specs.Prelude.{ℕ, ◌^◌, Option, None, Some, Result, Ok, Err, List, nat_eq, option_and_then, option_map, if◌then◌else◌, length}
use Rattle.clap.specs.Words.{Text}
use Rattle.ev_text.specs.Scans.{rest_of, whole_at}
use Rattle.ev_text.specs.declared.TextFault.{TextFault}

-- the greatest value of an option, as of a limit
abbrev pub most_value : ℕ
most_value = 10 ^ 18

-- the whole word is a number in its one spelling, at most `most`
abbrev pub all_taken : Result (ℕ × (List ℕ × ℕ)) TextFault → Option ℕ
all_taken (Ok found) = if nat_eq (length (rest_of found.1)) 0 then Some found.0 else None
all_taken (Err fault) = None

abbrev pub number_of : ℕ → Text → Option ℕ
number_of most word = all_taken (whole_at most (word, 0))

-- an option that need not be given: no number where it is not, and else the number of its value
abbrev pub optional_number : ℕ → Option Text → Option (Option ℕ)
optional_number most None = Some None
optional_number most (Some word) = option_map (λ n. Some n) (number_of most word)

-- an option that has to be given
abbrev pub required_number : ℕ → Option Text → Option ℕ
required_number most word = option_and_then (number_of most) word
