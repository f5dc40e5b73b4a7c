-- What a command finds in words.
use Rattle.std.specs.Prelude.{◌≡◌, ◌≢◌, ◌&&◌, ◌||◌, ℕ, [], ◌∷◌, Bool, true, List, Option, None, Some, codes, is_none, unwrap_or}
use Rattle.clap.specs.Words.{App, Kinds, Row, Text, all_of, fault_of, first_of, found_of, matches_of, rows_of}
use Rattle.clap.specs.declared.parser.matches.ArgMatches.{ArgMatches}
use Rattle.call_words.specs.Names.{is_listed}
use Rattle.call_words.specs.Numbers.{most_value, optional_number}

-- the rows of what was found
abbrev pub rows_in : ArgMatches → List Row
rows_in matches = rows_of (found_of matches)

-- the matches are those of the words, of which the first is the program's name, and the command
-- takes these; or it refuses them
abbrev pub IsMatched : App → List Text → Option ArgMatches → Type 0
IsMatched app words None = fault_of app words ≢ []
IsMatched app words (Some matches) =
    (fault_of app words ≡ []) × (rows_in matches ≡ matches_of app words)

-- what words name where the command takes them: no error of it comes
abbrev pub job_unless : {A : Type 0} → Kinds → Option A → Option A
job_unless [] job = job
job_unless (kind ∷ kinds) job = None

-- the words behind the word of the command
abbrev pub rest_in : List Row → List Text
rest_in rows = unwrap_or (all_of (codes "rest") rows) []

-- of these options none is given that is not a command's own
abbrev pub gives_own : List Text → List Row → List Text → Bool
gives_own own rows [] = true
gives_own own rows (name ∷ names) =
    (is_listed name own || is_none (first_of name rows)) && gives_own own rows names

-- the limit, where it is given; none where its value is no number of one
abbrev pub limit_in : List Row → Option (Option ℕ)
limit_in rows = optional_number most_value (first_of (codes "limit") rows)
