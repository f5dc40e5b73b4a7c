-- The open braces and brackets of a text, the innermost first, each with the unit of its current key.
use Rattle.std.specs.Prelude.{ℕ, nat_eq, Bool, true, false, List, [], ◌∷◌, Option, Some, None, if◌then◌else◌, codes}
use Rattle.std.specs.List.{list_any}
use Rattle.std.specs.Cmp.Lexicographic.{pointwise}
use Rattle.decimal_import.specs.declared.token.Bracket.{Bracket}
use Rattle.decimal_import.specs.declared.token.Bracket.TheVariants.{Brace, Square}
use Rattle.decimal_import.specs.declared.nesting.Unit.{Unit as Measure}
use Rattle.decimal_import.specs.declared.nesting.Unit.TheVariants.{Time, Energy}
use Rattle.decimal_import.specs.declared.nesting.Open.{Open}

-- the keys under which numbers are times
abbrev pub time_keys : List (List ℕ)
time_keys =
    codes "time_matrix" ∷ codes "process_times" ∷ codes "time" ∷ codes "t_max" ∷ codes "max_t" ∷
    codes "plug_time" ∷ []

-- the keys under which numbers are energies
abbrev pub energy_keys : List (List ℕ)
energy_keys =
    codes "energy_matrix" ∷ codes "max_q" ∷ codes "charge" ∷ codes "min_q" ∷ codes "home_q" ∷ []

-- whether a key is among these, byte by byte
abbrev pub is_among : List ℕ → List (List ℕ) → Bool
is_among key keys = list_any (pointwise nat_eq key) keys

-- what the numbers under a key measure; none under any other key
abbrev pub unit_of_key : List ℕ → Option Measure
unit_of_key key =
    if is_among key time_keys then Some Time else if is_among key energy_keys then Some Energy
    else None

-- the unit of the current key of the innermost
abbrev pub unit_here : List Open → Option Measure
unit_here [] = None
unit_here (o ∷ os) = o.unit

-- A brace begins without a key, and a bracket with the key that holds where it stands.
abbrev pub opened : Bracket → List Open → List Open
opened Brace opens = record { bracket = Brace; unit = None } ∷ opens
opened Square opens = record { bracket = Square; unit = unit_here opens } ∷ opens

abbrev pub is_same : Bracket → Bracket → Bool
is_same Brace Brace = true
is_same Square Square = true
is_same a b = false

-- without the innermost, where it is of this kind
abbrev pub closed : Bracket → List Open → Option (List Open)
closed kind [] = None
closed kind (o ∷ os) = if is_same o.bracket kind then Some os else None

-- A key becomes the current one of the innermost.
abbrev pub under_key : List ℕ → List Open → List Open
under_key key [] = []
under_key key (o ∷ os) = record o { unit = unit_of_key key } ∷ os
