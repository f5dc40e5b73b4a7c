-- The rule on sizes: no number is too large.
use Rattle.std.specs.Prelude.{ℕ, ◌^◌, List, [], ◌∷◌, Option, nat_lt}
use Rattle.std.specs.Bool.{then_some}
use Rattle.instance_reader.specs.Contents.{Contents, CurveOfType}
use Rattle.instance_reader.specs.Places.{at_key, part_of}
use Rattle.instance_reader.specs.Search.{first, look_along}
use Rattle.instance_reader.specs.declared.places.Place.{Place}
use Rattle.instance_reader.specs.declared.places.Key.TheVariants.{MaxQ, Breaks, Service, Energy, Time, MinQ, HomeQ}
use Rattle.instance_reader.specs.declared.places.Part.TheVariants as part

-- the largest number that a matrix, a curve, a process time, a time to plug in or a level may be
abbrev pub most_number : ℕ
most_number = 10 ^ 9

abbrev pub large : Place → ℕ → Option Place
large place number = then_some (nat_lt most_number number) place

abbrev pub large_in : Place → List ℕ → Option Place
large_in place numbers = look_along large place numbers

abbrev pub large_in_rows : Place → List (List ℕ) → Option Place
large_in_rows place rows = look_along large_in place rows

abbrev pub large_in_curve : Place → CurveOfType → Option Place
large_in_curve place curve = first
    (large_in (part_of place part.Time) curve.times
    ∷ large_in (part_of place part.Charge) curve.charges
    ∷ large (part_of place part.Plug) curve.plug_time
    ∷ [])

-- the first place where a number is too large
unfoldable pub first_large : Contents → Option Place
first_large c = first
    (large (at_key MaxQ) c.capacity
    ∷ look_along large_in_curve (at_key Breaks) c.curves
    ∷ large_in (at_key Service) c.process_times
    ∷ large_in_rows (at_key Energy) c.energies
    ∷ large_in_rows (at_key Time) c.times
    ∷ large (at_key MinQ) c.reserve
    ∷ large (at_key HomeQ) c.home_level
    ∷ [])
