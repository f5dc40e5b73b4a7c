-- The rule on shapes: lists and matrices have the right lengths.
use Rattle.std.specs.Prelude.{ℕ, ◌||◌, List, [], ◌∷◌, Option, length, nat_eq, nat_lt, not}
use Rattle.std.specs.Bool.{then_some}
use Rattle.ev_model.specs.Network.{most_nodes}
use Rattle.instance_reader.specs.Contents.{Contents, CurveOfType, nodes_of}
use Rattle.instance_reader.specs.Places.{at_key, part_of}
use Rattle.instance_reader.specs.Search.{first, look_along}
use Rattle.instance_reader.specs.declared.places.Place.{Place}
use Rattle.instance_reader.specs.declared.places.Key.TheVariants.{Breaks, Service, Energy, Time}
use Rattle.instance_reader.specs.declared.places.Part.TheVariants as part

-- the most entries of breakpoints_by_type
abbrev pub most_types : ℕ
most_types = 16

-- a row with another number of entries
abbrev pub odd_row : ℕ → Place → List ℕ → Option Place
odd_row nodes place row = then_some (not (nat_eq (length row) nodes)) place

abbrev pub odd_row_in : ℕ → Place → List (List ℕ) → Option Place
odd_row_in nodes place rows = look_along (odd_row nodes) place rows

-- a curve with as many charges as times has breakpoints
abbrev pub uneven : Place → CurveOfType → Option Place
uneven place curve =
    then_some (not (nat_eq (length curve.times) (length curve.charges))) (part_of place part.Charge)

-- the first place of a list or a matrix that has a wrong length
unfoldable pub first_wrong_shape : Contents → Option Place
first_wrong_shape c = first
    (then_some (nat_lt most_types (length c.curves)) (at_key Breaks)
    ∷ look_along uneven (at_key Breaks) c.curves
    ∷ then_some (nat_lt (nodes_of c) (length c.process_times)) (at_key Service)
    ∷ then_some (nat_eq (nodes_of c) 0 || nat_lt most_nodes (nodes_of c)) (at_key Energy)
    ∷ odd_row_in (nodes_of c) (at_key Energy) c.energies
    ∷ then_some (not (nat_eq (length c.times) (nodes_of c))) (at_key Time)
    ∷ odd_row_in (nodes_of c) (at_key Time) c.times
    ∷ [])
