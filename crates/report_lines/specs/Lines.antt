-- Lines that several reports have. A scaled number is one of scaled units, told over the denominator, never reduced.
use Rattle.std.specs.Prelude.{ℕ, ◌-◌, ◌≤◌, ◌++◌, ◌∷◌, [], List, Option, None, Some, decimal, codes}

-- a word, a number and the end of the line
abbrev pub number_line : List ℕ → ℕ → List ℕ
number_line word number = word ++ decimal number ++ 10 ∷ []

abbrev pub infeasible_line : List ℕ
infeasible_line = codes "infeasible" ++ 10 ∷ []

-- a number of scaled units over the denominator
abbrev pub over : ℕ → ℕ → List ℕ
over denominator scaled = decimal scaled ++ codes "/" ++ decimal denominator

-- the line of a scaled time
abbrev pub time_text : ℕ → ℕ → List ℕ
time_text denominator time = codes "time " ++ over denominator time ++ 10 ∷ []

-- the scaled time of a route, or none
abbrev pub time_line : ℕ → Option ℕ → List ℕ
time_line denominator None = infeasible_line
time_line denominator (Some time) = time_text denominator time

-- a scaled cost or bound over the denominator, where there is one
abbrev pub scaled_text : ℕ → Option ℕ → List ℕ
scaled_text denominator None = codes "none"
scaled_text denominator (Some scaled) = over denominator scaled

-- a word, a cost or a bound, and the end of the line
abbrev pub scaled_line : List ℕ → ℕ → Option ℕ → List ℕ
scaled_line word denominator scaled = word ++ scaled_text denominator scaled ++ 10 ∷ []

-- how far the bound is below the cost, where both stand
abbrev pub gap_of : Option ℕ → Option ℕ → Option ℕ
gap_of (Some cost) (Some bound) = Some (cost - bound)
gap_of cost bound = None

-- the bound is no greater than the cost, where both stand
abbrev pub IsBoundOf : Option ℕ → Option ℕ → Type 0
IsBoundOf (Some cost) (Some bound) = bound ≤ cost
IsBoundOf cost bound = Unit {0}

-- a cost, a bound and their gap
abbrev pub bounds_text : ℕ → Option ℕ → Option ℕ → List ℕ
bounds_text denominator cost bound =
    scaled_line (codes "cost ") denominator cost
    ++ scaled_line (codes "bound ") denominator bound
    ++ scaled_line (codes "gap ") denominator (gap_of cost bound)
