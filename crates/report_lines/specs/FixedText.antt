-- What `fixed` puts: the charged route, a line a stop, or that there is none.
use Rattle.std.specs.Prelude.{ℕ, ◌++◌, ◌∷◌, [], List, Option, None, Some, nat_lt, decimal, codes, if◌then◌else◌}
use Rattle.ev_model.specs.declared.Stop.{Stop}
use Rattle.report_lines.specs.Lines.{infeasible_line, time_text}

abbrev pub amount_text : ℕ → List ℕ
amount_text added = if nat_lt 0 added then codes " charge " ++ decimal added else []

-- a stop that was inserted is `via` its node, another is `at` it
abbrev pub stop_line : Stop → List ℕ
stop_line s =
    (if s.via then codes "via " else codes "at ")
    ++ decimal s.node ++ amount_text s.added ++ 10 ∷ []

abbrev pub stop_lines : List Stop → List ℕ
stop_lines [] = []
stop_lines (s ∷ ss) = stop_line s ++ stop_lines ss

-- a plan with its scaled time, or none
abbrev pub fixed_text : ℕ → Option (List Stop × ℕ) → List ℕ
fixed_text denominator None = infeasible_line
fixed_text denominator (Some plan) =
    time_text denominator plan.1 ++ stop_lines plan.0
