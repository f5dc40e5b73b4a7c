-- The lines of a verdict on a near proof: that it is accepted, and its bound, or the first rule
-- that it breaks.
use Rattle.std.specs.Prelude.{ℕ, ◌++◌, ◌∷◌, [], List, Option, None, Some, decimal, codes}
use Rattle.report_lines.specs.Lines.{infeasible_line, scaled_line}
use Rattle.near_proof.specs.declared.verdict.NearVerdict.{NearVerdict}
use Rattle.near_proof.specs.declared.verdict.NearVerdict.TheVariants.{Accepted, Bound, End, Start, Step, Tight}

-- the scaled bound over the denominator, or that there is no fleet plan
abbrev pub near_bound_text : ℕ → Option ℕ → List ℕ
near_bound_text denominator None = infeasible_line
near_bound_text denominator (Some bound) = scaled_line (codes "bound ") denominator (Some bound)

abbrev pub rejected_line : List ℕ → List ℕ
rejected_line rule = codes "rejected near " ++ rule ++ 10 ∷ []

-- a broken rule is told by its number, and what breaks it: the label and the node of a step, the
-- label, or the node of the customer
abbrev pub near_verdict_text : ℕ → Option ℕ → NearVerdict → List ℕ
near_verdict_text denominator bound Accepted =
    codes "accepted" ++ 10 ∷ scaled_line (codes "bound ") denominator bound
near_verdict_text denominator bound Start = rejected_line (codes "1")
near_verdict_text denominator bound (Step label node) =
    rejected_line (codes "2 label " ++ decimal label ++ codes " node " ++ decimal node)
near_verdict_text denominator bound (End label) =
    rejected_line (codes "3 label " ++ decimal label)
near_verdict_text denominator bound Bound = rejected_line (codes "4")
near_verdict_text denominator bound (Tight customer) =
    rejected_line (codes "5 customer " ++ decimal customer)
