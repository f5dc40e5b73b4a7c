-- The lines of a verdict on a proof: that it is accepted, and what it shows, or the first rule that
-- it breaks.
use Rattle.std.specs.Prelude.{ℕ, Bool, true, false, ◌++◌, ◌∷◌, [], List, Option, None, Some, decimal, codes}
use Rattle.report_lines.specs.Lines.{infeasible_line, over}
use Rattle.report_lines.specs.Walks.{walk_text}
use Rattle.route_proof.specs.declared.verdict.RouteVerdict.{RouteVerdict}
use Rattle.route_proof.specs.declared.verdict.RouteVerdict.TheVariants.{Accepted, End, Other, Plan, Start, Step}

-- the least scaled time of a plan of the route, or that no plan is feasible
abbrev pub least_line : ℕ → Option ℕ → List ℕ
least_line denominator None = infeasible_line
least_line denominator (Some time) = codes "least " ++ over denominator time ++ 10 ∷ []

abbrev pub rejected_line : List ℕ → List ℕ
rejected_line rule = codes "rejected proof " ++ rule ++ 10 ∷ []

-- the node of a step is the next of the route, or a station that is inserted
abbrev pub step_word : Bool → List ℕ
step_word true = codes " via "
step_word false = codes " node "

-- a broken rule is told by its number, and what breaks it: the rule of the walk and the stop, or the
-- label and the node
abbrev pub verdict_text : ℕ → Option ℕ → RouteVerdict → List ℕ
verdict_text denominator time Accepted = codes "accepted" ++ 10 ∷ least_line denominator time
verdict_text denominator time (Plan fault) = rejected_line (codes "1 walk " ++ walk_text fault)
verdict_text denominator time Other = rejected_line (codes "2")
verdict_text denominator time Start = rejected_line (codes "3")
verdict_text denominator time (Step label node via) =
    rejected_line (codes "4 label " ++ decimal label ++ step_word via ++ decimal node)
verdict_text denominator time (End label) = rejected_line (codes "5 label " ++ decimal label)
