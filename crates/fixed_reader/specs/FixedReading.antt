-- How what `fixed` puts is read from left to right: the value, or the first place where the text is none.
use Rattle.std.specs.Prelude.{ℕ, zero, suc, ◌^◌, Bool, true, false, List, [], ◌∷◌, ◌++◌, Option, None, Some, Result, Ok, Err, codes, decimal, length, nat_eq, if◌then◌else◌}
use Rattle.ev_model.specs.declared.Stop.{Stop}
use Rattle.ev_text.specs.Readers.{Reader, answer, behind_word, choice_at, positive_at, then_reads, whole_with}
use Rattle.ev_text.specs.Scans.{and_then, rest_of, whole_at}
use Rattle.ev_text.specs.declared.TextFault.TheVariants.{End}
use Rattle.report_lines.specs.Lines.{infeasible_line}
use Rattle.route_plan.specs.Limits.{greatest_number}
use Rattle.route_plan.specs.PlanReading.{unless_too_long}
use Rattle.route_plan.specs.declared.text.plan_text.PlanText.{PlanText}

-- the greatest scaled time
abbrev pub greatest_time : ℕ
greatest_time = 10 ^ 18

-- the end of a line, by whether the line feed stands there alone: else the amount, which is above 0, stands in front of it
abbrev pub amount_behind : Bool → Reader ℕ
amount_behind true = answer 0
amount_behind false =
    behind_word (codes " charge ")
    (then_reads (positive_at greatest_number) (λ added. behind_word (10 ∷ []) (answer added)))

abbrev pub amount_at : Reader ℕ
amount_at = then_reads (choice_at (10 ∷ [])) amount_behind

-- the node and the amount of a stop, which was inserted or not
abbrev pub line_behind : Bool → Reader Stop
line_behind via =
    then_reads (whole_at greatest_number) (λ node.
    then_reads amount_at (λ added.
    answer (record { node = node; added = added; via = via })))

-- the line of a stop, by whether its first word is `via`: else that is `at`
abbrev pub line_by : Bool → Reader Stop
line_by true = line_behind true
line_by false = behind_word (codes "at ") (line_behind false)

abbrev pub line_at : Reader Stop
line_at = then_reads (choice_at (codes "via ")) line_by

-- items up to the end of the text, and at most so many
abbrev pub few_to_end : {A : Type 0} → Reader A → ℕ → Reader (List A)
few_to_end read zero s = Err (End s.1)
few_to_end read (suc most) s =
    if nat_eq (length (rest_of s)) 0 then Ok ([], s)
    else and_then (read s) (λ item.
    and_then (few_to_end read most item.1) (λ items. Ok (item.0 ∷ items.0, items.1)))

-- items up to the end of the text; no text has more of them than bytes
abbrev pub each_to_end : {A : Type 0} → Reader A → Reader (List A)
each_to_end read s = few_to_end read (suc (length s.0)) s

-- a charged route: its scaled time over the denominator, and a line a stop
abbrev pub charged_at : ℕ → Reader (List Stop × ℕ)
charged_at denominator =
    behind_word (codes "time ")
    (then_reads (whole_at greatest_time) (λ time.
    behind_word (codes "/" ++ decimal denominator ++ 10 ∷ [])
    (then_reads (each_to_end line_at) (λ stops. answer (stops, time)))))

-- a charged route, or none, by whether the text says that there is none
abbrev pub fixed_by : ℕ → Bool → Reader (Option (List Stop × ℕ))
fixed_by denominator true = answer None
fixed_by denominator false = then_reads (charged_at denominator) (λ plan. answer (Some plan))

abbrev pub fixed_at : ℕ → Reader (Option (List Stop × ℕ))
fixed_at denominator = then_reads (choice_at infeasible_line) (fixed_by denominator)

-- the charged route of the bytes, or none, or their first fault
abbrev pub fixed_in : ℕ → List ℕ → Result (Option (List Stop × ℕ)) PlanText
fixed_in denominator bytes = unless_too_long bytes (whole_with (fixed_at denominator) bytes)
