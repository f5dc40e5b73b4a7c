-- Texts of charged routes: those that `fixed` puts, of numbers that may stand in a text.
use Rattle.std.specs.Prelude.{◌≡◌, ℕ, ◌≤◌, List, Option, None, Some, length}
use Rattle.std.specs.List.{All}
use Rattle.ev_model.specs.declared.Stop.{Stop}
use Rattle.ev_text.specs.Texts.{Begins, IsTextOf}
use Rattle.report_lines.specs.FixedText.{fixed_text}
use Rattle.route_plan.specs.Limits.{most_bytes}
use Rattle.route_plan.specs.PlanTexts.{IsSmallStop}
use Rattle.fixed_reader.specs.FixedReading.{greatest_time}
use Rattle.fixed_reader.specs.declared.reading.ChargedRoute.{ChargedRoute}

-- the stops and the time of a charged route
abbrev pub charged : ChargedRoute → List Stop × ℕ
charged c = (c.plan.stops, c.time)

-- a charged route, or none, may stand in a text: its numbers are small
abbrev pub FitsFixed : Option (List Stop × ℕ) → Type 0
FitsFixed None = Unit {0}
FitsFixed (Some plan) = All IsSmallStop plan.0 × (plan.1 ≤ greatest_time)

-- the bytes are what `fixed` puts of the charged route, or of none, and are not too many
pub record SpellsFixed (denominator : ℕ) (bytes : List ℕ)
    (plan : Option (List Stop × ℕ)) : Type 0 where
  pub within : length bytes ≤ most_bytes
  pub fits : FitsFixed plan
  pub text : bytes ≡ fixed_text denominator plan

-- the bytes begin such a text: they are one, or can be continued to one, which may be of any length
abbrev pub BeginsFixed : ℕ → List ℕ → Type 0
BeginsFixed denominator bytes = Begins (IsTextOf (fixed_text denominator) FitsFixed) bytes
