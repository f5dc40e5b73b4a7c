-- The fastest of the whole plans that a plan in kths rounds to.
use Rattle.std.specs.Prelude.{◌≡◌, ℕ, ◌<◌, ◌≤◌, Bool, true, false, nat_lt, Option, None, Some, List}
use Rattle.ev_model.specs.Feasible.{IsFeasible}
use Rattle.ev_model.specs.Network.{Network}
use Rattle.ev_model.specs.Time.{time_of}
use Rattle.ev_model.specs.declared.Stop.{Stop}
use Rattle.rounding_law.specs.Rounding.{rounded_plan, rounded_time}

-- the time of a whole plan, none where it is not feasible
abbrev pub IsTimeOf : Network → ℕ → List Stop → Option ℕ → Type 0
IsTimeOf g start stops None = IsFeasible g 1 start stops → ⊥
IsTimeOf g start stops (Some time) = IsFeasible g 1 start stops × (time ≡ time_of g 1 start stops)

-- a time is less than another; no time is less than none
abbrev pub is_less : Option ℕ → Option ℕ → Bool
is_less None than = false
is_less (Some time) None = true
is_less (Some time) (Some than) = nat_lt time than

-- an offset whose whole plan is feasible, and as fast as those of the other offsets that are feasible
pub record IsFastestOffset (g : Network) (k start : ℕ) (stops : List Stop) (offset : ℕ) : Type 0 where
  pub below : offset < k
  pub feasible : IsFeasible g 1 start (rounded_plan g k offset start stops)
  pub fastest : (j : ℕ) → j < k → IsFeasible g 1 start (rounded_plan g k j start stops)
      → rounded_time g k offset start stops ≤ rounded_time g k j start stops
