-- Plans that may be driven.
use Rattle.std.specs.Prelude.{ℕ, ◌*◌, ◌≤◌, List}
use Rattle.ev_model.specs.Network.{Network, scaled_limit}
use Rattle.ev_model.specs.Plan.{IsPlanIn}
use Rattle.ev_model.specs.Levels.{KeepsBattery}
use Rattle.ev_model.specs.Time.{time_of}
use Rattle.ev_model.specs.declared.Stop.{Stop}

-- a plan in kths that keeps the battery and lasts no longer than the limit
pub record IsFeasible (g : Network) (k start : ℕ) (stops : List Stop) : Type 0 where
  pub plan : IsPlanIn g k stops
  pub battery : KeepsBattery g k start stops
  pub in_time : time_of g k start stops ≤ k * scaled_limit g
