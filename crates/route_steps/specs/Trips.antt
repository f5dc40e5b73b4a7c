-- A route of a network that is to be driven.
use Rattle.std.specs.Prelude.{ℕ, ◌-◌, ◌≤◌, List, length, max, nat_eq, if◌then◌else◌}
use Rattle.ev_model.specs.Network.{IsNetwork, Network}
use Rattle.ev_model.specs.Route.{IsRoute}

pub record Journey : Type 0 where
  pub network : Network
  pub route : List ℕ
  -- the charge that the vehicle starts with
  pub start : ℕ

pub record IsTrip (g : Network) (route : List ℕ) : Type 0 where
  pub network : IsNetwork g
  pub is_route : IsRoute g route
  pub two : 2 ≤ length route

-- the least level on arriving somewhere once so much of the route was passed
abbrev pub least_level : Network → List ℕ → ℕ → ℕ
least_level g route passed =
    if nat_eq passed (length route - 1) then max g.reserve g.home_level else g.reserve
