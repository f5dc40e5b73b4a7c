-- The plan that is held while one is planned.
use Rattle.std.specs.Prelude.{◌≡◌, ℕ, IfSome, List, Option, option_map}
use Rattle.ev_model.specs.Network.{Network}
use Rattle.mixed_model.specs.declared.proof.MixedRoute.{MixedRoute}
use Rattle.mixed_fleet.specs.Plans.{cost_of_routes, IsHeld}
use Rattle.mixed_fleet.specs.declared.held.Held.{Held}

-- a plan with its cost
pub record IsHeldAt (kinds : List Network) (h : Held) : Type 0 where
  pub plan : IsHeld kinds h.routes
  pub cost : h.cost ≡ cost_of_routes kinds h.routes

abbrev pub MayHold : List Network → Option Held → Type 0
MayHold kinds held = IfSome held (IsHeldAt kinds)

-- the plan that is held
abbrev pub routes_at : Option Held → Option (List MixedRoute)
routes_at held = option_map (λ (h : Held). h.routes) held

-- and its cost
abbrev pub cost_at : Option Held → Option ℕ
cost_at held = option_map (λ (h : Held). h.cost) held
