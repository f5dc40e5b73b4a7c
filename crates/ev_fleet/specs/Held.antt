-- The cheapest plan that was found so far.
use Rattle.std.specs.Prelude.{◌≡◌, ℕ, Option, IfSome, option_map}
use Rattle.ev_model.specs.Network.{Network}
use Rattle.ev_fleet.specs.Plans.{IsHeld, cost_of_fleet}
use Rattle.ev_fleet.specs.declared.held.Held.{Held}

-- a plan with its cost
pub record IsHeldAt (g : Network) (h : Held) : Type 0 where
  pub plan : IsHeld g h.plan
  pub cost : h.cost ≡ cost_of_fleet g h.plan

abbrev pub MayHold : Network → Option Held → Type 0
MayHold g held = IfSome held (IsHeldAt g)

-- the cost of the plan that is held
abbrev pub cost_at : Option Held → Option ℕ
cost_at held = option_map (λ (h : Held). h.cost) held
