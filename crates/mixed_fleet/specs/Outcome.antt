-- What planning a fleet of several kinds of vehicles answers.
use Rattle.std.specs.Prelude.{◌≡◌, ℕ, ◌≤◌, List, Option, None, Some, IfSome}
use Rattle.ev_model.specs.Network.{Network}
use Rattle.mixed_model.specs.declared.proof.MixedRoot.{MixedRoot}
use Rattle.mixed_model.specs.declared.proof.MixedRoot.TheVariants as root
use Rattle.mixed_model.specs.declared.proof.MixedRoute.{MixedRoute}
use Rattle.mixed_fleet.specs.Plans.{cost_held, cost_of_routes, CostsNoMoreThanOwn, IsHeld}
use Rattle.mixed_fleet.specs.Proofs.{IsBestProof}
use Rattle.mixed_fleet.specs.Whole.{AreWhole}
use Rattle.mixed_fleet.specs.declared.outcome.MixedOutcome.{MixedOutcome}

-- the routes cost at least the bound, which is a number
abbrev pub CostsAtLeast : List Network → Option ℕ → List MixedRoute → Type 0
CostsAtLeast kinds None routes = ⊥
CostsAtLeast kinds (Some bound) routes = bound ≤ cost_of_routes kinds routes

-- a plan is held, and it costs exactly the bound
abbrev pub MeetsBound : List Network → Option ℕ → Option (List MixedRoute) → Type 0
MeetsBound kinds bound plan =
    (held : List MixedRoute) × (plan ≡ Some held) × (bound ≡ Some (cost_of_routes kinds held))

-- where each share of an exact root is whole, cost equals bound
abbrev pub MeetsWhereWhole : List Network → Option ℕ → Option (List MixedRoute) → MixedRoot →
    Type 0
MeetsWhereWhole kinds bound plan root.None = Unit {0}
MeetsWhereWhole kinds bound plan (root.Exact over shares) =
    AreWhole over shares → MeetsBound kinds bound plan
MeetsWhereWhole kinds bound plan (root.Wide columns basis) = Unit {0}

pub record IsOutcome (kinds : List Network) (o : MixedOutcome) : Type 0 where
  pub proof_is : IsBestProof kinds o.proof
  pub held : IfSome o.plan (IsHeld kinds)
  pub cost : o.cost ≡ cost_held kinds o.plan
  pub above : IfSome o.plan (CostsAtLeast kinds o.proof.bound)
  pub own : CostsNoMoreThanOwn kinds o.plan
  pub whole : MeetsWhereWhole kinds o.proof.bound o.plan o.proof.root
