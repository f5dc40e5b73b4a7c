-- What pricing of near routes answers.
use Rattle.std.specs.Prelude.{◌*◌, ◌<◌, ◌≤◌, List, length}
use Rattle.std.specs.List.{All}
use Rattle.certificate_parts.specs.Limits.{most_items}
use Rattle.certificate_parts.specs.Ranges.{ColumnFits}
use Rattle.ev_model.specs.Network.{Network}
use Rattle.ev_model.specs.Time.{time_of}
use Rattle.fleet_model.specs.Places.{numbers_of}
use Rattle.near_proof.specs.Closed.{AreClosed}
use Rattle.near_proof.specs.Ranges.{NearLabelFits}
use Rattle.near_proof.specs.Routes.{IsNearRoute}
use Rattle.near_proof.specs.Terms.{earned_by, Terms}
use Rattle.near_proof.specs.declared.proof.NearLabel.{NearLabel}
use Rattle.route_plan.specs.declared.plan.RoutePlan.{RoutePlan}
use Rattle.near_pricing.specs.declared.priced.NearPriced.{NearPriced}
use Rattle.near_pricing.specs.declared.priced.NearPriced.TheVariants.{Better, Closed}

-- a near route that takes, times the weight, less than it earns, and has a text
pub record IsBetter (g : Network) (t : Terms) (plan : RoutePlan) : Type 0 where
  pub route : IsNearRoute g t.sets plan.stops
  pub earns : t.weight * time_of g 1 g.capacity plan.stops
      < earned_by t.prices (numbers_of g plan.stops)
  pub fits : ColumnFits plan

-- labels that are closed and in the ranges of a near proof, in which so many may stand
pub record AreClosedLabels (g : Network) (t : Terms) (labels : List NearLabel) : Type 0 where
  pub closed : AreClosed g t labels
  pub fits : All (NearLabelFits g) labels
  pub few : length labels ≤ most_items

-- a route that earns more than it takes, or labels that show that there is none
abbrev pub IsNearPriced : Network → Terms → NearPriced → Type 0
IsNearPriced g t (Better plan) = IsBetter g t plan
IsNearPriced g t (Closed labels) = AreClosedLabels g t labels
