-- What is asked of the labels of a route: whether they are closed, under a bar.
use Rattle.std.specs.Prelude.{ℕ, List}
use Rattle.std.specs.List.{All}
use Rattle.ev_model.specs.Network.{IsNetwork}
use Rattle.ev_model.specs.Route.{IsRoute}
use Rattle.route_steps.specs.Trips.{Journey}
use Rattle.route_proof.specs.Ranges.{RouteLabelFits}
use Rattle.route_proof.specs.declared.proof.RouteLabel.{RouteLabel}

pub record Question : Type 0 where
  pub journey : Journey
  pub bar : ℕ
  pub labels : List RouteLabel

-- the ranges in which it may be asked
pub record IsQuestion (q : Question) : Type 0 where
  pub network : IsNetwork q.journey.network
  pub is_route : IsRoute q.journey.network q.journey.route
  pub labels : All (RouteLabelFits q.journey.network q.journey.route) q.labels
