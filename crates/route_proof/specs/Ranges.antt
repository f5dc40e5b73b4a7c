-- The ranges of a proof, on a network and for a route.
use Rattle.std.specs.Prelude.{ℕ, ◌+◌, ◌<◌, ◌≤◌, List, Option, None, Some, length}
use Rattle.std.specs.List.{All}
use Rattle.charge_curve.specs.Points.{ArePoints}
use Rattle.ev_model.specs.Network.{Network, node_count}
use Rattle.certificate_parts.specs.Ranges.{ColumnFits, PointFits}
use Rattle.route_plan.specs.declared.plan.RoutePlan.{RoutePlan}
use Rattle.route_proof.specs.declared.proof.RouteLabel.{RouteLabel}
use Rattle.route_proof.specs.declared.proof.RouteProof.{RouteProof}

-- a label of a vehicle that is not yet at the end of the route
pub record RouteLabelFits (g : Network) (route : List ℕ) (l : RouteLabel) : Type 0 where
  pub passed : l.passed + 2 ≤ length route
  pub node : l.node < node_count g
  pub valid : ArePoints l.value
  pub points : All (PointFits g) l.value

abbrev pub ListedPlanFits : Option RoutePlan → Type 0
ListedPlanFits None = Unit {0}
ListedPlanFits (Some plan) = ColumnFits plan

pub record ProofFits (g : Network) (route : List ℕ) (p : RouteProof) : Type 0 where
  pub plan : ListedPlanFits p.plan
  pub labels : All (RouteLabelFits g route) p.labels
