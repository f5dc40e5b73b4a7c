-- Which proofs have a text. And the wider language of what may begin such a text: each number is in
-- its range by itself, without the rules over several numbers.
use Rattle.std.specs.Prelude.{ℕ, ◌-◌, ◌≤◌, List, length}
use Rattle.ev_model.specs.Network.{Network}
use Rattle.ev_text.specs.Texts.{AreLooseRun}
use Rattle.route_plan.specs.Limits.{greatest_number}
use Rattle.certificate_parts.specs.Limits.{most_items}
use Rattle.certificate_parts.specs.WrittenRanges.{PointsLoose}
use Rattle.route_proof.specs.Ranges.{ListedPlanFits, ProofFits}
use Rattle.route_proof.specs.declared.proof.RouteLabel.{RouteLabel}
use Rattle.route_proof.specs.declared.proof.RouteProof.{RouteProof}

-- a proof in its ranges, with no more labels than a text may count
pub record HasText (g : Network) (route : List ℕ) (p : RouteProof) : Type 0 where
  pub fits : ProofFits g route p
  pub few : length p.labels ≤ most_items

pub record RouteLabelLoose (g : Network) (route : List ℕ) (l : RouteLabel) : Type 0 where
  pub passed : l.passed ≤ length route - 2
  pub node : l.node ≤ greatest_number
  pub points : PointsLoose g l.value

pub record ProofLoose (g : Network) (route : List ℕ) (p : RouteProof) : Type 0 where
  pub plan : ListedPlanFits p.plan
  pub few : length p.labels ≤ most_items
  pub labels : AreLooseRun (RouteLabelLoose g route) (length p.labels) p.labels
