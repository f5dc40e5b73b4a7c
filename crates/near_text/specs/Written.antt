-- A near proof as it is written: customers by their nodes.
use Rattle.std.specs.Prelude.{ℕ, List, Option, map}
use Rattle.ev_model.specs.Network.{Network}
use Rattle.instance_reader.specs.Instance.{customer_nodes}
use Rattle.route_plan.specs.declared.plan.RoutePlan.{RoutePlan}
use Rattle.certificate_parts.specs.Written.{nodes_in}
use Rattle.near_proof.specs.declared.proof.NearLabel.{NearLabel}
use Rattle.near_proof.specs.declared.proof.NearProof.{NearProof}

pub record WrittenNearLabel : Type 0 where
  pub node : ℕ
  -- the nodes of the customers that are remembered, in rising order
  pub memory : List ℕ
  pub count : ℕ
  pub earned : ℕ
  -- levels, each with its time
  pub points : List (ℕ × ℕ)

pub record WrittenNear : Type 0 where
  pub bound : Option ℕ
  pub weight : ℕ
  pub prices : List ℕ
  -- the nodes of each near set, in rising order
  pub sets : List (List ℕ)
  pub labels : List WrittenNearLabel
  pub tight : List RoutePlan

-- the nodes of the customers of a set, in rising order
abbrev pub written_set : Network → List ℕ → List ℕ
written_set g set = nodes_in set 0 (customer_nodes g)

abbrev pub written_near_label : Network → NearLabel → WrittenNearLabel
written_near_label g l = record {
  node = l.node;
  memory = written_set g l.memory;
  count = l.count;
  earned = l.earned;
  points = l.value;
}

abbrev pub written_near : Network → NearProof → WrittenNear
written_near g p = record {
  bound = p.bound;
  weight = p.weight;
  prices = p.prices;
  sets = map (written_set g) p.sets;
  labels = map (written_near_label g) p.labels;
  tight = p.tight;
}
