-- What an accepted near proof shows.
use Rattle.std.specs.Prelude.{◌≡◌, ℕ, ◌*◌, ◌<◌, ◌≤◌, true, List, Option, None, Some}
use Rattle.ev_model.specs.Fleet.{cost_of, IsFleetPlan}
use Rattle.ev_model.specs.Network.{is_customer, Network, node_count}
use Rattle.ev_model.specs.Time.{time_of}
use Rattle.ev_model.specs.declared.Stop.{Stop}
use Rattle.fleet_model.specs.Places.{customer_number, numbers_of}
use Rattle.near_proof.specs.Accepted.{terms_of}
use Rattle.near_proof.specs.Closed.{AreClosed}
use Rattle.near_proof.specs.Covered.{AreWithinFull}
use Rattle.near_proof.specs.Routes.{IsNearRoute}
use Rattle.near_proof.specs.Terms.{earned_by, raised, Terms}
use Rattle.near_proof.specs.declared.proof.NearLabel.{NearLabel}
use Rattle.near_proof.specs.declared.proof.NearProof.{NearProof}

-- each near route takes, times the weight, no less than it earns
abbrev pub NearRoutesPay : Network → Terms → Type 0
NearRoutesPay g t =
    (plan : List Stop) → IsNearRoute g t.sets plan →
    earned_by t.prices (numbers_of g plan) ≤ t.weight * time_of g 1 g.capacity plan

-- no fleet plan costs less than the bound, in any fraction of a unit of charge; without one there
-- is no fleet plan, in any fraction
abbrev pub IsTrueNearBound : Network → Option ℕ → Type 0
IsTrueNearBound g None = (k : ℕ) (plans : List (List Stop)) → IsFleetPlan g k plans → ⊥
IsTrueNearBound g (Some bound) =
    (k : ℕ) (plans : List (List Stop)) → IsFleetPlan g k plans → k * bound ≤ cost_of g k plans

-- the terms with the price of the customer at a node one higher
abbrev pub raised_at : Network → Terms → ℕ → Terms
raised_at g t x = record t { prices = raised t.prices (customer_number g x) }

-- where the bound is a number, no customer's price can be one higher: no labels are closed then,
-- of which no level is above full
abbrev pub HasHighestPrices : Network → Terms → Option ℕ → Type 0
HasHighestPrices g t None = Unit {0}
HasHighestPrices g t (Some bound) =
    (x : ℕ) (labels : List NearLabel) → x < node_count g → is_customer g x ≡ true →
    AreWithinFull g labels → AreClosed g (raised_at g t x) labels → ⊥

pub record IsTrue (g : Network) (p : NearProof) : Type 0 where
  pub pay : NearRoutesPay g (terms_of p)
  pub bound : IsTrueNearBound g p.bound
  pub highest : HasHighestPrices g (terms_of p) p.bound
