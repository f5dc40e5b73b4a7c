-- When a near proof is accepted.
use Rattle.std.specs.Prelude.{◌≡◌, ℕ, ◌+◌, ◌<◌, ◌≤◌, true, List, [], Option, None, Some, slice_get}
use Rattle.ev_model.specs.Fleet.{times_in}
use Rattle.ev_model.specs.Network.{is_customer, Network, node_count}
use Rattle.ev_model.specs.Time.{time_of}
use Rattle.ev_model.specs.declared.Stop.{Stop}
use Rattle.fleet_model.specs.Places.{customer_number, numbers_of}
use Rattle.route_plan.specs.declared.plan.RoutePlan.{RoutePlan}
use Rattle.near_proof.specs.Closed.{AreClosed}
use Rattle.near_proof.specs.Routes.{IsNearRoute}
use Rattle.near_proof.specs.Terms.{earned_by, price_total, Terms}
use Rattle.near_proof.specs.declared.proof.NearProof.{NearProof}

abbrev pub terms_of : NearProof → Terms
terms_of p = record { weight = p.weight; prices = p.prices; sets = p.sets }

-- a near route that serves a customer, told by number, m times for an m above 0, and takes less
-- time than it earns and m: by a price one higher it would earn more than it takes
pub record IsTight (g : Network) (t : Terms) (c : ℕ) (plan : List Stop) : Type 0 where
  pub route : IsNearRoute g t.sets plan
  pub serves : 1 ≤ times_in (numbers_of g plan) c
  pub time : time_of g 1 g.capacity plan
      < earned_by t.prices (numbers_of g plan) + times_in (numbers_of g plan) c

-- the route that is listed for a customer is tight
abbrev pub HasTight : Network → NearProof → ℕ → Type 0
HasTight g p c =
    (plan : RoutePlan) × (slice_get p.tight c ≡ Some plan) × IsTight g (terms_of p) c plan.stops

-- a bound that is a number is the price sum, at weight 1; with none the weight is 0, some price is
-- above 0 and no tight route is listed
abbrev pub BoundHolds : NearProof → Option ℕ → Type 0
BoundHolds p None = (p.weight ≡ 0) × (0 < price_total p.prices) × (p.tight ≡ [])
BoundHolds p (Some bound) = (p.weight ≡ 1) × (bound ≡ price_total p.prices)

-- where the bound is a number, each customer has a tight route
abbrev pub AreTight : Network → NearProof → Option ℕ → Type 0
AreTight g p None = Unit {0}
AreTight g p (Some bound) =
    (x : ℕ) → x < node_count g → is_customer g x ≡ true → HasTight g p (customer_number g x)

pub record IsAccepted (g : Network) (p : NearProof) : Type 0 where
  pub closed : AreClosed g (terms_of p) p.labels
  pub bound : BoundHolds p p.bound
  pub tight : AreTight g p p.bound
