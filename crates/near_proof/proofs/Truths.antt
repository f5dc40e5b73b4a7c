-- What an accepted near proof shows.
use Rattle.std.proofs.Common.{◌≡◌, ◌∙◌, ℕ, ◌*◌, ◌<◌, ◌≤◌, List, Option, Some, None, arith, length}
use Rattle.std.proofs.Math.Nat.{mul-le-mul_right}
use Rattle.ev_model.specs.Fleet.{cost_of}
use Rattle.ev_model.specs.Network.{IsNetwork, Network, node_count}
use Rattle.ev_model.specs.Time.{time_of}
use Rattle.ev_model.specs.declared.Stop.{Stop}
use Rattle.fleet_model.specs.Places.{customer_count, customer_number, numbers_of}
use Rattle.fleet_model.proofs.Counts.{number_less}
use Rattle.fleet_model.proofs.Numbers.{counted}
use Rattle.near_proof.specs.Accepted.{AreTight, BoundHolds, IsAccepted, IsTight, terms_of}
use Rattle.near_proof.specs.Ranges.{NearFits}
use Rattle.near_proof.specs.Terms.{price_total, raised, Terms}
use Rattle.near_proof.specs.Truth.{HasHighestPrices, IsTrue, IsTrueNearBound, NearRoutesPay, raised_at}
use Rattle.near_proof.specs.declared.proof.NearProof.{NearProof}
use Rattle.near_proof.proofs.Fits.{within_full}
use Rattle.near_proof.proofs.Fleets.{fleet_pays, some_kths}
use Rattle.near_proof.proofs.Raised.{raised_earns}
use Rattle.near_proof.proofs.Sound.{routes_pay}

one_price : (g : Network) (p : NearProof) → NearFits g p → length p.prices ≡ customer_count g
one_price g p fits = fits.one_price ∙ counted g

pub accepted_pay : (g : Network) (p : NearProof) → IsNetwork g → NearFits g p → IsAccepted g p → NearRoutesPay g (terms_of p)
accepted_pay g p network fits accepted = routes_pay g (terms_of p) p.labels network (within_full g p fits) accepted.closed

-- with weight 0 a price sum above 0 is never taken
nothing : (k w sum cost : ℕ) → k * sum ≤ w * cost → w ≡ 0 → 0 < sum → 1 ≤ k → ⊥
nothing k w sum cost pays none some whole =
    let free : w * cost ≡ 0 = rw none (omega arith) in
    let once : 1 * sum ≤ k * sum = mul-le-mul_right sum whole in
    omega (arith, pays, free, once, some)

bound_by : (g : Network) (p : NearProof) → IsNetwork g → NearFits g p → IsAccepted g p → (bound : Option ℕ) → BoundHolds p bound → IsTrueNearBound g bound
bound_by g p network fits accepted None holds = λ k plans fleet.
    nothing k p.weight (price_total p.prices) (cost_of g k plans) (fleet_pays g (terms_of p) k plans network (accepted_pay g p network fits accepted) (one_price g p fits) fleet) holds.0 holds.1 (some_kths g (terms_of p) k plans (one_price g p fits) fleet holds.1)
bound_by g p network fits accepted (Some bound) holds = λ k plans fleet.
    let pays = fleet_pays g (terms_of p) k plans network (accepted_pay g p network fits accepted) (one_price g p fits) fleet in
    let one : p.weight * cost_of g k plans ≡ cost_of g k plans = rw holds.0 (omega arith) in
    rw (holds.1) (omega (arith, pays, one))

pub true_bound : (g : Network) (p : NearProof) → IsNetwork g → NearFits g p → IsAccepted g p → IsTrueNearBound g p.bound
true_bound g p network fits accepted = bound_by g p network fits accepted p.bound accepted.bound

-- a tight route would earn more than it takes, if its customer's price were one higher
not_higher : (g : Network) (t : Terms) (c : ℕ) (plan : List Stop) → t.weight ≡ 1 → c < length t.prices → IsTight g t c plan → NearRoutesPay g (record t { prices = raised t.prices c }) → ⊥
not_higher g t c plan one less tight pay =
    let earns = pay plan tight.route in
    let higher = raised_earns t.prices c (numbers_of g plan) less in
    let time : t.weight * time_of g 1 g.capacity plan ≡ time_of g 1 g.capacity plan = rw one (omega arith) in
    omega (arith, earns, higher, time, tight.serves, tight.time)

highest_by : (g : Network) (p : NearProof) → IsNetwork g → NearFits g p → (bound : Option ℕ) → BoundHolds p bound → AreTight g p bound → HasHighestPrices g (terms_of p) bound
highest_by g p network fits None holds tight = tt
highest_by g p network fits (Some bound) holds tight = λ x labels known is full closed.
    let has = tight x known is in
    let c = customer_number g x in
    let less : c < length p.prices = omega (arith, one_price g p fits, number_less g x (node_count g) is known) in
    not_higher g (terms_of p) c has.0.stops holds.0 less has.2 (routes_pay g (raised_at g (terms_of p) x) labels network full closed)

pub highest : (g : Network) (p : NearProof) → IsNetwork g → NearFits g p → IsAccepted g p → HasHighestPrices g (terms_of p) p.bound
highest g p network fits accepted = highest_by g p network fits p.bound accepted.bound accepted.tight

pub is_true : (g : Network) (p : NearProof) → IsNetwork g → NearFits g p → IsAccepted g p → IsTrue g p
is_true g p network fits accepted = record {
  pay = accepted_pay g p network fits accepted;
  bound = true_bound g p network fits accepted;
  highest = highest g p network fits accepted;
}
