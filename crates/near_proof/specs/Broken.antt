-- The rules of a near proof one by one, and which of them is the first that is broken.
use Rattle.std.specs.Prelude.{◌≡◌, ℕ, ◌*◌, ◌<◌, ◌⊎◌, true, List, Some, IsSome, slice_get}
use Rattle.ev_model.specs.Network.{is_customer, Network, node_count}
use Rattle.fleet_model.specs.Labels.{IsLevel}
use Rattle.fleet_model.specs.Places.{customer_number}
use Rattle.fleet_model.specs.Steps.{time_at}
use Rattle.near_proof.specs.Accepted.{BoundHolds, HasTight, terms_of}
use Rattle.near_proof.specs.Covered.{IsNearCovered}
use Rattle.near_proof.specs.States.{label_of, near_at, near_start}
use Rattle.near_proof.specs.Steps.{at_near_customer, at_near_station, IsNearCustomerStep, IsNearHomeStep, IsNearStationStep}
use Rattle.near_proof.specs.Terms.{Terms}
use Rattle.near_proof.specs.declared.proof.NearLabel.{NearLabel}
use Rattle.near_proof.specs.declared.proof.NearProof.{NearProof}

-- where a rule is broken: at the start, at the step of a label to a node, at the step of a label
-- home, at the bound, or at the tight route of the customer at a node
pub data Place : Type 0 where
  at_start : Place
  at_step : ℕ → ℕ → Place
  at_home : ℕ → Place
  at_bound : Place
  at_tight : ℕ → Place

-- some state that the step to a customer or a station reaches from some level of the label is
-- covered by no label
abbrev pub MissesStep : Network → Terms → List NearLabel → NearLabel → ℕ → Type 0
MissesStep g t labels l x =
    (y : ℕ) × (IsLevel (label_of l) y) × (
    (IsNearCustomerStep g (near_at l y) x
    × (IsNearCovered t.weight labels (at_near_customer g t (near_at l y) x) → ⊥))
    ⊎ ((z : ℕ) × IsNearStationStep g (near_at l y) x z
    × (IsNearCovered t.weight labels (at_near_station g (near_at l y) x z) → ⊥))
    )

-- some step home takes, times the weight, less than the label has earned
abbrev pub EarnsHome : Network → ℕ → NearLabel → Type 0
EarnsHome g weight l =
    (y : ℕ) × (IsLevel (label_of l) y) × IsNearHomeStep g (near_at l y)
    × (weight * time_at g (near_at l y).state 0 < l.earned)

-- a customer at the node has no tight route, though the bound is a number
pub record LacksTight (g : Network) (p : NearProof) (x : ℕ) : Type 0 where
  pub number : IsSome p.bound
  pub known : x < node_count g
  pub customer : is_customer g x ≡ true
  pub lacks : HasTight g p (customer_number g x) → ⊥

-- a rule is broken there; labels are told by their numbers in the list
abbrev pub IsBroken : Network → NearProof → Place → Type 0
IsBroken g p at_start = IsNearCovered p.weight p.labels (near_start g) → ⊥
IsBroken g p (at_step n x) =
    (l : NearLabel) × (slice_get p.labels n ≡ Some l) × MissesStep g (terms_of p) p.labels l x
IsBroken g p (at_home n) =
    (l : NearLabel) × (slice_get p.labels n ≡ Some l) × EarnsHome g p.weight l
IsBroken g p at_bound = BoundHolds p p.bound → ⊥
IsBroken g p (at_tight x) = LacksTight g p x

-- the rules in their order
abbrev pub rank : Place → ℕ
rank at_start = 1
rank (at_step n x) = 2
rank (at_home n) = 3
rank at_bound = 4
rank (at_tight x) = 5

-- of one rule, labels and then nodes come in rising order
abbrev pub IsSooner : Place → Place → Type 0
IsSooner (at_step m x) (at_step n y) = (m < n) ⊎ ((m ≡ n) × (x < y))
IsSooner (at_home m) (at_home n) = m < n
IsSooner (at_tight x) (at_tight y) = x < y
IsSooner a b = ⊥

abbrev pub ComesBefore : Place → Place → Type 0
ComesBefore a b = (rank a < rank b) ⊎ IsSooner a b

-- the first broken rule
pub record IsFirstBroken (g : Network) (p : NearProof) (at : Place) : Type 0 where
  pub broken : IsBroken g p at
  pub first : (other : Place) → ComesBefore other at → IsBroken g p other → ⊥
