-- Labels from which steps can be made.
use Rattle.std.specs.Prelude.{◌≡◌, ℕ, ◌+◌, ◌<◌, ◌≤◌, ◌⊎◌, ◌&&◌, ◌||◌, nat_eq}
use Rattle.certificate_parts.specs.Limits.{greatest_bound}
use Rattle.customer_sets.specs.CustSet.{has}
use Rattle.dominance.specs.LevelTimes.{IsLevel}
use Rattle.ev_model.specs.Network.{Network, node_count}
use Rattle.piece_fn.specs.PieceFn.{level_times}
use Rattle.near_proof.specs.States.{near_at}
use Rattle.near_proof.specs.Steps.{IsNearCustomerStep, IsNearStationStep}
use Rattle.near_proof.specs.Terms.{near_set, price_of}
use Rattle.near_proof.specs.declared.proof.NearLabel.{NearLabel}
use Rattle.near_pricing.specs.Questions.{Question}
use Rattle.near_pricing.specs.declared.steps.Target.{Target}

-- its node is known, it hasn't earned too much, and no level is above full
pub record IsPlaced (g : Network) (l : NearLabel) : Type 0 where
  pub node : l.node < node_count g
  pub earned : l.earned ≤ greatest_bound
  pub levels : (level : ℕ) → IsLevel (level_times l.value) level → level ≤ g.capacity

-- from some level of a label a step to a node may be made
abbrev pub CanStep : Network → NearLabel → ℕ → Type 0
CanStep g l x =
    (y : ℕ) × IsLevel (level_times l.value) y × (
    IsNearCustomerStep g (near_at l y) x
    ⊎ ((z : ℕ) × IsNearStationStep g (near_at l y) x z)
    )

-- what is common to the labels after serving a customer, by number
pub record IsServedAt (q : Question) (from : NearLabel) (n : ℕ) (t : Target) : Type 0 where
  pub memory : (c : ℕ) → has t.memory c
      ≡ (nat_eq n c || (has from.memory c && has (near_set q.terms.sets n) c))
  pub count : t.count ≡ from.count + 1
  pub earned : t.earned ≡ from.earned + price_of q.terms.prices n
