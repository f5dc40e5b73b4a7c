-- Near routes: on which a customer may be served again who isn't remembered any more.
use Rattle.std.specs.Prelude.{◌≡◌, ◌≢◌, ℕ, ◌≤◌, false, List, [], ◌∷◌, length}
use Rattle.customer_sets.specs.CustSet.{has}
use Rattle.ev_model.specs.Feasible.{IsFeasible}
use Rattle.ev_model.specs.Fleet.{customers_of, ServesOnly}
use Rattle.ev_model.specs.Network.{Network}
use Rattle.ev_model.specs.declared.Stop.{Stop}
use Rattle.fleet_model.specs.Places.{customer_count, numbers_of}
use Rattle.near_proof.specs.Terms.{remembered}

-- nobody is served who is remembered, those first who are given
abbrev pub KeepsMemory : List (List ℕ) → List ℕ → List ℕ → Type 0
KeepsMemory sets memory [] = Unit {0}
KeepsMemory sets memory (c ∷ customers) =
    (has memory c ≡ false) × KeepsMemory sets (remembered sets memory c) customers

-- a feasible whole plan from full that serves customers alone, one at least and no more than there
-- are, and nobody who is remembered
pub record IsNearRoute (g : Network) (sets : List (List ℕ)) (plan : List Stop) : Type 0 where
  pub feasible : IsFeasible g 1 g.capacity plan
  pub only : ServesOnly g plan
  pub some : customers_of g plan ≢ []
  pub few : length (customers_of g plan) ≤ customer_count g
  pub keeps : KeepsMemory sets [] (numbers_of g plan)
