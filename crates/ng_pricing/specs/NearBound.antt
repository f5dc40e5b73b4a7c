-- The bound of an instance by near routes.
use Rattle.std.specs.Prelude.{◌≡◌, ◌↔◌, ℕ, ◌<◌, IfSome, List, None}
use Rattle.ev_model.specs.Network.{Network}
use Rattle.fleet_model.specs.Places.{customer_count}
use Rattle.near_proof.specs.NearSets.{AreNearSets}
use Rattle.near_proof.specs.Accepted.{IsAccepted}
use Rattle.near_proof.specs.Ranges.{NearFits}
use Rattle.near_proof.specs.Truth.{IsTrue}
use Rattle.near_proof.specs.declared.proof.NearProof.{NearProof}
use Rattle.near_text.specs.NearIn.{IsKept}
use Rattle.ng_pricing.specs.Rising.{AreGreatest, AreRisenFrom, StandsOnNone}

-- a proof that is accepted and true, with the near sets of the instance: it has no bound exactly
-- where some customer stands on no near route, and else the prices that are the greatest one by one;
-- it fits and is kept, so that its text is read as it
pub record IsNearBound (g : Network) (near : ℕ) (p : NearProof) : Type 0 where
  pub sets : AreNearSets g near p.sets
  pub fits : NearFits g p
  pub kept : IsKept p
  pub accepted : IsAccepted g p
  pub shows : IsTrue g p
  pub none : (p.bound ≡ None)
      ↔ ((c : ℕ) × (c < customer_count g) × StandsOnNone g p.sets c)
  pub prices : IfSome p.bound (λ bound. AreGreatest g p.sets p.prices)

-- a proof that is accepted and true, with these near sets: it has no bound exactly where some
-- customer stands on no near route, and else prices that rise one by one from the start prices,
-- which are lowered before where they have to be; it fits and is kept
pub record IsBoundFrom (g : Network) (sets : List (List ℕ)) (start : List ℕ) (p : NearProof) :
    Type 0 where
  pub same_sets : p.sets ≡ sets
  pub fits : NearFits g p
  pub kept : IsKept p
  pub accepted : IsAccepted g p
  pub shows : IsTrue g p
  pub none : (p.bound ≡ None)
      ↔ ((c : ℕ) × (c < customer_count g) × StandsOnNone g p.sets c)
  pub prices : IfSome p.bound (λ bound. AreRisenFrom g p.sets start p.prices)
