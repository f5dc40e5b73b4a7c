-- No rule of an accepted near proof is broken.
use Rattle.std.proofs.Common.{◌≡◌, ℕ, zero, suc, List, [], ◌∷◌, Option, Some, None, refl, ap, arith, inl, inr}
use Rattle.std.specs.List.{Contains}
use Rattle.std.specs.Prelude.{slice_get}
use Rattle.ev_model.specs.Network.{Network}
use Rattle.near_proof.specs.Accepted.{AreTight, IsAccepted}
use Rattle.near_proof.specs.Broken.{at_bound, at_home, at_start, at_step, at_tight, IsBroken, LacksTight, Place}
use Rattle.near_proof.specs.declared.proof.NearLabel.{NearLabel}
use Rattle.near_proof.specs.declared.proof.NearProof.{NearProof}

given : NearLabel → Option NearLabel → NearLabel
given d None = d
given d (Some x) = x

-- the label with a number is in the list
pub inside : (xs : List NearLabel) (n : ℕ) (x : NearLabel) → slice_get xs n ≡ Some x → Contains xs x
unfolding given
inside [] n x is = absurd (grind (arith, is))
inside (y ∷ ys) zero x is = (0, omega arith, ap (given x) is)
inside (y ∷ ys) (suc n) x is = let rest = inside ys n x is in (suc rest.0, omega (arith, rest.1), rest.2)

not_lacking : (g : Network) (p : NearProof) (x : ℕ) (bound : Option ℕ) → p.bound ≡ bound → AreTight g p bound → LacksTight g p x → ⊥
not_lacking g p x None is tight lacks = let number = lacks.number in grind (arith, is, number)
not_lacking g p x (Some bound) is tight lacks = lacks.lacks (tight x lacks.known lacks.customer)

pub not_broken : (g : Network) (p : NearProof) → IsAccepted g p → (at : Place) → IsBroken g p at → ⊥
not_broken g p accepted at_start broken = broken accepted.closed.begins
not_broken g p accepted (at_step n x) broken =
    let l = broken.0 in
    let there = inside p.labels n l broken.1 in
    let y = broken.2.0 in
    elim broken.2.2 [
      | inl customer ↦ customer.1 (accepted.closed.customer l y x there broken.2.1 customer.0)
      | inr station ↦ station.2 (accepted.closed.station l y x station.0 there broken.2.1 station.1)
    ]
not_broken g p accepted (at_home n) broken =
    let free = accepted.closed.home broken.0 broken.2.0 (inside p.labels n broken.0 broken.1) broken.2.1 broken.2.2 in
    let earns = broken.2.3 in
    omega (arith, free, earns)
not_broken g p accepted at_bound broken = broken accepted.bound
not_broken g p accepted (at_tight x) broken = not_lacking g p x p.bound refl accepted.tight broken
