-- Signs of products and of factors.
use Rattle.std.proofs.Common.{◌≡◌, ◌≢◌, ◌∙◌, ℕ, zero, suc, ◌<◌, arith, refl, sym, ℤ, pos, negsuc, ◌*ℤ◌, ◌<ℤ◌, Bool, true, false, eqb, eqb-true, eq-eqb, true≢false, ◌⊎◌, inl, inr}
use Rattle.std.proofs.lemmas.Int.{ints}
use Rattle.fleet_model.proofs.Ring.{*ℤ_cancel}

pub factor_pos : (k : ℕ) → 0 < k → pos 0 <ℤ pos k
factor_pos k h = omega (arith, ints)

pub zero_times : (k a : ℤ) → pos 0 <ℤ k → k *ℤ a ≡ pos 0 → a ≡ pos 0
zero_times k a p e = *ℤ_cancel k a (pos 0) p (e ∙ omega (arith, ints))

pub above_times : (k a : ℤ) → pos 0 <ℤ k → pos 0 <ℤ (k *ℤ a) → pos 0 <ℤ a
above_times (pos k) (pos (suc n)) p q = omega (arith, ints)
above_times (pos k) (pos zero) p q = absurd (omega (arith, ints))
above_times (pos k) (negsuc n) p q = absurd (omega (arith, ints))
above_times (negsuc k) a p q = absurd (omega (arith, ints))

pub above_is : (z : ℤ) → pos 0 <ℤ z → (k : ℕ) × (0 < k) × (z ≡ pos k)
above_is (pos (suc n)) p = (suc n, omega arith, refl)
above_is (pos zero) p = absurd (omega (arith, ints))
above_is (negsuc n) p = absurd (omega (arith, ints))

pub same_or_not : (a b : ℕ) → (a ≡ b) ⊎ (a ≢ b)
same_or_not a b = decided (eqb a b) refl
  where
    decided : (t : Bool) → eqb a b ≡ t → (a ≡ b) ⊎ (a ≢ b)
    decided true e = inl (eqb-true a b e)
    decided false e = inr (λ same. true≢false (sym (eq-eqb a b same) ∙ e))
