-- The greatest common divisor of a list, found from the left.
use Rattle.std.proofs.Common.{◌≡◌, ◌<◌, ◌+◌, ℕ, suc, ℤ, pos, List, [], ◌∷◌, drop, length, get_or, unsigned_abs, subst, sym, drop-cons, add-one}
use Rattle.std.specs.Int.{IsGcd, ◌∣◌}
use Rattle.std.proofs.Math.Nat.{dvd-zero, dvd_trans, dvd_refl, one-dvd}
use Rattle.fleet_model.specs.Divisors.{DividesAll, IsGcdOf, gcd_of}
use Rattle.fleet_model.proofs.Lists.{same_list_gcd, gcd_of-is}

-- the greatest common divisor of a number and a list
pub record IsGcdWith (a : ℕ) (zs : List ℤ) (g : ℕ) : Type 0 where
  pub first : g ∣ a
  pub rest : DividesAll g zs
  pub greatest : (d : ℕ) → d ∣ a → DividesAll d zs → d ∣ g

pub IsGcdWith-end : (a : ℕ) → IsGcdWith a [] a
IsGcdWith-end a = record { first = dvd_refl a; rest = tt; greatest = λ d p q. p }

pub IsGcdWith-start : (zs : List ℤ) (g : ℕ) → IsGcdWith 0 zs g → IsGcdOf zs g
IsGcdWith-start zs g h = record { divides = h.rest; greatest = λ d p. h.greatest d (dvd-zero d) p }

pub IsGcdWith-step : (a f g : ℕ) (z : ℤ) (zs : List ℤ) → IsGcd (unsigned_abs z) a f → IsGcdWith f zs g → IsGcdWith a (z ∷ zs) g
IsGcdWith-step a f g z zs e h = record {
  first = dvd_trans g h.first e.1;
  rest = (dvd_trans g h.first e.0, h.rest);
  greatest = λ d p q. h.greatest d (e.2 d q.0 p) q.1;
}

pub IsGcdWith-more : (a f g i : ℕ) (zs : List ℤ) → i < length zs → IsGcd (unsigned_abs (get_or zs i (pos 0))) a f → IsGcdWith f (drop (i + 1) zs) g → IsGcdWith a (drop i zs) g
IsGcdWith-more a f g i zs lt e h = subst (λ ys. IsGcdWith a ys g) (sym (drop-cons zs i (pos 0) lt)) (IsGcdWith-step a f g (get_or zs i (pos 0)) (drop (suc i) zs) e (subst (λ k. IsGcdWith f (drop k zs) g) (add-one i) h))

-- 1 is the greatest common divisor of 1 and any list
pub IsGcdWith-one : (zs : List ℤ) → IsGcdWith 1 zs 1
IsGcdWith-one zs = record { first = dvd_refl 1; rest = ones zs; greatest = λ d p q. p }
  where
    ones : (zs : List ℤ) → DividesAll 1 zs
    ones [] = tt
    ones (z ∷ zs) = (one-dvd (unsigned_abs z), ones zs)

pub gcd_with : (first : ℤ) (zs : List ℤ) (g : ℕ) → IsGcdWith (unsigned_abs first) zs g → g ≡ gcd_of (first ∷ zs)
gcd_with first zs g h = same_list_gcd (first ∷ zs) g (gcd_of (first ∷ zs)) (record { divides = (h.first, h.rest); greatest = λ d p. h.greatest d p.0 p.1 }) (gcd_of-is (first ∷ zs))
