-- The greatest common divisor of a list of integers, and of a multiple of the list.
use Rattle.std.proofs.Common.{◌≡◌, ℕ, zero, suc, ◌*◌, ◌/◌, ◌%◌, ◌<◌, mod-lt, ◌≤◌, arith, refl, sym, subst, List, [], ◌∷◌, map, ℤ, pos, ◌*ℤ◌, unsigned_abs}
use Rattle.std.specs.Int.{IsGcd, ◌∣◌}
use Rattle.std.proofs.lemmas.Int.{unsigned_abs-mul}
use Rattle.std.proofs.lemmas.Nat.Gcd.{IsGcd-from_mod, IsGcd-from_zero}
use Rattle.std.proofs.Math.Nat.{mul-div_cancel', dvd-zero, dvd_trans, dvd_antisymm, dvd_of_mul-dvd-mul_left, mul-dvd-mul_left, one-dvd, mul-one}
use Rattle.fleet_model.specs.Divisors.{DividesAll, IsGcdOf, gcd_by, gcd_of}
use Rattle.fleet_model.proofs.Gcd.{gcd_exists}

divides_more : (d e : ℕ) (zs : List ℤ) → d ∣ e → DividesAll e zs → DividesAll d zs
divides_more d e [] h k = tt
divides_more d e (z ∷ zs) h k = (dvd_trans d h k.0, divides_more d e zs h k.1)

-- each list has one
pub list_gcd : (zs : List ℤ) → (g : ℕ) × IsGcdOf zs g
list_gcd [] = (0, record { divides = tt; greatest = λ d h. dvd-zero d })
list_gcd (z ∷ zs) =
    let rest = list_gcd zs in
    let both = gcd_exists rest.0 (unsigned_abs z) rest.0 (omega arith) in (
      both.0,
      record {
        divides = (both.1.0, divides_more both.0 rest.0 zs both.1.1 rest.1.divides);
        greatest = λ d h. both.1.2 d h.0 (rest.1.greatest d h.1);
      },
    )

pub same_list_gcd : (zs : List ℤ) (g k : ℕ) → IsGcdOf zs g → IsGcdOf zs k → g ≡ k
same_list_gcd zs g k p q = dvd_antisymm (q.greatest g p.divides) (p.greatest k q.divides)

abbrev pub times_all : ℕ → List ℤ → List ℤ
times_all k zs = map (λ z. pos k *ℤ z) zs

divides_times : (k d : ℕ) (zs : List ℤ) → DividesAll d zs → DividesAll (k * d) (times_all k zs)
divides_times k d [] h = tt
divides_times k d (z ∷ zs) h = (subst (λ n. (k * d) ∣ n) (sym (unsigned_abs-mul (pos k) z)) (mul-dvd-mul_left d k h.0), divides_times k d zs h.1)

divides_back : (k d : ℕ) (zs : List ℤ) → 0 < k → DividesAll (k * d) (times_all k zs) → DividesAll d zs
divides_back k d [] some h = tt
divides_back k d (z ∷ zs) some h = (dvd_of_mul-dvd-mul_left d some (subst (λ n. (k * d) ∣ n) (unsigned_abs-mul (pos k) z) h.0), divides_back k d zs some h.1)

-- k times the list has k times the greatest common divisor
pub times_gcd : (k g : ℕ) (zs : List ℤ) → 0 < k → IsGcdOf zs g → IsGcdOf (times_all k zs) (k * g)
times_gcd k g zs some h =
    let all = list_gcd (times_all k zs) in
    let kd : k ∣ all.0 = all.1.greatest k (subst (λ n. DividesAll n (times_all k zs)) (mul-one k) (divides_times k 1 zs (ones zs))) in
    let q = all.0 / k in
    let is : k * q ≡ all.0 = mul-div_cancel' k kd in
    let back = divides_back k q zs some (subst (λ n. DividesAll n (times_all k zs)) (sym is) all.1.divides) in
    let fits : (k * q) ∣ (k * g) = mul-dvd-mul_left q k (h.greatest q back) in
    record {
      divides = divides_times k g zs h.divides;
      greatest = λ d divides. dvd_trans d (all.1.greatest d divides) (subst (λ n. n ∣ (k * g)) is fits);
    }
  where
    ones : (zs : List ℤ) → DividesAll 1 zs
    ones [] = tt
    ones (z ∷ zs) = (one-dvd (unsigned_abs z), ones zs)

-- two lists of greatest common divisor 1 with equal multiples are multiplied by the same
pub same_factor : (j k : ℕ) (xs ys : List ℤ) → 0 < j → 0 < k → IsGcdOf xs 1 → IsGcdOf ys 1 → times_all j xs ≡ times_all k ys → j ≡ k
same_factor j k xs ys pj pk gx gy e =
    let a = times_gcd j 1 xs pj gx in
    let b = times_gcd k 1 ys pk gy in
    let c : IsGcdOf (times_all k ys) (j * 1) = subst (λ zs. IsGcdOf zs (j * 1)) e a in
    let same = same_list_gcd (times_all k ys) (j * 1) (k * 1) c b in
    omega arith

-- ---- the function of the definitions
gcd_by-is : (fuel a b : ℕ) → b ≤ fuel → IsGcd a b (gcd_by fuel a b)
unfolding gcd_by
gcd_by-is zero a b le = IsGcd-from_zero a b (omega arith)
gcd_by-is (suc fuel) a zero le = IsGcd-from_zero a 0 refl
gcd_by-is (suc fuel) a (suc b) le =
    let below : a % suc b < suc b = mod-lt a (omega arith) in
    IsGcd-from_mod a (suc b) (gcd_by fuel (suc b) (a % suc b)) (gcd_by-is fuel (suc b) (a % suc b) (omega arith))

pub gcd_of-is : (zs : List ℤ) → IsGcdOf zs (gcd_of zs)
unfolding gcd_of
gcd_of-is [] = record { divides = tt; greatest = λ d h. dvd-zero d }
gcd_of-is (z ∷ zs) =
    let rest = gcd_of-is zs in
    let both = gcd_by-is (gcd_of zs) (unsigned_abs z) (gcd_of zs) (omega arith) in
    record {
      divides = (both.0, divides_more (gcd_of (z ∷ zs)) (gcd_of zs) zs both.1 rest.divides);
      greatest = λ d h. both.2 d h.0 (rest.greatest d h.1);
    }
