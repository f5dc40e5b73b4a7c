-- Lists divided by a common divisor.
use Rattle.std.proofs.Common.{◌≡◌, ◌∙◌, ◌*◌, ◌/◌, ◌<◌, ℕ, suc, arith, ℤ, pos, negsuc, List, [], ◌∷◌, map, length, unsigned_abs, subst, sym, ap, refl, ◌*ℤ◌, ◌-ℤ◌, ◌<ℤ◌, int_div, Bool, true, false, cond, ◌⊎◌, inl, inr, eq-zero-or-pos}
use Rattle.std.specs.Int.{◌∣◌}
use Rattle.std.proofs.lemmas.Int.{ints}
use Rattle.std.proofs.Math.Nat.{mul-div_cancel', dvd-zero, eq_of_mul-eq-mul_left, mul-one, eq-zero_of_zero-dvd}
use Rattle.fleet_model.specs.Divisors.{DividesAll, IsGcdOf, gcd_of}
use Rattle.fleet_model.specs.Equations.{total, total_from, combined}
use Rattle.fleet_model.proofs.Ring.{*ℤ_cancel, *ℤ_comm, neg_ℤ-*ℤ}
use Rattle.fleet_model.proofs.Gcd.{dvd-+ℤ, dvd_from_product}
use Rattle.fleet_model.proofs.Lists.{times_gcd, same_list_gcd, list_gcd, gcd_of-is}
use Rattle.fleet_model.proofs.Totals.{total_times}
use Rattle.fleet_model.proofs.Signs.{factor_pos, above_is}
use Rattle.master_table.specs.Pivoting.{quotients}

-- what divides each number divides each sum
divides_cond : (d : ℕ) (t : Bool) (z : ℤ) → d ∣ unsigned_abs z → d ∣ unsigned_abs (cond t z (pos 0))
divides_cond d true z h = h
divides_cond d false z h = dvd-zero d

divides_total_from : (d : ℕ) (s : ℕ → Bool) (c : ℕ) (zs : List ℤ) → DividesAll d zs → d ∣ unsigned_abs (total_from s c zs)
divides_total_from d s c [] h = dvd-zero d
divides_total_from d s c (z ∷ zs) h = dvd-+ℤ d (cond (s c) z (pos 0)) (total_from s (suc c) zs) (divides_cond d (s c) z h.0) (divides_total_from d s (suc c) zs h.1)

pub divides_total : (d : ℕ) (s : ℕ → Bool) (zs : List ℤ) → DividesAll d zs → d ∣ unsigned_abs (total s zs)
divides_total d s zs h = divides_total_from d s 0 zs h

pub div_whole : (z : ℤ) (d : ℕ) → d ∣ unsigned_abs z → pos d *ℤ int_div z (pos d) ≡ z
div_whole (pos n) d h = let e = mul-div_cancel' d h in omega (arith, ints)
div_whole (negsuc n) d h =
    let e = mul-div_cancel' d h in
    let f = neg_ℤ-*ℤ (pos (suc n / d)) (pos d) in
    let g = *ℤ_comm (pos d) (int_div (negsuc n) (pos d)) in
    omega (arith, ints)

pub times_quotients : (d : ℕ) (zs : List ℤ) → DividesAll d zs → map (λ z. pos d *ℤ z) (quotients (pos d) zs) ≡ zs
times_quotients d [] h = refl
times_quotients d (z ∷ zs) h = let e = div_whole z d h.0 in let rest = times_quotients d zs h.1 in cc

pub total_quotients : (d : ℕ) (s : ℕ → Bool) (zs : List ℤ) → DividesAll d zs → pos d *ℤ total s (quotients (pos d) zs) ≡ total s zs
total_quotients d s zs h = sym (total_times (pos d) s (quotients (pos d) zs)) ∙ ap (total s) (times_quotients d zs h)

-- a list divided by its greatest common divisor
pub record IsReducedOf (from to : List ℤ) : Type 0 where
  pub factor : ℕ
  pub some : 0 < factor
  pub same : map (λ z. pos factor *ℤ z) to ≡ from
  pub reduced : IsGcdOf to 1

pub reduced_quotients : (d : ℕ) (zs : List ℤ) → 0 < d → IsGcdOf zs d → IsReducedOf zs (quotients (pos d) zs)
reduced_quotients d zs some h =
    let q = quotients (pos d) zs in
    let back = times_quotients d zs h.divides in
    let found = list_gcd q in
    let scaled = times_gcd d found.0 q some found.1 in
    let same : d * found.0 ≡ d = same_list_gcd zs (d * found.0) d (subst (λ xs. IsGcdOf xs (d * found.0)) back scaled) h in
    let one : found.0 ≡ 1 = eq_of_mul-eq-mul_left d some found.0 1 (same ∙ sym (mul-one d)) in
    record { factor = d; some = some; same = back; reduced = subst (λ g. IsGcdOf q g) one found.1 }

-- nothing taken away: the list itself
times_combined : (f : ℤ) (xs ys : List ℤ) → length xs ≡ length ys → map (λ z. f *ℤ z) xs ≡ combined f (pos 0) xs ys
times_combined f [] ys e = refl
times_combined f (x ∷ xs) [] e = absurd (omega arith)
times_combined f (x ∷ xs) (y ∷ ys) e =
    let here : f *ℤ x ≡ f *ℤ x -ℤ pos 0 *ℤ y = omega (arith, ints) in
    let rest = times_combined f xs ys (omega arith) in
    cc

pub reduced_same : (f : ℤ) (xs ys : List ℤ) → pos 0 <ℤ f → length xs ≡ length ys → IsGcdOf xs 1 → IsReducedOf (combined f (pos 0) xs ys) xs
reduced_same f xs ys p e h =
    let k = above_is f p in
    record { factor = k.0; some = k.1; same = ap (λ g. map (λ z. g *ℤ z) xs) (sym k.2) ∙ times_combined f xs ys e; reduced = h }

-- a list that begins with a 0 has the divisors of the rest
pub reduced_rest : (w v : ℤ) (xs zs : List ℤ) → w ≡ pos 0 → IsReducedOf (w ∷ xs) (v ∷ zs) → IsReducedOf xs zs
reduced_rest w v xs zs none h =
    let e = h.same in
    let head : pos h.factor *ℤ v ≡ w = cc in
    let tail : map (λ z. pos h.factor *ℤ z) zs ≡ xs = cc in
    let zero : v ≡ pos 0 = *ℤ_cancel (pos h.factor) v (pos 0) (factor_pos h.factor h.some) (head ∙ none ∙ omega (arith, ints)) in
    record {
      factor = h.factor;
      some = h.some;
      same = tail;
      reduced = record {
        divides = h.reduced.divides.1;
        greatest = λ d all. h.reduced.greatest d (subst (λ z. d ∣ unsigned_abs z) (sym zero) (dvd-zero d), all);
      };
    }

-- a list with a sum, or a first number, other than 0 has a divisor above 0
pub gcd_pos : (zs : List ℤ) (z : ℤ) → pos 0 <ℤ z → ((d : ℕ) → DividesAll d zs → d ∣ unsigned_abs z) → 0 < gcd_of zs
gcd_pos zs z above h = by_cases (eq-zero-or-pos (gcd_of zs))
  where
    by_cases : (gcd_of zs ≡ 0) ⊎ (0 < gcd_of zs) → 0 < gcd_of zs
    by_cases (inr some) = some
    by_cases (inl none) =
        let d = subst (λ n. n ∣ unsigned_abs z) none (h (gcd_of zs) (gcd_of-is zs).divides) in
        let nothing : unsigned_abs z ≡ 0 = eq-zero_of_zero-dvd d in
        absurd (omega (arith, ints))

-- a number times a divisor has that number as its quotient
pub exact_quotient : (x q d : ℤ) → pos 0 <ℤ d → q *ℤ d ≡ x → int_div x d ≡ q
exact_quotient x q (pos d) above e =
    let whole = div_whole x d (dvd_from_product x q d e) in
    *ℤ_cancel (pos d) (int_div x (pos d)) q above (whole ∙ sym e ∙ *ℤ_comm q (pos d))
exact_quotient x q (negsuc d) above e = absurd (omega (arith, ints))
