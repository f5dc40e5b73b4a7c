-- Body equations and price lists are determined by their basis.
use Rattle.std.proofs.Common.{◌≡◌, ◌≢◌, ◌∙◌, ℕ, suc, ◌<◌, ◌≤◌, ◌*◌, arith, refl, sym, ap, subst, ℤ, pos, ◌-ℤ◌, ◌*ℤ◌, ◌<ℤ◌, ◌≤ℤ◌, unsigned_abs, List, [], ◌∷◌, map, length, get_or, ◌⊎◌, inl, inr, mul-one}
use Rattle.std.specs.Int.{◌∣◌}
use Rattle.std.proofs.lemmas.Int.{ints, unsigned_abs-mul}
use Rattle.std.proofs.Math.Nat.{le_of_dvd, dvd-mul_right}
use Rattle.fleet_model.specs.Divisors.{DividesAll, IsGcdOf}
use Rattle.fleet_model.proofs.Ring.{*ℤ_comm, *ℤ_assoc, *ℤ_cancel}
use Rattle.fleet_model.proofs.Lists.{same_factor, times_gcd}
use Rattle.fleet_model.specs.Equations.{combined, Column, column_at, entry, serves}
use Rattle.fleet_model.specs.Basis.{IsBody, IsDetermined, Pays, PaysLeast}
use Rattle.fleet_model.proofs.Totals.{total_combined, length-combined}
use Rattle.fleet_model.proofs.Signs.{same_or_not, factor_pos, above_is}

-- multiples whose difference is a list of zeros are the same list
same_multiples : (f g : ℤ) (xs ys : List ℤ) → length xs ≡ length ys → ((c : ℕ) → get_or (combined f g xs ys) c (pos 0) ≡ pos 0) → map (λ z. f *ℤ z) xs ≡ map (λ z. g *ℤ z) ys
same_multiples f g [] [] e h = refl
same_multiples f g [] (y ∷ ys) e h = absurd (omega arith)
same_multiples f g (x ∷ xs) [] e h = absurd (omega arith)
same_multiples f g (x ∷ xs) (y ∷ ys) e h =
    let first : f *ℤ x -ℤ g *ℤ y ≡ pos 0 = h 0 in
    let head : f *ℤ x ≡ g *ℤ y = omega (arith, ints) in
    let tail = same_multiples f g xs ys (omega arith) (λ c. h (suc c)) in
    cc

cancel_map : (k : ℤ) (xs ys : List ℤ) → pos 0 <ℤ k → length xs ≡ length ys → map (λ z. k *ℤ z) xs ≡ map (λ z. k *ℤ z) ys → xs ≡ ys
cancel_map k [] [] p e h = refl
cancel_map k [] (y ∷ ys) p e h = absurd (omega arith)
cancel_map k (x ∷ xs) [] p e h = absurd (omega arith)
cancel_map k (x ∷ xs) (y ∷ ys) p e h =
    let heads : k *ℤ x ≡ k *ℤ y = cc in
    let tails : map (λ z. k *ℤ z) xs ≡ map (λ z. k *ℤ z) ys = cc in
    let head = *ℤ_cancel k x y p heads in
    let tail = cancel_map k xs ys p (omega arith) tails in
    cc

-- two lists that are as far from each other at the basis as f and g say
proportional : (n : ℕ) (basis : List Column) (f g : ℤ) (xs ys : List ℤ) → IsDetermined n basis → length xs ≡ n → length ys ≡ n → ((j : ℕ) → j < n → f *ℤ entry xs (column_at basis j) ≡ g *ℤ entry ys (column_at basis j)) → map (λ z. f *ℤ z) xs ≡ map (λ z. g *ℤ z) ys
proportional n basis f g xs ys free wx wy h =
    let e : length xs ≡ length ys = wx ∙ sym wy in
    same_multiples f g xs ys e (free (combined f g xs ys) (length-combined f g xs ys e ∙ wx) (λ j lt.
    total_combined f g (serves (column_at basis j)) xs ys e ∙ ap (λ x. x -ℤ g *ℤ entry ys (column_at basis j)) (h j lt) ∙ omega (arith, ints)))

-- a basis has one body equation at each place
pub one_body : (n : ℕ) (basis : List Column) (i : ℕ) (xs ys : List ℤ) → i < n → IsDetermined n basis → IsBody n basis i xs → IsBody n basis i ys → xs ≡ ys
one_body n basis i xs ys lt free x y =
    let a = above_is (entry xs (column_at basis i)) x.own in
    let b = above_is (entry ys (column_at basis i)) y.own in
    let multiples : map (λ z. pos b.0 *ℤ z) xs ≡ map (λ z. pos a.0 *ℤ z) ys = proportional n basis (pos b.0) (pos a.0) xs ys free x.whole y.whole (λ j l. at a b j l (same_or_not j i)) in
    let same = same_factor b.0 a.0 xs ys b.1 a.1 x.reduced y.reduced multiples in
    cancel_map (pos b.0) xs ys (factor_pos b.0 b.1) (x.whole ∙ sym y.whole) (multiples ∙ ap (λ k. map (λ z. pos k *ℤ z) ys) (sym same))
  where
    at : (a : (k : ℕ) × (0 < k) × (entry xs (column_at basis i) ≡ pos k)) (b : (k : ℕ) × (0 < k) × (entry ys (column_at basis i) ≡ pos k)) (j : ℕ) → j < n → (j ≡ i) ⊎ (j ≢ i) → pos b.0 *ℤ entry xs (column_at basis j) ≡ pos a.0 *ℤ entry ys (column_at basis j)
    at a b j l (inl e) = ap (λ k. pos b.0 *ℤ entry xs (column_at basis k)) e ∙ ap (λ z. pos b.0 *ℤ z) a.2 ∙ *ℤ_comm (pos b.0) (pos a.0) ∙ ap (λ z. pos a.0 *ℤ z) (sym b.2) ∙ ap (λ k. pos a.0 *ℤ entry ys (column_at basis k)) (sym e)
    at a b j l (inr other) =
        let nothing : pos b.0 *ℤ pos 0 ≡ pos a.0 *ℤ pos 0 = omega (arith, ints) in
        ap (λ z. pos b.0 *ℤ z) (x.others j l other) ∙ nothing ∙ ap (λ z. pos a.0 *ℤ z) (sym (y.others j l other))

-- ---- lists of numbers that pay for a basis
-- without a common divisor the weight divides the weight of each list
module _ (worth : Column → ℤ) (n : ℕ) (basis : List Column) (free : IsDetermined n basis) (w : ℤ) (xs : List ℤ) (list : Pays worth n basis w xs) (reduced : IsGcdOf (w ∷ xs) 1) (v : ℤ) (ys : List ℤ) (other : Pays worth n basis v ys) where
  at : (j : ℕ) → j < n → v *ℤ entry xs (column_at basis j) ≡ w *ℤ entry ys (column_at basis j)
  at j lt =
      let c = worth (column_at basis j) in
      ap (λ x. v *ℤ x) (list.pays j lt) ∙ sym (*ℤ_assoc v w c) ∙ ap (λ x. x *ℤ c) (*ℤ_comm v w) ∙ *ℤ_assoc w v c ∙ ap (λ x. w *ℤ x) (sym (other.pays j lt))

  divided : (k : ℕ) (zs : List ℤ) → DividesAll k (map (λ z. pos k *ℤ z) zs)
  divided k [] = tt
  divided k (z ∷ zs) = (subst (λ m. k ∣ m) (sym (unsigned_abs-mul (pos k) z)) (dvd-mul_right k (unsigned_abs z)), divided k zs)

  pub least_weight : w ≤ℤ v
  least_weight =
      let a = above_is w list.some in
      let b = above_is v other.some in
      let tails : map (λ z. v *ℤ z) xs ≡ map (λ z. w *ℤ z) ys = proportional n basis v w xs ys free list.whole other.whole at in
      let heads : v *ℤ w ≡ w *ℤ v = *ℤ_comm v w in
      let same : map (λ z. v *ℤ z) (w ∷ xs) ≡ map (λ z. w *ℤ z) (v ∷ ys) = cc in
      let left : map (λ z. pos b.0 *ℤ z) (w ∷ xs) ≡ map (λ z. pos a.0 *ℤ z) (v ∷ ys) = ap (λ k. map (λ z. k *ℤ z) (w ∷ xs)) (sym b.2) ∙ same ∙ ap (λ k. map (λ z. k *ℤ z) (v ∷ ys)) a.2 in
      let g = times_gcd b.0 1 (w ∷ xs) b.1 reduced in
      let d : DividesAll a.0 (map (λ z. pos b.0 *ℤ z) (w ∷ xs)) = subst (DividesAll a.0) (sym left) (divided a.0 (v ∷ ys)) in
      let divides : a.0 ∣ (b.0 * 1) = g.greatest a.0 d in
      let le : a.0 ≤ b.0 = subst (λ x. a.0 ≤ x) (mul-one b.0) (le_of_dvd (subst (λ x. 0 < x) (sym (mul-one b.0)) b.1) divides) in
      let aw = a.2 in
      let bv = b.2 in
      omega (arith, ints)

-- a list that pays, without a common divisor, is the one of least weight
pub pays_least : (worth : Column → ℤ) (n : ℕ) (basis : List Column) (w : ℤ) (xs : List ℤ) → IsDetermined n basis → Pays worth n basis w xs → IsGcdOf (w ∷ xs) 1 → PaysLeast worth n basis w xs
pays_least worth n basis w xs free list reduced = record {
  list = list;
  least = λ v ys other. least_weight worth n basis free w xs list reduced v ys other;
}
