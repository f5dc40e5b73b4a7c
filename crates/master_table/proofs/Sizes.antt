-- Sizes of combined entries and of their greatest common divisor.
use Rattle.std.proofs.Common.{◌≡◌, ◌+◌, ◌*◌, ◌^◌, ◌<◌, ◌≤◌, ℕ, zero, suc, arith, ℤ, List, [], ◌∷◌, take, unsigned_abs, subst, sym, ◌*ℤ◌, ◌-ℤ◌, All, refl, ◌⊎◌, inl, inr, le_trans, eq-zero-or-pos}
use Rattle.std.specs.Int.{◌∣◌}
use Rattle.std.proofs.lemmas.Int.{ints}
use Rattle.std.proofs.lemmas.List.Elements.{All-head, All-tail}
use Rattle.std.proofs.Math.Nat.{le_of_dvd, dvd-zero, eq-zero_of_zero-dvd}
use Rattle.fleet_model.specs.Divisors.{DividesAll, IsGcdOf}
use Rattle.fleet_model.specs.Equations.{combined}
use Rattle.fleet_model.proofs.Lists.{gcd_of-is}
use Rattle.master_table.specs.Tableau.{Equation}
use Rattle.master_table.specs.Pivoting.{combined_row, divisor}
use Rattle.master_table.specs.RowView.{IsSmallRow}
use Rattle.master_table.proofs.Products.{small_product}

-- each number is at most c in size
abbrev pub AreWithin : ℕ → List ℤ → Type 0
AreWithin c [] = Unit {0}
AreWithin c (x ∷ xs) = (unsigned_abs x ≤ c) × AreWithin c xs

pub combined_small : (f g : ℤ) (xs ys : List ℤ) (a b c d : ℕ) → unsigned_abs f ≤ a → unsigned_abs g ≤ c → All (λ x. unsigned_abs x ≤ b) xs → All (λ y. unsigned_abs y ≤ d) ys → AreWithin (a * b + c * d) (combined f g xs ys)
combined_small f g [] ys a b c d hf hg hx hy = tt
combined_small f g (x ∷ xs) [] a b c d hf hg hx hy = tt
combined_small f g (x ∷ xs) (y ∷ ys) a b c d hf hg hx hy =
    let left : unsigned_abs (f *ℤ x) ≤ a * b = small_product f x (f *ℤ x) a b refl hf (All-head (λ x. unsigned_abs x ≤ b) x xs hx) in
    let right : unsigned_abs (g *ℤ y) ≤ c * d = small_product g y (g *ℤ y) c d refl hg (All-head (λ y. unsigned_abs y ≤ d) y ys hy) in
    (difference (f *ℤ x) (g *ℤ y) (a * b) (c * d) left right, combined_small f g xs ys a b c d hf hg (All-tail (λ x. unsigned_abs x ≤ b) x xs hx) (All-tail (λ y. unsigned_abs y ≤ d) y ys hy))
  where
    difference : (p q : ℤ) (m n : ℕ) → unsigned_abs p ≤ m → unsigned_abs q ≤ n → unsigned_abs (p -ℤ q) ≤ m + n
    difference p q m n h k = omega (arith, ints)

pub within_take : (c n : ℕ) (xs : List ℤ) → AreWithin c xs → AreWithin c (take n xs)
within_take c zero xs h = tt
within_take c (suc n) [] h = tt
within_take c (suc n) (x ∷ xs) h = (h.0, within_take c n xs h.1)

some_or_none : (m g : ℕ) (zs : List ℤ) → AreWithin m zs → DividesAll g zs → DividesAll 0 zs ⊎ (g ≤ m)
some_or_none m g [] h d = inl tt
some_or_none m g (z ∷ zs) h d = by_cases (eq-zero-or-pos (unsigned_abs z)) (some_or_none m g zs h.1 d.1)
  where
    by_cases : (unsigned_abs z ≡ 0) ⊎ (0 < unsigned_abs z) → DividesAll 0 zs ⊎ (g ≤ m) → DividesAll 0 (z ∷ zs) ⊎ (g ≤ m)
    by_cases (inr some) rest = inr (le_trans (le_of_dvd some d.0) h.0)
    by_cases (inl none) (inr le) = inr le
    by_cases (inl none) (inl all) = inl (subst (λ n. 0 ∣ n) (sym none) (dvd-zero 0), all)

pub gcd_small : (m g : ℕ) (zs : List ℤ) → AreWithin m zs → IsGcdOf zs g → 0 < g → g ≤ m
gcd_small m g zs h e some = by_cases (some_or_none m g zs h e.divides)
  where
    by_cases : DividesAll 0 zs ⊎ (g ≤ m) → g ≤ m
    by_cases (inr le) = le
    by_cases (inl all) = let none : g ≡ 0 = eq-zero_of_zero-dvd (e.greatest 0 all) in absurd (omega arith)

-- the divisor of a combination is no greater than its numbers can be
pub divisor_small : (n : ℕ) (own by : ℤ) (row turned : Equation) → unsigned_abs own ≤ 2 ^ 40 → unsigned_abs by ≤ 2 ^ 85 → IsSmallRow (2 ^ 84) row → IsSmallRow (2 ^ 40) turned
    → 0 < divisor n (combined_row own by row turned) → divisor n (combined_row own by row turned) ≤ 2 ^ 40 * 2 ^ 84 + 2 ^ 85 * 2 ^ 40
divisor_small n own by row turned ho hb hr ht some =
    let entries = within_take (2 ^ 40 * 2 ^ 84 + 2 ^ 85 * 2 ^ 40) n (combined own by row.entries turned.entries) (combined_small own by row.entries turned.entries (2 ^ 40) (2 ^ 84) (2 ^ 85) (2 ^ 40) ho hb hr.entries ht.entries) in
    let weight : unsigned_abs (own *ℤ row.weight) ≤ 2 ^ 40 * 2 ^ 84 = small_product own row.weight (own *ℤ row.weight) (2 ^ 40) (2 ^ 84) refl ho hr.weight in
    let weight_more : unsigned_abs (own *ℤ row.weight) ≤ 2 ^ 40 * 2 ^ 84 + 2 ^ 85 * 2 ^ 40 = omega arith in
    gcd_small (2 ^ 40 * 2 ^ 84 + 2 ^ 85 * 2 ^ 40) (divisor n (combined_row own by row turned)) ((own *ℤ row.weight) ∷ take n (combined own by row.entries turned.entries)) (weight_more, entries)
    (gcd_of-is ((own *ℤ row.weight) ∷ take n (combined own by row.entries turned.entries))) some
