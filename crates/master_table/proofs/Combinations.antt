-- Each row after a pivot is a combination of two rows before it, over a number above 0.
use Rattle.std.proofs.Common.{◌≡◌, ◌∙◌, ℕ, zero, suc, ◌<◌, arith, refl, sym, ap, subst, ℤ, pos, ◌+ℤ◌, ◌-ℤ◌, ◌*ℤ◌, ◌<ℤ◌, unsigned_abs, true, List, [], ◌∷◌, map, length, get_or}
use Rattle.std.specs.Int.{◌∣◌}
use Rattle.std.proofs.lemmas.Int.{ints}
use Rattle.std.proofs.Math.Nat.{dvd-zero}
use Rattle.fleet_model.specs.Divisors.{DividesAll}
use Rattle.fleet_model.specs.Equations.{Column, combined, entry, serves}
use Rattle.fleet_model.proofs.Ring.{*ℤ_comm}
use Rattle.fleet_model.proofs.Gcd.{dvd-+ℤ, dvd-*ℤ}
use Rattle.fleet_model.proofs.Lists.{gcd_of-is}
use Rattle.fleet_model.proofs.Signs.{above_is}
use Rattle.master_table.specs.Tableau.{Equation, IsSpelled, charge, multipliers}
use Rattle.master_table.specs.Pivoting.{IsCombinationOf, combined_row, divisor, quotients, reduced_row}
use Rattle.master_table.proofs.Quotients.{div_whole, divides_total}

pub length_map : {A B : Type 0} (f : A → B) (xs : List A) → length (map f xs) ≡ length xs
length_map f [] = refl
length_map f (x ∷ xs) = ap suc (length_map f xs)

pub spelled_length : (n i : ℕ) (columns : List Column) (row : Equation) → IsSpelled n i columns row → length row.entries ≡ length columns
spelled_length n i columns row s = ap length s.entries ∙ length_map (λ b. row.weight *ℤ charge n i b +ℤ entry (multipliers n row) b) columns

-- ---- lists, place by place
nothing_at : (j : ℕ) → get_or {A = ℤ} [] j (pos 0) ≡ pos 0
nothing_at zero = refl
nothing_at (suc j) = refl

quotient_at : (d : ℕ) (zs : List ℤ) (j : ℕ) → d ∣ unsigned_abs (get_or zs j (pos 0)) → pos d *ℤ get_or (quotients (pos d) zs) j (pos 0) ≡ get_or zs j (pos 0)
quotient_at d [] j h = let e = nothing_at j in rw e (omega (arith, ints))
quotient_at d (z ∷ zs) zero h = div_whole z d h
quotient_at d (z ∷ zs) (suc j) h = quotient_at d zs j h

combined_at : (f g : ℤ) (xs ys : List ℤ) (j : ℕ) → length xs ≡ length ys → get_or (combined f g xs ys) j (pos 0) ≡ f *ℤ get_or xs j (pos 0) -ℤ g *ℤ get_or ys j (pos 0)
combined_at f g [] [] j e = let n = nothing_at j in rw n (omega (arith, ints))
combined_at f g [] (y ∷ ys) j e = absurd (omega arith)
combined_at f g (x ∷ xs) [] j e = absurd (omega arith)
combined_at f g (x ∷ xs) (y ∷ ys) zero e = refl
combined_at f g (x ∷ xs) (y ∷ ys) (suc j) e = combined_at f g xs ys j (omega arith)

divides_at : (d : ℕ) (F : Column → ℤ) (columns : List Column) (j : ℕ) → ((b : Column) → d ∣ unsigned_abs (F b)) → d ∣ unsigned_abs (get_or (map F columns) j (pos 0))
divides_at d F [] zero h = dvd-zero d
divides_at d F [] (suc j) h = dvd-zero d
divides_at d F (b ∷ bs) zero h = h b
divides_at d F (b ∷ bs) (suc j) h = divides_at d F bs j h

-- ---- rows
-- the divisor of its weight and multipliers divides the whole row
module _ (n i d : ℕ) (columns : List Column) (row : Equation) (all : DividesAll d (row.weight ∷ multipliers n row)) (h : IsSpelled n i columns row) where
  divides_right : d ∣ unsigned_abs row.right
  divides_right = subst (λ z. d ∣ unsigned_abs z) (sym h.right) (divides_total d (λ c. true) (multipliers n row) all.1)

  divides_column : (b : Column) → d ∣ unsigned_abs (row.weight *ℤ charge n i b +ℤ entry (multipliers n row) b)
  divides_column b =
      let e = dvd-*ℤ d (charge n i b) row.weight all.0 in
      let swap = *ℤ_comm (charge n i b) row.weight in
      dvd-+ℤ d (row.weight *ℤ charge n i b) (entry (multipliers n row) b) (subst (λ z. d ∣ unsigned_abs z) swap e) (divides_total d (serves b) (multipliers n row) all.1)

  divides_entry : (j : ℕ) → d ∣ unsigned_abs (get_or row.entries j (pos 0))
  divides_entry j = subst (λ xs. d ∣ unsigned_abs (get_or xs j (pos 0))) (sym h.entries) (divides_at d (λ b. row.weight *ℤ charge n i b +ℤ entry (multipliers n row) b) columns j divides_column)

pub combination_divided : (n i : ℕ) (columns : List Column) (own by : ℤ) (row turned : Equation) → length row.entries ≡ length turned.entries → 0 < divisor n (combined_row own by row turned)
    → IsSpelled n i columns (combined_row own by row turned) → IsCombinationOf own by row turned (reduced_row n (combined_row own by row turned))
combination_divided n i columns own by row turned lengths some h =
    let mixed = combined_row own by row turned in
    let d = divisor n mixed in
    let all = (gcd_of-is (mixed.weight ∷ multipliers n mixed)).divides in
    record {
      factor = d;
      some = some;
      weight = div_whole mixed.weight d all.0;
      right = div_whole mixed.right d (divides_right n i d columns mixed all h);
      entries = λ j. quotient_at d mixed.entries j (divides_entry n i d columns mixed all h j) ∙ combined_at own by row.entries turned.entries j lengths;
    }

pub combination_same : (own by : ℤ) (row turned : Equation) → pos 0 <ℤ own → by ≡ pos 0 → IsCombinationOf own by row turned row
combination_same own by row turned above none =
    let k = above_is own above in
    record {
      factor = k.0;
      some = k.1;
      weight = ap (λ z. z *ℤ row.weight) (sym k.2);
      right = let e = ap (λ z. z *ℤ row.right) (sym k.2) in let f = ap (λ z. z *ℤ turned.right) none in omega (arith, ints);
      entries = λ j. let e = ap (λ z. z *ℤ get_or row.entries j (pos 0)) (sym k.2) in let f = ap (λ z. z *ℤ get_or turned.entries j (pos 0)) none in omega (arith, ints);
    }
