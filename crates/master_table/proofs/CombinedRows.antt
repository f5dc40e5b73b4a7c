-- Combined, divided and turned rows have at each column what their multipliers say.
use Rattle.std.proofs.Common.{◌≡◌, ◌∙◌, ℕ, zero, suc, ◌<◌, arith, refl, sym, ap, ap₂, ℤ, pos, negsuc, neg_ℤ, ◌+ℤ◌, ◌-ℤ◌, ◌*ℤ◌, int_div, subst, Bool, true, List, [], ◌∷◌, take, map, length, unsigned_abs}
use Rattle.std.specs.Int.{◌∣◌}
use Rattle.std.proofs.lemmas.Int.{ints}
use Rattle.std.proofs.lemmas.List.{take-map}
use Rattle.fleet_model.specs.Divisors.{DividesAll}
use Rattle.fleet_model.specs.Equations.{Column, combined, entry, right_side, serves, total}
use Rattle.fleet_model.proofs.Ring.{*ℤ-+ℤ, *ℤ_assoc, *ℤ_cancel, *ℤ_comm}
use Rattle.fleet_model.proofs.Gcd.{dvd-+ℤ, dvd-*ℤ}
use Rattle.fleet_model.proofs.Totals.{total_combined, total_times}
use Rattle.fleet_model.proofs.Signs.{factor_pos}
use Rattle.master_table.specs.Tableau.{Equation, IsSpelled, charge, multipliers}
use Rattle.master_table.specs.Pivoting.{combined_row, divided_row, quotients}
use Rattle.master_table.proofs.Quotients.{div_whole, divides_total, total_quotients}

pub take_combined : (n : ℕ) (f g : ℤ) (xs ys : List ℤ) → take n (combined f g xs ys) ≡ combined f g (take n xs) (take n ys)
take_combined zero f g xs ys = refl
take_combined (suc n) f g [] ys = refl
take_combined (suc n) f g (x ∷ xs) [] = refl
take_combined (suc n) f g (x ∷ xs) (y ∷ ys) = ap (λ zs. (f *ℤ x -ℤ g *ℤ y) ∷ zs) (take_combined n f g xs ys)

combined_maps : (f g : ℤ) (F G H : Column → ℤ) (columns : List Column) → ((b : Column) → f *ℤ F b -ℤ g *ℤ G b ≡ H b) → combined f g (map F columns) (map G columns) ≡ map H columns
combined_maps f g F G H [] h = refl
combined_maps f g F G H (b ∷ bs) h = let e = h b in let rest = combined_maps f g F G H bs h in cc

same_maps : (F H : Column → ℤ) (G : ℤ → ℤ) (columns : List Column) → ((b : Column) → G (F b) ≡ H b) → map G (map F columns) ≡ map H columns
same_maps F H G [] h = refl
same_maps F H G (b ∷ bs) h = let e = h b in let rest = same_maps F H G bs h in cc

-- own * (w * q + e) - by * t where t is 0 times a cost and a sum
spread : (own by w q e v p t : ℤ) → v ≡ pos 0 → own *ℤ (w *ℤ q +ℤ e) -ℤ by *ℤ (v *ℤ p +ℤ t) ≡ (own *ℤ w) *ℤ q +ℤ (own *ℤ e -ℤ by *ℤ t)
spread own by w q e v p t none =
    let a = *ℤ-+ℤ own (w *ℤ q) e in
    let b = *ℤ_assoc own w q in
    let nothing : v *ℤ p ≡ pos 0 = ap (λ z. z *ℤ p) none ∙ omega (arith, ints) in
    let d : by *ℤ (v *ℤ p +ℤ t) ≡ by *ℤ t = ap (λ z. by *ℤ z) (let f : v *ℤ p +ℤ t ≡ t = omega (arith, ints) in f) in
    omega (arith, ints)

module _ (n i r : ℕ) (columns : List Column) (own by : ℤ) (row turned : Equation) (lengths : length (multipliers n row) ≡ length (multipliers n turned)) (none : turned.weight ≡ pos 0)
    (h : IsSpelled n i columns row) (k : IsSpelled n r columns turned) where
  abbrev ms : List ℤ
  ms = multipliers n row

  abbrev ts : List ℤ
  ts = multipliers n turned

  taken : take n (combined own by row.entries turned.entries) ≡ combined own by ms ts
  taken = take_combined n own by row.entries turned.entries

  at : (b : Column) → own *ℤ (row.weight *ℤ charge n i b +ℤ entry ms b) -ℤ by *ℤ (turned.weight *ℤ charge n r b +ℤ entry ts b) ≡ (own *ℤ row.weight) *ℤ charge n i b +ℤ entry (combined own by ms ts) b
  at b = spread own by row.weight (charge n i b) (entry ms b) turned.weight (charge n r b) (entry ts b) none ∙ ap (λ z. (own *ℤ row.weight) *ℤ charge n i b +ℤ z) (sym (total_combined own by (serves b) ms ts lengths))

  pub spelled_combined : IsSpelled n i columns (combined_row own by row turned)
  spelled_combined = record {
    entries =
        ap₂ (combined own by) h.entries k.entries
        ∙ combined_maps own by (λ b. row.weight *ℤ charge n i b +ℤ entry ms b) (λ b. turned.weight *ℤ charge n r b +ℤ entry ts b) (λ b. (own *ℤ row.weight) *ℤ charge n i b +ℤ entry (combined own by ms ts) b) columns at
        ∙ ap (λ zs. map (λ b. (own *ℤ row.weight) *ℤ charge n i b +ℤ entry zs b) columns) (sym taken);
    right = ap₂ (λ x y. own *ℤ x -ℤ by *ℤ y) h.right k.right ∙ sym (total_combined own by (λ c. true) ms ts lengths) ∙ ap right_side (sym taken);
  }

module _ (n i d : ℕ) (columns : List Column) (row : Equation) (some : 0 < d) (all : DividesAll d (row.weight ∷ multipliers n row)) (h : IsSpelled n i columns row) where
  abbrev parts : List ℤ
  parts = multipliers n row

  shared : take n (quotients (pos d) row.entries) ≡ quotients (pos d) parts
  shared = take-map (λ z. int_div z (pos d)) n row.entries

  divides_product : (q : ℤ) → d ∣ unsigned_abs (row.weight *ℤ q)
  divides_product q = let e = dvd-*ℤ d q row.weight all.0 in let swap : q *ℤ row.weight ≡ row.weight *ℤ q = *ℤ_comm q row.weight in subst (λ z. d ∣ unsigned_abs z) swap e

  part : (b : Column) → int_div (row.weight *ℤ charge n i b +ℤ entry parts b) (pos d) ≡ int_div row.weight (pos d) *ℤ charge n i b +ℤ entry (quotients (pos d) parts) b
  part b =
      let q = charge n i b in
      let w = int_div row.weight (pos d) in
      let e = entry (quotients (pos d) parts) b in
      let divides : d ∣ unsigned_abs (row.weight *ℤ q +ℤ entry parts b) = dvd-+ℤ d (row.weight *ℤ q) (entry parts b) (divides_product q) (divides_total d (serves b) parts all.1) in
      let weight = div_whole row.weight d all.0 in
      let sum = total_quotients d (serves b) parts all.1 in
      let spread_out : pos d *ℤ (w *ℤ q +ℤ e) ≡ (pos d *ℤ w) *ℤ q +ℤ pos d *ℤ e = *ℤ-+ℤ (pos d) (w *ℤ q) e ∙ ap (λ z. z +ℤ pos d *ℤ e) (sym (*ℤ_assoc (pos d) w q)) in
      *ℤ_cancel (pos d) (int_div (row.weight *ℤ q +ℤ entry parts b) (pos d)) (w *ℤ q +ℤ e) (factor_pos d some)
      (div_whole (row.weight *ℤ q +ℤ entry parts b) d divides ∙ sym (spread_out ∙ ap₂ (λ x y. x *ℤ q +ℤ y) weight sum))

  pub spelled_divided : IsSpelled n i columns (divided_row (pos d) row)
  spelled_divided = record {
    entries =
        ap (quotients (pos d)) h.entries
        ∙ same_maps (λ b. row.weight *ℤ charge n i b +ℤ entry parts b) (λ b. int_div row.weight (pos d) *ℤ charge n i b +ℤ entry (quotients (pos d) parts) b) (λ z. int_div z (pos d)) columns part
        ∙ ap (λ zs. map (λ b. int_div row.weight (pos d) *ℤ charge n i b +ℤ entry zs b) columns) (sym shared);
    right = ap (λ z. int_div z (pos d)) h.right ∙ *ℤ_cancel (pos d) (int_div (right_side parts) (pos d)) (right_side (quotients (pos d) parts)) (factor_pos d some) (div_whole (right_side parts) d (divides_total d (λ c. true) parts all.1) ∙ sym (total_quotients d (λ c. true) parts all.1)) ∙ ap right_side (sym shared);
  }

-- with the other sign
neg_is : (z : ℤ) → neg_ℤ z ≡ negsuc 0 *ℤ z
neg_is z = omega (arith, ints)

pub neg_map : (zs : List ℤ) → map neg_ℤ zs ≡ map (λ z. negsuc 0 *ℤ z) zs
neg_map [] = refl
neg_map (z ∷ zs) = let e = neg_is z in let rest = neg_map zs in cc

pub total_neg : (s : ℕ → Bool) (zs : List ℤ) → total s (map neg_ℤ zs) ≡ neg_ℤ (total s zs)
total_neg s zs = ap (total s) (neg_map zs) ∙ total_times (negsuc 0) s zs ∙ sym (neg_is (total s zs))

module _ (n i : ℕ) (columns : List Column) (row : Equation) (none : row.weight ≡ pos 0) (h : IsSpelled n i columns row) where
  abbrev numbers : List ℤ
  numbers = multipliers n row

  turned_at : (b : Column) → neg_ℤ (row.weight *ℤ charge n i b +ℤ entry numbers b) ≡ row.weight *ℤ charge n i b +ℤ entry (map neg_ℤ numbers) b
  turned_at b =
      let e = total_neg (serves b) numbers in
      let nothing : row.weight *ℤ charge n i b ≡ pos 0 = ap (λ z. z *ℤ charge n i b) none ∙ omega (arith, ints) in
      omega (arith, ints)

  pub spelled_negated : IsSpelled n i columns (record { weight = row.weight; right = neg_ℤ row.right; entries = map neg_ℤ row.entries })
  spelled_negated = record {
    entries =
        ap (map neg_ℤ) h.entries
        ∙ same_maps (λ b. row.weight *ℤ charge n i b +ℤ entry numbers b) (λ b. row.weight *ℤ charge n i b +ℤ entry (map neg_ℤ numbers) b) neg_ℤ columns turned_at
        ∙ ap (λ zs. map (λ b. row.weight *ℤ charge n i b +ℤ entry zs b) columns) (sym (take-map neg_ℤ n row.entries));
    right = ap neg_ℤ h.right ∙ sym (total_neg (λ c. true) numbers) ∙ ap right_side (sym (take-map neg_ℤ n row.entries));
  }
