-- After a pivot the rows are the body equations of the new basis, and the further rows pay for it.
use Rattle.std.proofs.Common.{◌≡◌, ◌≢◌, ◌∙◌, ℕ, ◌<◌, arith, sym, ap, subst, ℤ, pos, negsuc, ◌-ℤ◌, ◌*ℤ◌, ◌<ℤ◌, neg_ℤ, unsigned_abs, List, [], ◌∷◌, map, length, get_or, set, get_or-set_same, get_or-set_other, length-set, ◌⊎◌, inl, inr}
use Rattle.std.specs.Int.{◌∣◌}
use Rattle.std.proofs.lemmas.Int.{ints}
use Rattle.fleet_model.specs.Divisors.{DividesAll, IsGcdOf}
use Rattle.fleet_model.specs.Equations.{Column, column_at, combined, entry, route, serves, total}
use Rattle.fleet_model.specs.Basis.{IsBody, IsDetermined, Pays}
use Rattle.fleet_model.proofs.Ring.{*ℤ_comm, *ℤ_assoc, *ℤ_pos, *ℤ--ℤ, *ℤ_cancel}
use Rattle.fleet_model.proofs.Totals.{total_nothing, total_times, total_combined, length-combined, length-times}
use Rattle.fleet_model.proofs.Signs.{above_times, factor_pos, same_or_not, zero_times}
use Rattle.master_table.proofs.Quotients.{IsReducedOf}
use Rattle.master_table.proofs.CombinedRows.{neg_map, total_neg}

-- the body equations of a basis, by their multipliers
pub record IsRows (n : ℕ) (basis : List Column) (rows : ℕ → List ℤ) : Type 0 where
  pub count : length basis ≡ n
  pub bodies : (i : ℕ) → i < n → IsBody n basis i (rows i)
  pub determined : IsDetermined n basis

-- the rows after a pivot: the row at r turned so that its entry at the column is above 0, and the column taken out of the others
pub record IsPivoted (n r : ℕ) (col : Column) (old new : ℕ → List ℤ) : Type 0 where
  pub turned : (new r ≡ old r) ⊎ (new r ≡ map neg_ℤ (old r))
  pub above : pos 0 <ℤ entry (new r) col
  pub others : (i : ℕ) → i < n → i ≢ r → IsReducedOf (combined (entry (new r) col) (entry (old i) col) (old i) (new r)) (new i)

-- the entry of a reduced combination, times the common divisor
pub reduced_entry : (f g : ℤ) (xs ys zs : List ℤ) → length xs ≡ length ys → (h : IsReducedOf (combined f g xs ys) zs) → (c : Column) → pos h.factor *ℤ entry zs c ≡ f *ℤ entry xs c -ℤ g *ℤ entry ys c
reduced_entry f g xs ys zs e h c =
    sym (total_times (pos h.factor) (serves c) zs) ∙ ap (total (serves c)) h.same ∙ total_combined f g (serves c) xs ys e

pub length-reduced : (f g : ℤ) (xs ys zs : List ℤ) → length xs ≡ length ys → IsReducedOf (combined f g xs ys) zs → length zs ≡ length xs
length-reduced f g xs ys zs e h = sym (length-times (pos h.factor) zs) ∙ ap length h.same ∙ length-combined f g xs ys e

-- a row turned or not has the same divisors
abs_neg : (z : ℤ) → unsigned_abs (neg_ℤ z) ≡ unsigned_abs z
abs_neg z = omega (arith, ints)

divides_neg : (d : ℕ) (zs : List ℤ) → DividesAll d zs → DividesAll d (map neg_ℤ zs)
divides_neg d [] h = tt
divides_neg d (z ∷ zs) h = (subst (λ n. d ∣ n) (sym (abs_neg z)) h.0, divides_neg d zs h.1)

divides_un_neg : (d : ℕ) (zs : List ℤ) → DividesAll d (map neg_ℤ zs) → DividesAll d zs
divides_un_neg d [] h = tt
divides_un_neg d (z ∷ zs) h = (subst (λ n. d ∣ n) (abs_neg z) h.0, divides_un_neg d zs h.1)

gcd_neg : (zs : List ℤ) (g : ℕ) → IsGcdOf zs g → IsGcdOf (map neg_ℤ zs) g
gcd_neg zs g h = record { divides = divides_neg g zs h.divides; greatest = λ d k. h.greatest d (divides_un_neg d zs k) }

module _ (n r : ℕ) (col : Column) (basis : List Column) (old new : ℕ → List ℤ) (rows : IsRows n basis old) (below : r < n) (p : IsPivoted n r col old new) where
  abbrev was : List ℤ
  was = old r

  abbrev turned : List ℤ
  turned = new r

  -- the turned row is 0 at the rest of the basis
  zero_turned : (c : Column) → entry was c ≡ pos 0 → ((turned ≡ was) ⊎ (turned ≡ map neg_ℤ was)) → entry turned c ≡ pos 0
  zero_turned c z (inl e) = ap (λ ms. entry ms c) e ∙ z
  zero_turned c z (inr e) = let t = total_neg (serves c) was in let same = ap (λ ms. entry ms c) e in omega (arith, ints)

  pub turned_zero : (j : ℕ) → j < n → j ≢ r → entry turned (column_at basis j) ≡ pos 0
  turned_zero j lt other = zero_turned (column_at basis j) ((rows.bodies r below).others j lt other) p.turned

  -- the new basis at a place
  abbrev next : List Column
  next = set basis r col

  pub next_same : column_at next r ≡ col
  next_same = get_or-set_same basis r col (route [] 0) (omega (arith, rows.count))

  pub next_other : (j : ℕ) → j ≢ r → column_at next j ≡ column_at basis j
  next_other j other = get_or-set_other basis r j col (route [] 0) other

  length_was : length was ≡ n
  length_was = (rows.bodies r below).whole

  length_cases : ((turned ≡ was) ⊎ (turned ≡ map neg_ℤ was)) → length turned ≡ n
  length_cases (inl e) = ap length e ∙ length_was
  length_cases (inr e) = ap length e ∙ ap length (neg_map was) ∙ length-times (negsuc 0) was ∙ length_was

  pub length_turned : length turned ≡ n
  length_turned = length_cases p.turned

  reduced_cases : ((turned ≡ was) ⊎ (turned ≡ map neg_ℤ was)) → IsGcdOf turned 1
  reduced_cases (inl e) = subst (λ zs. IsGcdOf zs 1) (sym e) (rows.bodies r below).reduced
  reduced_cases (inr e) = subst (λ zs. IsGcdOf zs 1) (sym e) (gcd_neg was 1 (rows.bodies r below).reduced)

  -- the row at the pivot
  pivot_body : IsBody n next r turned
  pivot_body = record {
    whole = length_turned;
    own = subst (λ c. pos 0 <ℤ entry turned c) (sym next_same) p.above;
    others = λ j lt other. ap (entry turned) (next_other j other) ∙ turned_zero j lt other;
    reduced = reduced_cases p.turned;
  }

  -- another row
  module _ (i : ℕ) (lt_i : i < n) (apart : i ≢ r) where
    abbrev pub row : List ℤ
    row = old i

    abbrev pub now : List ℤ
    now = new i

    abbrev pub red : IsReducedOf (combined (entry turned col) (entry row col) row turned) now
    red = p.others i lt_i apart

    pub same_length : length row ≡ length turned
    same_length = (rows.bodies i lt_i).whole ∙ sym length_turned

    pub at : (c : Column) → pos red.factor *ℤ entry now c ≡ entry turned col *ℤ entry row c -ℤ entry row col *ℤ entry turned c
    at c = reduced_entry (entry turned col) (entry row col) row turned now same_length red c

    pub k_pos : pos 0 <ℤ pos red.factor
    k_pos = factor_pos red.factor red.some

    at_old : (j : ℕ) → j < n → j ≢ r → pos red.factor *ℤ entry now (column_at basis j) ≡ entry turned col *ℤ entry row (column_at basis j)
    at_old j lt other =
        let c = column_at basis j in
        let z = turned_zero j lt other in
        at c ∙ ap (λ x. entry turned col *ℤ entry row c -ℤ entry row col *ℤ x) z ∙ omega (arith, ints)

    own_now : pos 0 <ℤ entry now (column_at basis i)
    own_now =
        let d = (rows.bodies i lt_i).own in
        let product = *ℤ_pos (entry turned col) (entry row (column_at basis i)) p.above d in
        above_times (pos red.factor) (entry now (column_at basis i)) k_pos (subst (λ x. pos 0 <ℤ x) (sym (at_old i lt_i apart)) product)

    col_now : entry now col ≡ pos 0
    col_now =
        let e = at col in
        let swap = *ℤ_comm (entry turned col) (entry row col) in
        zero_times (pos red.factor) (entry now col) k_pos (omega (arith, ints))

    old_now : (j : ℕ) → j < n → j ≢ r → j ≢ i → entry now (column_at basis j) ≡ pos 0
    old_now j lt other here =
        let z = (rows.bodies i lt_i).others j lt here in
        let e = at_old j lt other ∙ ap (λ x. entry turned col *ℤ x) z in
        zero_times (pos red.factor) (entry now (column_at basis j)) k_pos (e ∙ omega (arith, ints))

    others_now : (j : ℕ) → j < n → j ≢ i → (j ≡ r) ⊎ (j ≢ r) → entry now (column_at next j) ≡ pos 0
    others_now j lt here (inl e) = ap (λ x. entry now (column_at next x)) e ∙ ap (entry now) next_same ∙ col_now
    others_now j lt here (inr other) = ap (entry now) (next_other j other) ∙ old_now j lt other here

    other_body : IsBody n next i now
    other_body = record {
      whole = length-reduced (entry turned col) (entry row col) row turned now same_length red ∙ (rows.bodies i lt_i).whole;
      own = subst (λ c. pos 0 <ℤ entry now c) (sym (next_other i apart)) own_now;
      others = λ j lt here. others_now j lt here (same_or_not j r);
      reduced = red.reduced;
    }

  body_at : (i : ℕ) → i < n → (i ≡ r) ⊎ (i ≢ r) → IsBody n next i (new i)
  body_at i lt (inl e) = subst (λ x. IsBody n next x (new x)) (sym e) pivot_body
  body_at i lt (inr apart) = other_body i lt apart

  -- the new basis determines its combinations
  module _ (ms : List ℤ) (whole : length ms ≡ n) (zeros : (j : ℕ) → j < n → entry ms (column_at next j) ≡ pos 0) where
    abbrev leaving : Column
    leaving = column_at basis r

    abbrev crossed : List ℤ
    crossed = combined (entry turned leaving) (entry ms leaving) ms turned

    lengths : length ms ≡ length turned
    lengths = whole ∙ sym length_turned

    at_crossed : (c : Column) → entry crossed c ≡ entry turned leaving *ℤ entry ms c -ℤ entry ms leaving *ℤ entry turned c
    at_crossed c = total_combined (entry turned leaving) (entry ms leaving) (serves c) ms turned lengths

    ms_other : (j : ℕ) → j < n → j ≢ r → entry ms (column_at basis j) ≡ pos 0
    ms_other j lt other = ap (entry ms) (sym (next_other j other)) ∙ zeros j lt

    ms_col : entry ms col ≡ pos 0
    ms_col = ap (entry ms) (sym next_same) ∙ zeros r below

    crossed_zero : (j : ℕ) → j < n → (j ≡ r) ⊎ (j ≢ r) → entry crossed (column_at basis j) ≡ pos 0
    crossed_zero j lt (inl e) =
        let a = at_crossed leaving in
        let swap = *ℤ_comm (entry turned leaving) (entry ms leaving) in
        ap (λ x. entry crossed (column_at basis x)) e ∙ a ∙ omega (arith, ints)
    crossed_zero j lt (inr other) =
        let c = column_at basis j in
        at_crossed c ∙ ap (λ x. entry turned leaving *ℤ x -ℤ entry ms leaving *ℤ entry turned c) (ms_other j lt other) ∙ ap (λ x. entry turned leaving *ℤ pos 0 -ℤ entry ms leaving *ℤ x) (turned_zero j lt other) ∙ omega (arith, ints)

    crossed_nothing : (c : ℕ) → get_or crossed c (pos 0) ≡ pos 0
    crossed_nothing = rows.determined crossed (length-combined (entry turned leaving) (entry ms leaving) ms turned lengths ∙ whole) (λ j lt. crossed_zero j lt (same_or_not j r))

    at_leaving : entry ms leaving ≡ pos 0
    at_leaving =
        let e = sym (at_crossed col) ∙ total_nothing (serves col) crossed crossed_nothing in
        let f = ap (λ x. entry turned leaving *ℤ x -ℤ entry ms leaving *ℤ entry turned col) (sym ms_col) ∙ e in
        let swap = *ℤ_comm (entry ms leaving) (entry turned col) in
        zero_times (entry turned col) (entry ms leaving) p.above (omega (arith, ints))

    ms_zero : (j : ℕ) → j < n → (j ≡ r) ⊎ (j ≢ r) → entry ms (column_at basis j) ≡ pos 0
    ms_zero j lt (inl e) = ap (λ x. entry ms (column_at basis x)) e ∙ at_leaving
    ms_zero j lt (inr other) = ms_other j lt other

    nothing : (c : ℕ) → get_or ms c (pos 0) ≡ pos 0
    nothing = rows.determined ms whole (λ j lt. ms_zero j lt (same_or_not j r))

  pub rows_after : IsRows n next new
  rows_after = record {
    count = length-set basis r col ∙ rows.count;
    bodies = λ i lt. body_at i lt (same_or_not i r);
    determined = nothing;
  }

  -- ---- a list that pays for the basis, and the column taken out of it
  module _ (worth : Column → ℤ) (w v : ℤ) (before after : List ℤ) (list : Pays worth n basis w before)
      (q : IsReducedOf (combined (entry turned col) (entry before col -ℤ w *ℤ worth col) (w ∷ before) (pos 0 ∷ turned)) (v ∷ after)) where
    abbrev k : ℤ
    k = pos q.factor

    abbrev f : ℤ
    f = entry turned col

    abbrev g : ℤ
    g = entry before col -ℤ w *ℤ worth col

    split : map (λ z. k *ℤ z) (v ∷ after) ≡ (f *ℤ w -ℤ g *ℤ pos 0) ∷ combined f g before turned
    split = q.same

    head : k *ℤ v ≡ f *ℤ w
    head = let s = split in let h : k *ℤ v ≡ f *ℤ w -ℤ g *ℤ pos 0 = cc in h ∙ omega (arith, ints)

    tail : map (λ z. k *ℤ z) after ≡ combined f g before turned
    tail = let s = split in cc

    pay_lengths : length before ≡ length turned
    pay_lengths = list.whole ∙ sym length_turned

    at_entry : (c : Column) → k *ℤ entry after c ≡ f *ℤ entry before c -ℤ g *ℤ entry turned c
    at_entry c = sym (total_times k (serves c) after) ∙ ap (total (serves c)) tail ∙ total_combined f g (serves c) before turned pay_lengths

    some_after : pos 0 <ℤ v
    some_after = above_times k v (factor_pos q.factor q.some) (subst (λ x. pos 0 <ℤ x) (sym head) (*ℤ_pos f w p.above list.some))

    pay_at : (c : Column) → (f *ℤ entry before c -ℤ g *ℤ entry turned c) ≡ f *ℤ (w *ℤ worth c) → entry after c ≡ v *ℤ worth c
    pay_at c e =
        let scaled : k *ℤ (v *ℤ worth c) ≡ f *ℤ (w *ℤ worth c) = sym (*ℤ_assoc k v (worth c)) ∙ ap (λ x. x *ℤ worth c) head ∙ *ℤ_assoc f w (worth c) in
        *ℤ_cancel k (entry after c) (v *ℤ worth c) (factor_pos q.factor q.some) (at_entry c ∙ e ∙ sym scaled)

    pays_now : (j : ℕ) → j < n → (j ≡ r) ⊎ (j ≢ r) → entry after (column_at next j) ≡ v *ℤ worth (column_at next j)
    pays_now j lt (inl e) =
        subst (λ x. entry after (column_at next x) ≡ v *ℤ worth (column_at next x)) (sym e)
        (subst (λ c. entry after c ≡ v *ℤ worth c) (sym next_same)
        (pay_at col (
        let swap = *ℤ_comm f g in
        let spread = *ℤ--ℤ f (entry before col) (w *ℤ worth col) in
        omega (arith, ints))))
    pays_now j lt (inr other) =
        let c = column_at basis j in
        subst (λ x. entry after x ≡ v *ℤ worth x) (sym (next_other j other))
        (pay_at c (ap (λ x. f *ℤ x -ℤ g *ℤ entry turned c) (list.pays j lt) ∙ ap (λ x. f *ℤ (w *ℤ worth c) -ℤ g *ℤ x) (turned_zero j lt other) ∙ omega (arith, ints)))

    pub pays_after : Pays worth n next v after
    pays_after = record {
      whole = sym (length-times k after) ∙ ap length tail ∙ length-combined f g before turned pay_lengths ∙ list.whole;
      some = some_after;
      pays = λ j lt. pays_now j lt (same_or_not j r);
    }
