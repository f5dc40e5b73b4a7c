-- The table after a pivot is the table of the new basis.
use Rattle.std.proofs.Common.{◌≡◌, ◌≢◌, ◌∙◌, ℕ, zero, suc, ◌+◌, ◌<◌, ◌≤◌, arith, refl, sym, ap, ap₂, subst, ℤ, pos, negsuc, ◌+ℤ◌, ◌-ℤ◌, ◌*ℤ◌, ◌<ℤ◌, neg_ℤ, int_div, unsigned_abs, List, [], ◌∷◌, map, length, length-take-le, get_or, set, length-set, get_or-set_same, get_or-set_other, true, false, cond, nat_lt, lt-ltb, le-ltb, ◌⊎◌, inl, inr}
use Rattle.std.specs.Int.{◌∣◌}
use Rattle.std.proofs.lemmas.Int.{ints}
use Rattle.std.proofs.Math.Nat.{dvd-zero}
use Rattle.std.proofs.lemmas.Bool.{cases_lt}
use Rattle.std.proofs.lemmas.List.{get_or-map, take-map}
use Rattle.fleet_model.specs.Divisors.{DividesAll, IsGcdOf}
use Rattle.fleet_model.specs.Equations.{Column, column_at, combined, cost_of, entry, help_of, route, serves}
use Rattle.fleet_model.specs.Basis.{IsBody, IsDetermined, IsHelperList, IsPriceList, Pays}
use Rattle.fleet_model.proofs.Ring.{*ℤ_comm, *ℤ_pos, neg_ℤ-*ℤ}
use Rattle.fleet_model.proofs.Lists.{gcd_of-is}
use Rattle.fleet_model.proofs.Totals.{total_combined}
use Rattle.fleet_model.proofs.Signs.{factor_pos, same_or_not, zero_times}
use Rattle.fleet_model.proofs.Unique.{pays_least}
use Rattle.master_table.specs.Tableau.{Equation, IsSpelled, IsTableauOf, IsTableau, Tableau, basis_columns, charge, multipliers, prices_of, row_at, size}
use Rattle.master_table.specs.Pivoting.{IsCombinationOf, IsPivotOf, combined_row, divided_row, divisor, excess, is_below, pivoted, quotients, row_after, rows_after, turned_row}
use Rattle.master_table.proofs.Quotients.{IsReducedOf, divides_total, gcd_pos, reduced_quotients, reduced_rest, reduced_same}
use Rattle.master_table.proofs.CombinedRows.{spelled_combined, spelled_divided, spelled_negated, take_combined, total_neg}
use Rattle.master_table.proofs.Combinations.{combination_divided, combination_same, length_map, spelled_length}
use Rattle.master_table.proofs.Pivots.{IsPivoted, IsRows, pays_after}
use Rattle.master_table.proofs.Pivots as pivots
use Rattle.master_table.proofs.Reduced.{row_after-other, row_after-pivot, row_after-same}

-- ---- lists
pub map_set : {A B : Type 0} (f : A → B) (xs : List A) (i : ℕ) (x : A) → map f (set xs i x) ≡ set (map f xs) i (f x)
map_set f [] i x = refl
map_set f (y ∷ ys) zero x = refl
map_set f (y ∷ ys) (suc i) x = ap (λ zs. f y ∷ zs) (map_set f ys i x)

get_neg : (xs : List ℤ) (i : ℕ) → get_or (map neg_ℤ xs) i (pos 0) ≡ neg_ℤ (get_or xs i (pos 0))
get_neg [] zero = refl
get_neg [] (suc i) = refl
get_neg (x ∷ xs) zero = refl
get_neg (x ∷ xs) (suc i) = get_neg xs i

pub zero_or_not : (z : ℤ) → (z ≡ pos 0) ⊎ (z ≢ pos 0)
zero_or_not (pos zero) = inl refl
zero_or_not (pos (suc n)) = inr (λ e. absurd (omega (arith, ints)))
zero_or_not (negsuc n) = inr (λ e. absurd (omega (arith, ints)))

-- ---- lists that pay, with the other sign
times_neg : (w x : ℤ) → w *ℤ neg_ℤ x ≡ neg_ℤ (w *ℤ x)
times_neg w x = *ℤ_comm w (neg_ℤ x) ∙ neg_ℤ-*ℤ x w ∙ ap neg_ℤ (*ℤ_comm x w)

pub length_neg : (zs : List ℤ) → length (map neg_ℤ zs) ≡ length zs
length_neg zs = length_map neg_ℤ zs

pub pays_back : (worth : Column → ℤ) (n : ℕ) (basis : List Column) (w : ℤ) (ms : List ℤ) → Pays worth n basis w (map neg_ℤ ms) → Pays (λ b. neg_ℤ (worth b)) n basis w ms
pays_back worth n basis w ms h = record {
  whole = sym (length_neg ms) ∙ h.whole;
  some = h.some;
  pays = λ j lt.
      let c = column_at basis j in
      let e = sym (total_neg (serves c) ms) ∙ h.pays j lt in
      let f = times_neg w (worth c) in
      omega (arith, ints);
}

pub pays_negated : (worth : Column → ℤ) (n : ℕ) (basis : List Column) (w : ℤ) (ms : List ℤ) → Pays (λ b. neg_ℤ (worth b)) n basis w ms → Pays worth n basis w (map neg_ℤ ms)
pays_negated worth n basis w ms h = record {
  whole = length_neg ms ∙ h.whole;
  some = h.some;
  pays = λ j lt.
      let c = column_at basis j in
      let e = total_neg (serves c) ms in
      let p = h.pays j lt in
      let f = times_neg w (worth c) in
      omega (arith, ints);
}

divides_negated : (d : ℕ) (zs : List ℤ) → DividesAll d (map neg_ℤ zs) → DividesAll d zs
divides_negated d [] h = tt
divides_negated d (z ∷ zs) h = (subst (λ m. d ∣ m) (let e : unsigned_abs (neg_ℤ z) ≡ unsigned_abs z = omega (arith, ints) in e) h.0, divides_negated d zs h.1)

divides_to_negated : (d : ℕ) (zs : List ℤ) → DividesAll d zs → DividesAll d (map neg_ℤ zs)
divides_to_negated d [] h = tt
divides_to_negated d (z ∷ zs) h = (subst (λ m. d ∣ m) (let e : unsigned_abs z ≡ unsigned_abs (neg_ℤ z) = omega (arith, ints) in e) h.0, divides_to_negated d zs h.1)

pub gcd_negated_rest : (w : ℤ) (zs : List ℤ) → IsGcdOf (w ∷ zs) 1 → IsGcdOf (w ∷ map neg_ℤ zs) 1
gcd_negated_rest w zs h = record {
  divides = (h.divides.0, divides_to_negated 1 zs h.divides.1);
  greatest = λ d all. h.greatest d (all.0, divides_negated d zs all.1);
}

gcd_after_zero : (w : ℤ) (zs : List ℤ) → w ≡ pos 0 → IsGcdOf zs 1 → IsGcdOf (w ∷ zs) 1
gcd_after_zero w zs none h = record {
  divides = (subst (λ z. 1 ∣ unsigned_abs z) (sym none) (dvd-zero 1), h.divides);
  greatest = λ d all. h.greatest d all.1;
}

-- ---- the row of the pivot
pub record IsTurn (n r : ℕ) (columns : List Column) (col : ℕ) (row turn : Equation) : Type 0 where
  pub weight : turn.weight ≡ pos 0
  pub spelled : IsSpelled n r columns turn
  pub same : (multipliers n turn ≡ multipliers n row) ⊎ (multipliers n turn ≡ map neg_ℤ (multipliers n row))
  pub above : pos 0 <ℤ get_or turn.entries col (pos 0)

sign_of : (z : ℤ) → z ≢ pos 0 → ((is_below z ≡ true) × (z <ℤ pos 0)) ⊎ ((is_below z ≡ false) × (pos 0 <ℤ z))
sign_of (pos zero) h = absurd (h refl)
sign_of (pos (suc n)) h = inr (refl, omega (arith, ints))
sign_of (negsuc n) h = inl (refl, omega (arith, ints))

pub is_turn : (n r : ℕ) (columns : List Column) (col : ℕ) (row : Equation) → row.weight ≡ pos 0 → IsSpelled n r columns row → get_or row.entries col (pos 0) ≢ pos 0 → IsTurn n r columns col row (turned_row col row)
is_turn n r columns col row none h some = by_cases (sign_of (get_or row.entries col (pos 0)) some)
  where
    by_cases : ((is_below (get_or row.entries col (pos 0)) ≡ true) × (get_or row.entries col (pos 0) <ℤ pos 0)) ⊎ ((is_below (get_or row.entries col (pos 0)) ≡ false) × (pos 0 <ℤ get_or row.entries col (pos 0)))
        → IsTurn n r columns col row (turned_row col row)
    by_cases (inr (e, above)) = subst (λ b. IsTurn n r columns col row (cond b (record { weight = row.weight; right = neg_ℤ row.right; entries = map neg_ℤ row.entries }) row)) (sym e)
        (record { weight = none; spelled = h; same = inl refl; above = above })
    by_cases (inl (e, under)) = subst (λ b. IsTurn n r columns col row (cond b (record { weight = row.weight; right = neg_ℤ row.right; entries = map neg_ℤ row.entries }) row)) (sym e)
        (record {
          weight = none;
          spelled = spelled_negated n r columns row none h;
          same = inr (take-map neg_ℤ n row.entries);
          above = let g = get_neg row.entries col in omega (arith, ints);
        })

-- ---- the rows, place by place
pub after_at : (n r col : ℕ) (turned : Equation) (i : ℕ) (rows : List Equation) (k : ℕ) (d : Equation) → k < length rows → get_or (rows_after n r col turned i rows) k d ≡ row_after n r col turned (i + k) (get_or rows k d)
after_at n r col turned i [] k d lt = absurd (omega arith)
after_at n r col turned i (row ∷ rows) zero d lt = let e : i ≡ i + 0 = omega arith in ap (λ j. row_after n r col turned j row) e
after_at n r col turned i (row ∷ rows) (suc k) d lt =
    let e : (i + 1) + k ≡ i + suc k = omega arith in
    after_at n r col turned (i + 1) rows k d (omega arith) ∙ ap (λ j. row_after n r col turned j (get_or rows k d)) e

pub length_after : (n r col : ℕ) (turned : Equation) (i : ℕ) (rows : List Equation) → length (rows_after n r col turned i rows) ≡ length rows
length_after n r col turned i [] = refl
length_after n r col turned i (row ∷ rows) = ap suc (length_after n r col turned (i + 1) rows)

-- ---- the pivot
module _ (t : Tableau) (h : IsTableau t) (r col : ℕ) (below : r < size t) (inside : col < length t.columns) (some : get_or (row_at t r).entries col (pos 0) ≢ pos 0) where
  abbrev n : ℕ
  n = size t

  abbrev row : ℕ → Equation
  row i = row_at t i

  abbrev ms : ℕ → List ℤ
  ms i = multipliers n (row i)

  abbrev turn : Equation
  turn = turned_row col (row r)

  abbrev ts : List ℤ
  ts = multipliers n turn

  abbrev c : Column
  c = column_at t.columns col

  abbrev B : List Column
  B = basis_columns t

  abbrev next_row : ℕ → Equation
  next_row i = row_after n r col turn i (row i)

  abbrev by : ℕ → ℤ
  by i = excess n col i (row i)

  abbrev own : ℤ
  own = get_or turn.entries col (pos 0)

  turns : IsTurn n r t.columns col (row r) turn
  turns = is_turn n r t.columns col (row r) (h.weightless r below) (h.spelled r (omega arith)) some

  -- entries at the column
  spelled_at : (i : ℕ) (line : Equation) → IsSpelled n i t.columns line → get_or line.entries col (pos 0) ≡ line.weight *ℤ charge n i c +ℤ entry (multipliers n line) c
  spelled_at i line s =
      ap (λ xs. get_or xs col (pos 0)) s.entries
      ∙ get_or-map (λ b. line.weight *ℤ charge n i b +ℤ entry (multipliers n line) b) t.columns col (route [] 0) (pos 0) inside

  weightless_at : (i : ℕ) (line : Equation) → IsSpelled n i t.columns line → line.weight ≡ pos 0 → get_or line.entries col (pos 0) ≡ entry (multipliers n line) c
  weightless_at i line s none =
      let e = spelled_at i line s in
      let nothing : line.weight *ℤ charge n i c ≡ pos 0 = ap (λ z. z *ℤ charge n i c) none ∙ omega (arith, ints) in
      omega (arith, ints)

  own_is : own ≡ entry ts c
  own_is = weightless_at r turn turns.spelled turns.weight

  -- lengths
  length_line : (i : ℕ) (line : Equation) → IsSpelled n i t.columns line → length (multipliers n line) ≡ n
  length_line i line s =
      let e = ap length s.entries ∙ length_map (λ b. line.weight *ℤ charge n i b +ℤ entry (multipliers n line) b) t.columns in
      let enough = h.columns.enough in
      length-take-le n line.entries (omega arith)

  same_lengths : (i : ℕ) → i < n + 2 → length (ms i) ≡ length ts
  same_lengths i lt = length_line i (row i) (h.spelled i lt) ∙ sym (length_line r turn turns.spelled)

  -- what each row has of the column
  excess_body : (i : ℕ) → i < n → by i ≡ entry (ms i) c
  excess_body i lt =
      let e = weightless_at i (row i) (h.spelled i (omega arith)) (h.weightless i lt) in
      let no : nat_lt n i ≡ false = le-ltb n i (omega arith) in
      ap (λ b. get_or (row i).entries col (pos 0) -ℤ cond b (cond (nat_lt col n) (row i).weight (pos 0)) (pos 0)) no ∙ omega (arith, ints)

  excess_cost : by n ≡ entry (ms n) c -ℤ (row n).weight *ℤ neg_ℤ (pos (cost_of c))
  excess_cost =
      let e = spelled_at n (row n) (h.spelled n (omega arith)) in
      let no : nat_lt n n ≡ false = le-ltb n n (omega arith) in
      let q : charge n n c ≡ pos (cost_of c) = ap (λ b. cond b (pos 0) (pos (cost_of c))) no in
      let f : (row n).weight *ℤ charge n n c ≡ (row n).weight *ℤ pos (cost_of c) = ap (λ z. (row n).weight *ℤ z) q in
      let g = times_neg (row n).weight (pos (cost_of c)) in
      ap (λ b. get_or (row n).entries col (pos 0) -ℤ cond b (cond (nat_lt col n) (row n).weight (pos 0)) (pos 0)) no ∙ omega (arith, ints)

  excess_helper : by (n + 1) ≡ entry (ms (n + 1)) c -ℤ (row (n + 1)).weight *ℤ pos (help_of c)
  excess_helper =
      let v = (row (n + 1)).weight in
      let x = get_or (row (n + 1)).entries col (pos 0) in
      let e = spelled_at (n + 1) (row (n + 1)) (h.spelled (n + 1) (omega arith)) in
      let yes : nat_lt n (n + 1) ≡ true = lt-ltb n (n + 1) (omega arith) in
      let q : charge n (n + 1) c ≡ pos 0 = ap (λ b. cond b (pos 0) (pos (cost_of c))) yes in
      let f : v *ℤ charge n (n + 1) c ≡ v *ℤ pos 0 = ap (λ z. v *ℤ z) q in
      let plain : x ≡ entry (ms (n + 1)) c = omega (arith, ints) in
      ap (λ b. x -ℤ cond b (cond (nat_lt col n) v (pos 0)) (pos 0)) yes
      ∙ by_cases (cases_lt col n) plain
    where
      by_cases : (col < n) ⊎ (n ≤ col) → get_or (row (n + 1)).entries col (pos 0) ≡ entry (ms (n + 1)) c
          → get_or (row (n + 1)).entries col (pos 0) -ℤ cond (nat_lt col n) (row (n + 1)).weight (pos 0) ≡ entry (ms (n + 1)) c -ℤ (row (n + 1)).weight *ℤ pos (help_of c)
      by_cases (inl lt) plain =
          let yes : nat_lt col n ≡ true = lt-ltb col n lt in
          let one : help_of c ≡ 1 = ap help_of (h.columns.helped col lt) in
          let w : (row (n + 1)).weight *ℤ pos (help_of c) ≡ (row (n + 1)).weight *ℤ pos 1 = ap (λ m. (row (n + 1)).weight *ℤ pos m) one in
          ap (λ b. get_or (row (n + 1)).entries col (pos 0) -ℤ cond b (row (n + 1)).weight (pos 0)) yes ∙ omega (arith, ints)
      by_cases (inr le) plain =
          let no : nat_lt col n ≡ false = le-ltb col n le in
          let zero_help : help_of c ≡ 0 = h.columns.routes col le in
          let w : (row (n + 1)).weight *ℤ pos (help_of c) ≡ (row (n + 1)).weight *ℤ pos 0 = ap (λ m. (row (n + 1)).weight *ℤ pos m) zero_help in
          ap (λ b. get_or (row (n + 1)).entries col (pos 0) -ℤ cond b (row (n + 1)).weight (pos 0)) no ∙ omega (arith, ints)

  -- a combined row
  abbrev mixed : ℕ → Equation
  mixed i = combined_row own (by i) (row i) turn

  mixed_is : (i : ℕ) → multipliers n (mixed i) ≡ combined own (by i) (ms i) ts
  mixed_is i = take_combined n own (by i) (row i).entries turn.entries

  -- its divisor is above 0
  some_body : (i : ℕ) → i < n → i ≢ r → 0 < divisor n (mixed i)
  some_body i lt apart =
      let b = column_at B i in
      let body = h.bodies i lt in
      let e = total_combined own (by i) (serves b) (ms i) ts (same_lengths i (omega arith)) in
      let z : entry ts b ≡ pos 0 = zero_turn b turns.same ((h.bodies r below).others i lt apart) in
      let product = *ℤ_pos own (entry (ms i) b) turns.above body.own in
      let gone : by i *ℤ entry ts b ≡ pos 0 = ap (λ x. by i *ℤ x) z ∙ omega (arith, ints) in
      let same : entry (multipliers n (mixed i)) b ≡ own *ℤ entry (ms i) b = ap (λ xs. entry xs b) (mixed_is i) ∙ e ∙ omega (arith, ints) in
      gcd_pos ((own *ℤ (row i).weight) ∷ multipliers n (mixed i)) (own *ℤ entry (ms i) b) product
      (λ d all. subst (λ x. d ∣ unsigned_abs x) same (divides_total d (serves b) (multipliers n (mixed i)) all.1))
    where
      zero_turn : (b : Column) → ((ts ≡ ms r) ⊎ (ts ≡ map neg_ℤ (ms r))) → entry (ms r) b ≡ pos 0 → entry ts b ≡ pos 0
      zero_turn b (inl e) z = ap (λ xs. entry xs b) e ∙ z
      zero_turn b (inr e) z = let f = ap (λ xs. entry xs b) e in let g = total_neg (serves b) (ms r) in omega (arith, ints)

  some_weighted : (i : ℕ) → pos 0 <ℤ (row i).weight → 0 < divisor n (mixed i)
  some_weighted i above =
      gcd_pos ((own *ℤ (row i).weight) ∷ multipliers n (mixed i)) (own *ℤ (row i).weight) (*ℤ_pos own (row i).weight turns.above above) (λ d all. all.0)

  pub some_divisor : (i : ℕ) → i < n + 2 → i ≢ r → 0 < divisor n (mixed i)
  some_divisor i lt apart = by_cases (cases_lt i n)
    where
      by_cases : (i < n) ⊎ (n ≤ i) → 0 < divisor n (mixed i)
      by_cases (inl l) = some_body i l apart
      by_cases (inr l) = further (same_or_not i n)
        where
          further : (i ≡ n) ⊎ (i ≢ n) → 0 < divisor n (mixed i)
          further (inl e) = some_weighted i (subst (λ j. pos 0 <ℤ (row j).weight) (sym e) h.price_list.list.some)
          further (inr other) = some_weighted i (subst (λ j. pos 0 <ℤ (row j).weight) (let e : n + 1 ≡ i = omega arith in e) h.helper_list.list.some)

  -- a row after the pivot
  turn_next : next_row r ≡ turn
  turn_next = row_after-pivot n r col r turn (row r) refl

  spelled_next : (i : ℕ) → i < n + 2 → (i ≡ r) ⊎ (i ≢ r) → IsSpelled n i t.columns (next_row i)
  spelled_next i lt (inl e) = subst (λ line. IsSpelled n i t.columns line) (sym (row_after-pivot n r col i turn (row i) e)) (subst (λ j. IsSpelled n j t.columns turn) (sym e) turns.spelled)
  spelled_next i lt (inr apart) = by_cases (zero_or_not (by i))
    where
      by_cases : (by i ≡ pos 0) ⊎ (by i ≢ pos 0) → IsSpelled n i t.columns (next_row i)
      by_cases (inl none) = subst (λ line. IsSpelled n i t.columns line) (sym (row_after-same n r col i turn (row i) apart none)) (h.spelled i lt)
      by_cases (inr more) =
          subst (λ line. IsSpelled n i t.columns line) (sym (row_after-other n r col i turn (row i) apart more))
          (spelled_divided n i (divisor n (mixed i)) t.columns (mixed i) (some_divisor i lt apart) (gcd_of-is ((own *ℤ (row i).weight) ∷ multipliers n (mixed i))).divides
          (spelled_combined n i r t.columns own (by i) (row i) turn (same_lengths i lt) turns.weight (h.spelled i lt) turns.spelled))

  -- it is the combination divided by its greatest common divisor
  reduced_next : (i : ℕ) → i < n + 2 → i ≢ r → IsGcdOf ((row i).weight ∷ ms i) 1 → IsReducedOf (combined own (by i) ((row i).weight ∷ ms i) (pos 0 ∷ ts)) ((next_row i).weight ∷ multipliers n (next_row i))
  reduced_next i lt apart one = by_cases (zero_or_not (by i))
    where
      by_cases : (by i ≡ pos 0) ⊎ (by i ≢ pos 0) → IsReducedOf (combined own (by i) ((row i).weight ∷ ms i) (pos 0 ∷ ts)) ((next_row i).weight ∷ multipliers n (next_row i))
      by_cases (inl none) =
          subst (λ line. IsReducedOf (combined own (by i) ((row i).weight ∷ ms i) (pos 0 ∷ ts)) (line.weight ∷ multipliers n line)) (sym (row_after-same n r col i turn (row i) apart none))
          (subst (λ g. IsReducedOf (combined own g ((row i).weight ∷ ms i) (pos 0 ∷ ts)) ((row i).weight ∷ ms i)) (sym none)
          (reduced_same own ((row i).weight ∷ ms i) (pos 0 ∷ ts) turns.above (ap suc (same_lengths i lt)) one))
      by_cases (inr more) =
          let d = divisor n (mixed i) in
          let from : (own *ℤ (row i).weight) ∷ multipliers n (mixed i) ≡ combined own (by i) ((row i).weight ∷ ms i) (pos 0 ∷ ts) =
          ap₂ (λ z zs. z ∷ zs) (let e : own *ℤ (row i).weight ≡ own *ℤ (row i).weight -ℤ by i *ℤ pos 0 = omega (arith, ints) in e) (mixed_is i) in
          let to : quotients (pos d) ((own *ℤ (row i).weight) ∷ multipliers n (mixed i)) ≡ (divided_row (pos d) (mixed i)).weight ∷ multipliers n (divided_row (pos d) (mixed i)) =
          ap (λ zs. int_div (own *ℤ (row i).weight) (pos d) ∷ zs) (sym (take-map (λ z. int_div z (pos d)) n (mixed i).entries)) in
          let made = reduced_quotients d ((own *ℤ (row i).weight) ∷ multipliers n (mixed i)) (some_divisor i lt apart) (gcd_of-is ((own *ℤ (row i).weight) ∷ multipliers n (mixed i))) in
          subst (λ line. IsReducedOf (combined own (by i) ((row i).weight ∷ ms i) (pos 0 ∷ ts)) (line.weight ∷ multipliers n line)) (sym (row_after-other n r col i turn (row i) apart more))
          (subst (λ zs. IsReducedOf zs ((divided_row (pos d) (mixed i)).weight ∷ multipliers n (divided_row (pos d) (mixed i)))) from
          (subst (λ zs. IsReducedOf ((own *ℤ (row i).weight) ∷ multipliers n (mixed i)) zs) to made))

  gcd_line : (i : ℕ) → i < n → IsGcdOf ((row i).weight ∷ ms i) 1
  gcd_line i lt = gcd_after_zero (row i).weight (ms i) (h.weightless i lt) (h.bodies i lt).reduced

  rows_before : IsRows n B ms
  rows_before = record { count = length_map (column_at t.columns) t.basis; bodies = h.bodies; determined = h.determined }

  abbrev news : ℕ → List ℤ
  news i = multipliers n (next_row i)

  turn_news : news r ≡ ts
  turn_news = ap (multipliers n) turn_next

  body_next : (i : ℕ) → i < n → i ≢ r → IsReducedOf (combined (entry ts c) (entry (ms i) c) (ms i) ts) (news i)
  body_next i lt apart =
      let with_weight = reduced_next i (omega arith) apart (gcd_line i lt) in
      let none : own *ℤ (row i).weight -ℤ by i *ℤ pos 0 ≡ pos 0 = let w = ap (λ z. own *ℤ z) (h.weightless i lt) in omega (arith, ints) in
      let rest = reduced_rest (own *ℤ (row i).weight -ℤ by i *ℤ pos 0) (next_row i).weight (combined own (by i) (ms i) ts) (news i) none with_weight in
      subst (λ f. IsReducedOf (combined f (entry (ms i) c) (ms i) ts) (news i)) own_is
      (subst (λ g. IsReducedOf (combined own g (ms i) ts) (news i)) (excess_body i lt) rest)

  is_pivoted : IsPivoted n r c ms news
  is_pivoted = record {
    turned = subst (λ xs. (xs ≡ ms r) ⊎ (xs ≡ map neg_ℤ (ms r))) (sym turn_news) turns.same;
    above = subst (λ xs. pos 0 <ℤ entry xs c) (sym turn_news) (subst (λ z. pos 0 <ℤ z) own_is turns.above);
    others = λ i lt apart. subst (λ xs. IsReducedOf (combined (entry xs c) (entry (ms i) c) (ms i) xs) (news i)) (sym turn_news) (body_next i lt apart);
  }

  abbrev next_basis : List Column
  next_basis = set B r c

  rows_next : IsRows n next_basis news
  rows_next = pivots.rows_after n r c B ms news rows_before below is_pivoted

  pays_next : (worth : Column → ℤ) (i : ℕ) → n ≤ i → i < n + 2 → Pays worth n B (row i).weight (ms i) → IsGcdOf ((row i).weight ∷ ms i) 1 → by i ≡ entry (ms i) c -ℤ (row i).weight *ℤ worth c
      → Pays worth n next_basis (next_row i).weight (news i) × IsGcdOf ((next_row i).weight ∷ news i) 1
  pays_next worth i le lt list one is =
      let made = reduced_next i lt (λ e. absurd (omega arith)) one in
      let full = subst (λ xs. IsReducedOf (combined (entry xs c) (entry (ms i) c -ℤ (row i).weight *ℤ worth c) ((row i).weight ∷ ms i) (pos 0 ∷ xs)) ((next_row i).weight ∷ news i)) (sym turn_news)
      (subst (λ f. IsReducedOf (combined f (entry (ms i) c -ℤ (row i).weight *ℤ worth c) ((row i).weight ∷ ms i) (pos 0 ∷ ts)) ((next_row i).weight ∷ news i)) own_is
      (subst (λ g. IsReducedOf (combined own g ((row i).weight ∷ ms i) (pos 0 ∷ ts)) ((next_row i).weight ∷ news i)) is made)) in
      (pays_after n r c B ms news rows_before below is_pivoted worth (row i).weight (next_row i).weight (ms i) (news i) list full, made.reduced)

  cost_next : Pays (λ b. neg_ℤ (pos (cost_of b))) n next_basis (next_row n).weight (news n) × IsGcdOf ((next_row n).weight ∷ news n) 1
  cost_next = pays_next (λ b. neg_ℤ (pos (cost_of b))) n (omega arith) (omega arith)
      (pays_back (λ b. pos (cost_of b)) n B (row n).weight (ms n) h.price_list.list) h.prices_reduced excess_cost

  helper_next : Pays (λ b. pos (help_of b)) n next_basis (next_row (n + 1)).weight (news (n + 1)) × IsGcdOf ((next_row (n + 1)).weight ∷ news (n + 1)) 1
  helper_next = pays_next (λ b. pos (help_of b)) (n + 1) (omega arith) (omega arith) h.helper_list.list h.numbers_reduced excess_helper

  -- ---- the table
  abbrev after : Tableau
  after = pivoted r col t

  after_row : (i : ℕ) → i < n + 2 → row_at after i ≡ next_row i
  after_row i lt = after_at n r col turn 0 t.rows i (record { weight = pos 0; right = pos 0; entries = [] }) (omega (arith, h.high)) ∙ (let e : 0 + i ≡ i = omega arith in ap (λ j. row_after n r col turn j (row i)) e)

  after_basis : basis_columns after ≡ next_basis
  after_basis = map_set (column_at t.columns) t.basis r col

  weight_next : (i : ℕ) → i < n → (i ≡ r) ⊎ (i ≢ r) → (next_row i).weight ≡ pos 0
  weight_next i lt (inl e) = ap (λ line. line.weight) (row_after-pivot n r col i turn (row i) e) ∙ turns.weight
  weight_next i lt (inr apart) = by_cases (zero_or_not (by i))
    where
      by_cases : (by i ≡ pos 0) ⊎ (by i ≢ pos 0) → (next_row i).weight ≡ pos 0
      by_cases (inl none) = ap (λ line. line.weight) (row_after-same n r col i turn (row i) apart none) ∙ h.weightless i lt
      by_cases (inr more) =
          let made = reduced_next i (omega arith) apart (gcd_line i lt) in
          let s = made.same in
          let head : pos made.factor *ℤ (next_row i).weight ≡ own *ℤ (row i).weight -ℤ by i *ℤ pos 0 = cc in
          let none : own *ℤ (row i).weight ≡ pos 0 = ap (λ z. own *ℤ z) (h.weightless i lt) ∙ omega (arith, ints) in
          zero_times (pos made.factor) (next_row i).weight (factor_pos made.factor made.some) (omega (arith, ints))

  placed_next : (i : ℕ) → i < n → (i ≡ r) ⊎ (i ≢ r) → get_or (set t.basis r col) i 0 < length t.columns
  placed_next i lt (inl e) = subst (λ j. get_or (set t.basis r col) j 0 < length t.columns) (sym e) (subst (λ m. m < length t.columns) (sym (get_or-set_same t.basis r col 0 below)) inside)
  placed_next i lt (inr other) = subst (λ m. m < length t.columns) (sym (get_or-set_other t.basis r i col 0 other)) (h.placed i lt)

  tableau_of_size : IsTableauOf n after
  tableau_of_size = record {
    high = length_after n r col turn 0 t.rows ∙ h.high;
    count = length-set t.basis r col;
    columns = h.columns;
    placed = λ i lt. placed_next i lt (same_or_not i r);
    spelled = λ i lt. subst (λ line. IsSpelled n i t.columns line) (sym (after_row i lt)) (spelled_next i lt (same_or_not i r));
    weightless = λ i lt. ap (λ line. line.weight) (after_row i (omega arith)) ∙ weight_next i lt (same_or_not i r);
    bodies = λ i lt.
        subst (λ basis. IsBody n basis i (multipliers n (row_at after i))) (sym after_basis)
        (subst (λ line. IsBody n next_basis i (multipliers n line)) (sym (after_row i (omega arith))) (rows_next.bodies i lt));
    determined = subst (λ basis. IsDetermined n basis) (sym after_basis) rows_next.determined;
    price_list =
        subst (λ basis. IsPriceList n basis (row_at after n).weight (prices_of n (row_at after n))) (sym after_basis)
        (subst (λ line. IsPriceList n next_basis line.weight (prices_of n line)) (sym (after_row n (omega arith)))
        (pays_least (λ b. pos (cost_of b)) n next_basis (next_row n).weight (map neg_ℤ (news n)) rows_next.determined
        (pays_negated (λ b. pos (cost_of b)) n next_basis (next_row n).weight (news n) cost_next.0)
        (gcd_negated_rest (next_row n).weight (news n) cost_next.1)));
    prices_reduced = subst (λ line. IsGcdOf (line.weight ∷ multipliers n line) 1) (sym (after_row n (omega arith))) cost_next.1;
    helper_list =
        subst (λ basis. IsHelperList n basis (row_at after (n + 1)).weight (multipliers n (row_at after (n + 1)))) (sym after_basis)
        (subst (λ line. IsHelperList n next_basis line.weight (multipliers n line)) (sym (after_row (n + 1) (omega arith)))
        (pays_least (λ b. pos (help_of b)) n next_basis (next_row (n + 1)).weight (news (n + 1)) rows_next.determined helper_next.0 helper_next.1));
    numbers_reduced = subst (λ line. IsGcdOf (line.weight ∷ multipliers n line) 1) (sym (after_row (n + 1) (omega arith))) helper_next.1;
  }

  pub pivoted_tableau : IsTableau (pivoted r col t)
  pivoted_tableau = subst (λ m. IsTableauOf m after) (sym (length-set t.basis r col)) tableau_of_size

  -- ---- the rows as combinations
  brought : (i : ℕ) → i < n + 2 → i ≢ r → IsCombinationOf own (by i) (row i) turn (next_row i)
  brought i lt apart = by_cases (zero_or_not (by i))
    where
      by_cases : (by i ≡ pos 0) ⊎ (by i ≢ pos 0) → IsCombinationOf own (by i) (row i) turn (next_row i)
      by_cases (inl none) =
          subst (λ line. IsCombinationOf own (by i) (row i) turn line) (sym (row_after-same n r col i turn (row i) apart none))
          (combination_same own (by i) (row i) turn turns.above none)
      by_cases (inr more) =
          subst (λ line. IsCombinationOf own (by i) (row i) turn line) (sym (row_after-other n r col i turn (row i) apart more))
          (combination_divided n i t.columns own (by i) (row i) turn
          (spelled_length n i t.columns (row i) (h.spelled i lt) ∙ sym (spelled_length n r t.columns turn turns.spelled))
          (some_divisor i lt apart)
          (spelled_combined n i r t.columns own (by i) (row i) turn (same_lengths i lt) turns.weight (h.spelled i lt) turns.spelled))

  turned_after : row_at after r ≡ turn
  turned_after = after_row r (omega arith) ∙ turn_next

  pub pivot_of : IsPivotOf r col t (pivoted r col t)
  pivot_of = record {
    columns = refl;
    caps = refl;
    basis = refl;
    turned = turned_after;
    above = subst (λ (line : Equation). pos 0 <ℤ get_or line.entries col (pos 0)) (sym turned_after) turns.above;
    others = λ i lt apart.
        subst (λ (line : Equation). IsCombinationOf (get_or line.entries col (pos 0)) (by i) (row i) line (row_at after i)) (sym turned_after)
        (subst (λ line. IsCombinationOf own (by i) (row i) turn line) (sym (after_row i lt)) (brought i lt apart));
  }
