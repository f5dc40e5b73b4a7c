-- The table before any pivot is the table of the helpers.
use Rattle.std.proofs.Common.{◌≡◌, ◌≢◌, ◌∙◌, ℕ, zero, suc, ◌+◌, ◌<◌, ◌≤◌, arith, refl, sym, ap, subst, ℤ, pos, ◌+ℤ◌, ◌*ℤ◌, ◌<ℤ◌, neg_ℤ, unsigned_abs, List, [], ◌∷◌, ◌++◌, map, length, get_or, Bool, true, false, cond, nat_lt, nat_eq, lt-ltb, le-ltb, eq-eqb, ne_eqb, ◌⊎◌, inl, inr}
use Rattle.std.specs.Int.{◌∣◌}
use Rattle.std.specs.List.{range_with_len}
use Rattle.std.proofs.lemmas.Int.{ints}
use Rattle.std.proofs.lemmas.Bool.{cases_lt}
use Rattle.std.proofs.lemmas.List.{get_or-map}
use Rattle.std.proofs.lemmas.List.FromFn.{get_or-map-range_with_len, get_or-range_with_len, length-range_with_len, map-range_with_len_more, take-map-range_with_len}
use Rattle.std.proofs.Math.ListN.{get_or-eq_default}
use Rattle.std.proofs.Math.Nat.{one-dvd}
use Rattle.fleet_model.specs.Divisors.{DividesAll, IsGcdOf}
use Rattle.fleet_model.specs.Equations.{Column, column_at, cost_of, entry, help_of, helper, helpers, right_side, route, total_from}
use Rattle.fleet_model.specs.Basis.{IsBody, IsDetermined, IsHelperList, IsPriceList, Pays}
use Rattle.fleet_model.proofs.Totals.{total_one}
use Rattle.fleet_model.proofs.Signs.{same_or_not}
use Rattle.fleet_model.proofs.Unique.{pays_least}
use Rattle.master_table.specs.Tableau.{Equation, IsRowWithin, IsSpelled, IsTableau, IsTableauOf, IsWithinCaps, Limits, Tableau, basis_columns, charge, entry_cap, multipliers, prices_of, row_at, size, weight_cap}
use Rattle.master_table.specs.Fresh.{fresh, fresh_entry, fresh_row}
use Rattle.master_table.proofs.Combinations.{length_map}
use Rattle.master_table.proofs.Tableaus.{gcd_negated_rest, length_neg}

-- ---- sums over ranges
all_from : (z : ℤ) (f : ℕ → ℤ) (j a k : ℕ) → ((c : ℕ) → a ≤ c → c < a + k → f c ≡ z) → total_from (λ c. true) j (map f (range_with_len a k)) ≡ pos k *ℤ z
all_from z f j a zero h = omega (arith, ints)
all_from z f j a (suc k) h =
    let here = h a (omega arith) (omega arith) in
    let rest = all_from z f (suc j) (a + 1) k (λ c l u. h c (omega arith) (omega arith)) in
    omega (arith, ints)

one_from : (f : ℕ → ℤ) (i j a k : ℕ) → a ≤ i → i < a + k → f i ≡ pos 1 → ((c : ℕ) → a ≤ c → c < a + k → c ≢ i → f c ≡ pos 0) → total_from (λ c. true) j (map f (range_with_len a k)) ≡ pos 1
one_from f i j a zero l u e h = absurd (omega arith)
one_from f i j a (suc k) l u e h = by_cases (same_or_not a i) (λ lo. one_from f i (suc j) (a + 1) k lo (omega arith) e (λ c lo up apart. h c (omega arith) (omega arith) apart))
  where
    by_cases : (a ≡ i) ⊎ (a ≢ i) → (a + 1 ≤ i → total_from (λ c. true) (suc j) (map f (range_with_len (a + 1) k)) ≡ pos 1) → f a +ℤ total_from (λ c. true) (suc j) (map f (range_with_len (a + 1) k)) ≡ pos 1
    by_cases (inl same) later =
        let first : f a ≡ pos 1 = ap f same ∙ e in
        let rest = all_from (pos 0) f (suc j) (a + 1) k (λ c lo up. h c (omega arith) (omega arith) (λ s. absurd (omega arith))) in
        omega (arith, ints)
    by_cases (inr other) later =
        let first = h a (omega arith) (omega arith) other in
        let rest = later (omega arith) in
        omega (arith, ints)

maps_range : (f : ℕ → ℤ) (g : Column → ℤ) (a k : ℕ) → ((c : ℕ) → a ≤ c → c < a + k → f c ≡ g (helper c)) → map f (range_with_len a k) ≡ map g (map helper (range_with_len a k))
maps_range f g a zero h = refl
maps_range f g a (suc k) h =
    let here = h a (omega arith) (omega arith) in
    let rest = maps_range f g (a + 1) k (λ c l u. h c (omega arith) (omega arith)) in
    cc

-- ---- divisors
divides_place : (d : ℕ) (zs : List ℤ) (i : ℕ) → i < length zs → DividesAll d zs → d ∣ unsigned_abs (get_or zs i (pos 0))
divides_place d [] i lt h = absurd (omega arith)
divides_place d (z ∷ zs) zero lt h = h.0
divides_place d (z ∷ zs) (suc i) lt h = divides_place d zs i (omega arith) h.1

ones_divide : (zs : List ℤ) → DividesAll 1 zs
ones_divide [] = tt
ones_divide (z ∷ zs) = (one-dvd (unsigned_abs z), ones_divide zs)

gcd_one : (zs : List ℤ) (i : ℕ) → i < length zs → get_or zs i (pos 0) ≡ pos 1 → IsGcdOf zs 1
gcd_one zs i lt e = record {
  divides = ones_divide zs;
  greatest = λ d h. subst (λ z. d ∣ unsigned_abs z) e (divides_place d zs i lt h);
}

-- ---- the rows
module _ (n : ℕ) (caps : Limits) where
  abbrev line : ℕ → Equation
  line i = fresh_row n i

  abbrev t : Tableau
  t = fresh n caps

  row_is : (i : ℕ) → i < n + 2 → row_at t i ≡ line i
  row_is i lt = get_or-map-range_with_len (fresh_row n) 0 (n + 2) i i (record { weight = pos 0; right = pos 0; entries = [] }) lt (omega arith)

  size_is : size t ≡ n
  size_is = length-range_with_len 0 n

  parts_are : (i : ℕ) → multipliers n (line i) ≡ map (fresh_entry n i) (range_with_len 0 n)
  parts_are i = take-map-range_with_len (fresh_entry n i) 0 n n (omega arith)

  part_at : (i c : ℕ) → c < n → get_or (multipliers n (line i)) c (pos 0) ≡ fresh_entry n i c
  part_at i c lt = ap (λ xs. get_or xs c (pos 0)) (parts_are i) ∙ get_or-map-range_with_len (fresh_entry n i) 0 n c c (pos 0) lt (omega arith)

  parts_length : (i : ℕ) → length (multipliers n (line i)) ≡ n
  parts_length i = ap length (parts_are i) ∙ length_map (fresh_entry n i) (range_with_len 0 n) ∙ length-range_with_len 0 n

  at_helper : (i c : ℕ) → c < n → entry (multipliers n (line i)) (helper c) ≡ fresh_entry n i c
  at_helper i c lt = total_one c (multipliers n (line i)) ∙ part_at i c lt

  -- the entries by kind of row
  own_entry : (i : ℕ) → i < n → fresh_entry n i i ≡ pos 1
  own_entry i lt = ap (λ b. cond b (cond (nat_eq i i) (pos 1) (pos 0)) (cond (nat_eq i n) (pos 0) (pos 1))) (lt-ltb i n lt) ∙ ap (λ b. cond b (pos 1) (pos 0)) (eq-eqb i i refl)

  other_entry : (i c : ℕ) → i < n → c ≢ i → fresh_entry n i c ≡ pos 0
  other_entry i c lt apart = ap (λ b. cond b (cond (nat_eq c i) (pos 1) (pos 0)) (cond (nat_eq i n) (pos 0) (pos 1))) (lt-ltb i n lt) ∙ ap (λ b. cond b (pos 1) (pos 0)) (ne_eqb c i apart)

  cost_row_entry : (c : ℕ) → fresh_entry n n c ≡ pos 0
  cost_row_entry c = ap (λ b. cond b (cond (nat_eq c n) (pos 1) (pos 0)) (cond (nat_eq n n) (pos 0) (pos 1))) (le-ltb n n (omega arith)) ∙ ap (λ b. cond b (pos 0) (pos 1)) (eq-eqb n n refl)

  helper_row_entry : (c : ℕ) → fresh_entry n (n + 1) c ≡ pos 1
  helper_row_entry c =
      ap (λ b. cond b (cond (nat_eq c (n + 1)) (pos 1) (pos 0)) (cond (nat_eq (n + 1) n) (pos 0) (pos 1))) (le-ltb (n + 1) n (omega arith)) ∙ ap (λ b. cond b (pos 0) (pos 1)) (ne_eqb (n + 1) n (λ e. absurd (omega arith)))

  -- kinds of rows
  kinds : (i : ℕ) → i < n + 2 → (i < n) ⊎ (i ≡ n) ⊎ (i ≡ n + 1)
  kinds i lt = by_cases (cases_lt i n) (same_or_not i n)
    where
      by_cases : (i < n) ⊎ (n ≤ i) → (i ≡ n) ⊎ (i ≢ n) → (i < n) ⊎ (i ≡ n) ⊎ (i ≡ n + 1)
      by_cases (inl l) s = inl l
      by_cases (inr l) (inl e) = inr (inl e)
      by_cases (inr l) (inr other) = inr (inr (omega arith))

  body_right : (i : ℕ) → i < n → (line i).right ≡ pos 1
  body_right i lt = ap (λ b. cond b (pos 1) (cond (nat_eq i n) (pos 0) (pos n))) (lt-ltb i n lt)

  cost_right : (line n).right ≡ pos 0
  cost_right = ap (λ b. cond b (pos 1) (cond (nat_eq n n) (pos 0) (pos n))) (le-ltb n n (omega arith)) ∙ ap (λ b. cond b (pos 0) (pos n)) (eq-eqb n n refl)

  helper_right : (line (n + 1)).right ≡ pos n
  helper_right = ap (λ b. cond b (pos 1) (cond (nat_eq (n + 1) n) (pos 0) (pos n))) (le-ltb (n + 1) n (omega arith)) ∙ ap (λ b. cond b (pos 0) (pos n)) (ne_eqb (n + 1) n (λ e. absurd (omega arith)))

  right_is : (i : ℕ) → i < n + 2 → (line i).right ≡ right_side (multipliers n (line i))
  right_is i lt = by_cases (kinds i lt) ∙ sym (ap right_side (parts_are i))
    where
      by_cases : (i < n) ⊎ (i ≡ n) ⊎ (i ≡ n + 1) → (line i).right ≡ right_side (map (fresh_entry n i) (range_with_len 0 n))
      by_cases (inl l) = body_right i l ∙ sym (one_from (fresh_entry n i) i 0 0 n (omega arith) (omega arith) (own_entry i l) (λ c lo up apart. other_entry i c l apart))
      by_cases (inr (inl e)) =
          subst (λ j. (line j).right ≡ right_side (map (fresh_entry n j) (range_with_len 0 n))) (sym e)
          (let sum = all_from (pos 0) (fresh_entry n n) 0 0 n (λ c lo up. cost_row_entry c) in let r = cost_right in omega (arith, ints))
      by_cases (inr (inr e)) =
          subst (λ j. (line j).right ≡ right_side (map (fresh_entry n j) (range_with_len 0 n))) (sym e)
          (let sum = all_from (pos 1) (fresh_entry n (n + 1)) 0 0 n (λ c lo up. helper_row_entry c) in let r = helper_right in omega (arith, ints))

  free_charge : (i c : ℕ) → charge n i (helper c) ≡ pos 0
  free_charge i c = by_cases (nat_lt n i)
    where
      by_cases : (b : Bool) → cond b (pos 0) (pos 0) ≡ pos 0
      by_cases true = refl
      by_cases false = refl

  spelled : (i : ℕ) → i < n + 2 → IsSpelled n i (helpers n) (line i)
  spelled i lt = record {
    entries = maps_range (fresh_entry n i) (λ b. (line i).weight *ℤ charge n i b +ℤ entry (multipliers n (line i)) b) 0 n
        (λ c lo up.
        let a = at_helper i c (omega arith) in
        let z : (line i).weight *ℤ charge n i (helper c) ≡ (line i).weight *ℤ pos 0 = ap (λ z. (line i).weight *ℤ z) (free_charge i c) in
        omega (arith, ints));
    right = right_is i lt;
  }

  -- ---- the basis
  column_is : (c : ℕ) → c < n → column_at (helpers n) c ≡ helper c
  column_is c lt = get_or-map-range_with_len helper 0 n c c (route [] 0) lt (omega arith)

  basis_is : (j : ℕ) → j < n → column_at (basis_columns t) j ≡ helper j
  basis_is j lt =
      let l = length-range_with_len 0 n in
      get_or-map (column_at (helpers n)) (range_with_len 0 n) j 0 (route [] 0) (omega arith)
      ∙ ap (column_at (helpers n)) (get_or-range_with_len 0 n j 0 lt ∙ (let e : 0 + j ≡ j = omega arith in e)) ∙ column_is j lt

  bodies : (i : ℕ) → i < n → IsBody n (basis_columns t) i (multipliers n (line i))
  bodies i lt = record {
    whole = parts_length i;
    own = subst (λ b. pos 0 <ℤ entry (multipliers n (line i)) b) (sym (basis_is i lt)) (let e = at_helper i i lt ∙ own_entry i lt in omega (arith, ints));
    others = λ j l apart. ap (entry (multipliers n (line i))) (basis_is j l) ∙ at_helper i j l ∙ other_entry i j lt apart;
    reduced = gcd_one (multipliers n (line i)) i (omega (arith, parts_length i)) (part_at i i lt ∙ own_entry i lt);
  }

  determined : IsDetermined n (basis_columns t)
  determined ms whole zeros c = by_cases (cases_lt c n)
    where
      by_cases : (c < n) ⊎ (n ≤ c) → get_or ms c (pos 0) ≡ pos 0
      by_cases (inl lt) = sym (total_one c ms) ∙ ap (entry ms) (sym (basis_is c lt)) ∙ zeros c lt
      by_cases (inr le) = get_or-eq_default ms (pos 0) (omega arith)

  cost_weight : (line n).weight ≡ pos 1
  cost_weight = ap (λ b. cond b (pos 0) (pos 1)) (le-ltb n n (omega arith))

  helper_weight : (line (n + 1)).weight ≡ pos 1
  helper_weight = ap (λ b. cond b (pos 0) (pos 1)) (le-ltb (n + 1) n (omega arith))

  body_weight : (i : ℕ) → i < n → (line i).weight ≡ pos 0
  body_weight i lt = ap (λ b. cond b (pos 0) (pos 1)) (lt-ltb i n lt)

  get_neg_at : (xs : List ℤ) (i : ℕ) → i < length xs → get_or (map neg_ℤ xs) i (pos 0) ≡ neg_ℤ (get_or xs i (pos 0))
  get_neg_at xs i lt = get_or-map neg_ℤ xs i (pos 0) (pos 0) lt

  costs_reduced : IsGcdOf ((line n).weight ∷ multipliers n (line n)) 1
  costs_reduced = gcd_one ((line n).weight ∷ multipliers n (line n)) 0 (omega arith) cost_weight

  numbers_reduced : IsGcdOf ((line (n + 1)).weight ∷ multipliers n (line (n + 1))) 1
  numbers_reduced = gcd_one ((line (n + 1)).weight ∷ multipliers n (line (n + 1))) 0 (omega arith) helper_weight

  prices_pay : Pays (λ b. pos (cost_of b)) n (basis_columns t) (line n).weight (prices_of n (line n))
  prices_pay = record {
    whole = length_neg (multipliers n (line n)) ∙ parts_length n;
    some = let w = cost_weight in omega (arith, ints);
    pays = λ j lt.
        subst (λ b. entry (prices_of n (line n)) b ≡ (line n).weight *ℤ pos (cost_of b)) (sym (basis_is j lt))
        (let e = total_one j (prices_of n (line n)) ∙ get_neg_at (multipliers n (line n)) j (omega (arith, parts_length n)) in let f = part_at n j lt ∙ cost_row_entry j in omega (arith, ints));
  }

  numbers_pay : Pays (λ b. pos (help_of b)) n (basis_columns t) (line (n + 1)).weight (multipliers n (line (n + 1)))
  numbers_pay = record {
    whole = parts_length (n + 1);
    some = let w = helper_weight in omega (arith, ints);
    pays = λ j lt.
        subst (λ b. entry (multipliers n (line (n + 1))) b ≡ (line (n + 1)).weight *ℤ pos (help_of b)) (sym (basis_is j lt))
        (let e = at_helper (n + 1) j lt ∙ helper_row_entry j in let w = helper_weight in omega (arith, ints));
  }

  count_helpers : length (helpers n) ≡ n
  count_helpers = length_map helper (range_with_len 0 n) ∙ length-range_with_len 0 n

  fresh_of_size : IsTableauOf n t
  fresh_of_size = record {
    high = length_map (fresh_row n) (range_with_len 0 (n + 2)) ∙ length-range_with_len 0 (n + 2);
    count = size_is;
    columns = record {
      enough = let l = count_helpers in omega arith;
      helped = column_is;
      routes = λ j le. ap help_of (get_or-eq_default (helpers n) (route [] 0) (let l = count_helpers in omega arith));
    };
    placed = λ i lt. let l = count_helpers in let e = get_or-range_with_len 0 n i 0 lt in omega arith;
    spelled = λ i lt. subst (IsSpelled n i (helpers n)) (sym (row_is i lt)) (spelled i lt);
    weightless = λ i lt. ap (λ (row : Equation). row.weight) (row_is i (omega arith)) ∙ body_weight i lt;
    bodies = λ i lt. subst (λ row. IsBody n (basis_columns t) i (multipliers n row)) (sym (row_is i (omega arith))) (bodies i lt);
    determined = determined;
    price_list = subst (λ (row : Equation). IsPriceList n (basis_columns t) row.weight (prices_of n row)) (sym (row_is n (omega arith)))
        (pays_least (λ b. pos (cost_of b)) n (basis_columns t) (line n).weight (prices_of n (line n)) determined prices_pay (gcd_negated_rest (line n).weight (multipliers n (line n)) costs_reduced));
    prices_reduced = subst (λ (row : Equation). IsGcdOf (row.weight ∷ multipliers n row) 1) (sym (row_is n (omega arith))) costs_reduced;
    helper_list = subst (λ (row : Equation). IsHelperList n (basis_columns t) row.weight (multipliers n row)) (sym (row_is (n + 1) (omega arith)))
        (pays_least (λ b. pos (help_of b)) n (basis_columns t) (line (n + 1)).weight (multipliers n (line (n + 1))) determined numbers_pay numbers_reduced);
    numbers_reduced = subst (λ (row : Equation). IsGcdOf (row.weight ∷ multipliers n row) 1) (sym (row_is (n + 1) (omega arith))) numbers_reduced;
  }

  pub fresh_tableau : IsTableau (fresh n caps)
  fresh_tableau = subst (λ m. IsTableauOf m t) (sym size_is) fresh_of_size

  -- ---- caps
  module _ (body : 1 ≤ caps.body) (cost : 1 ≤ caps.cost) (room : n ≤ caps.cost) where
    small_entry : (i c : ℕ) → unsigned_abs (fresh_entry n i c) ≤ 1
    small_entry i c = by_cases (nat_lt i n) (nat_eq c i) (nat_eq i n)
      where
        by_cases : (a b d : Bool) → unsigned_abs (cond a (cond b (pos 1) (pos 0)) (cond d (pos 0) (pos 1))) ≤ 1
        by_cases true true d = omega arith
        by_cases true false d = omega arith
        by_cases false b true = omega arith
        by_cases false b false = omega arith

    caps_some : (i : ℕ) → 1 ≤ entry_cap caps n i
    caps_some i = by_cases (nat_lt i n)
      where
        by_cases : (b : Bool) → 1 ≤ cond b caps.body caps.cost
        by_cases true = body
        by_cases false = cost

    weight_within : (i : ℕ) → unsigned_abs (line i).weight ≤ weight_cap caps n i
    weight_within i = by_cases (nat_lt i n) (nat_lt n i)
      where
        by_cases : (a b : Bool) → unsigned_abs (cond a (pos 0) (pos 1)) ≤ cond b caps.cost caps.body
        by_cases true b = omega arith
        by_cases false true = cost
        by_cases false false = body

    right_within : (i : ℕ) → i < n + 2 → unsigned_abs (line i).right ≤ entry_cap caps n i
    right_within i lt = by_cases (kinds i lt)
      where
        by_cases : (i < n) ⊎ (i ≡ n) ⊎ (i ≡ n + 1) → unsigned_abs (line i).right ≤ entry_cap caps n i
        by_cases (inl l) = let r = body_right i l in let c = caps_some i in omega (arith, ints)
        by_cases (inr (inl e)) = subst (λ j. unsigned_abs (line j).right ≤ entry_cap caps n j) (sym e) (let r = cost_right in omega (arith, ints))
        by_cases (inr (inr e)) = subst (λ j. unsigned_abs (line j).right ≤ entry_cap caps n j) (sym e)
            (let r = helper_right in let c : entry_cap caps n (n + 1) ≡ caps.cost = ap (λ b. cond b caps.body caps.cost) (le-ltb (n + 1) n (omega arith)) in omega (arith, ints))

    line_within : (i : ℕ) → i < n + 2 → IsRowWithin caps n i (line i)
    line_within i lt = record {
      entries = λ k d l.
          let s = small_entry i k in
          let c = caps_some i in
          let e = get_or-map-range_with_len (fresh_entry n i) 0 n k k d (let m = length_map (fresh_entry n i) (range_with_len 0 n) ∙ length-range_with_len 0 n in omega arith) (omega arith) in
          subst (λ z. unsigned_abs z ≤ entry_cap caps n i) (sym e) (omega arith);
      right = right_within i lt;
      weight = weight_within i;
    }

    pub fresh_within : IsWithinCaps (fresh n caps)
    fresh_within i lt =
        let e = size_is in
        let l : i < n + 2 = omega arith in
        subst (λ m. IsRowWithin caps m i (row_at t i)) (sym e) (subst (IsRowWithin caps n i) (sym (row_is i l)) (line_within i l))

-- a range with one number more
pub range_more : (a n j : ℕ) → a + n ≡ j → range_with_len a (n + 1) ≡ range_with_len a n ++ j ∷ []
range_more a n j e =
    let more = map-range_with_len_more (λ x. x) a n j e in
    sym (map_same (range_with_len a (n + 1))) ∙ more ∙ ap (λ xs. xs ++ j ∷ []) (map_same (range_with_len a n))
  where
    map_same : (xs : List ℕ) → map (λ x. x) xs ≡ xs
    map_same [] = refl
    map_same (x ∷ xs) = ap (λ ys. x ∷ ys) (map_same xs)
