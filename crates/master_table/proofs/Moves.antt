-- The rows of a basis in another order, and that it is past the caps in each order.
use Rattle.std.proofs.Common.{◌≡◌, ◌≢◌, ◌∙◌, ℕ, ◌*◌, ◌<◌, arith, sym, ap, subst, ℤ, pos, ◌<ℤ◌, ◌*ℤ◌, unsigned_abs, List, [], map, length, get_or, ◌⊎◌, inl, inr}
use Rattle.std.specs.Int.{◌∣◌}
use Rattle.std.proofs.lemmas.Int.{ints}
use Rattle.std.proofs.lemmas.List.{get_or-map}
use Rattle.fleet_model.specs.Equations.{Column, column_at, cost_of, entry, help_of, right_side, route}
use Rattle.fleet_model.specs.Basis.{IsBody, IsShareWeight, Pays, PaysLeast}
use Rattle.fleet_model.specs.Wide.{IsBodyPast, IsHelperListPast, IsPast, IsPriceListPast, IsShareWeightPast}
use Rattle.master_table.proofs.Combinations.{length_map}
use Rattle.master_table.proofs.Independence.{is_basis}
use Rattle.master_table.proofs.Pivots.{IsRows}

-- each column of one list stands in the other
abbrev pub StandsIn : ℕ → List Column → List Column → Type 0
StandsIn n xs ys = (i : ℕ) → i < n → (j : ℕ) × (j < n) × (column_at xs i ≡ column_at ys j)

-- the columns of a basis differ
module _ (n : ℕ) (basis : List Column) (rows : ℕ → List ℤ) (is : IsRows n basis rows) where
  pub columns_apart : (i j : ℕ) → i < n → j < n → i ≢ j → column_at basis i ≡ column_at basis j → ⊥
  columns_apart i j li lj apart e =
      let own = (is.bodies j lj).own in
      let none = (is.bodies j lj).others i li apart in
      let same = ap (entry (rows j)) e in
      omega (arith, ints)

-- what holds of one order holds of the other
module _ (n : ℕ) (xs ys : List Column) (rx ry : ℕ → List ℤ) (isx : IsRows n xs rx) (isy : IsRows n ys ry) (there : StandsIn n xs ys) (back : StandsIn n ys xs) where
  body_moves : (i j : ℕ) (ms : List ℤ) → j < n → column_at xs i ≡ column_at ys j → IsBody n xs i ms → IsBody n ys j ms
  body_moves i j ms lj e body = record {
    whole = body.whole;
    own = subst (λ b. pos 0 <ℤ entry ms b) e body.own;
    others = λ k lk apart.
        let found = back k lk in
        let other : found.0 ≢ i = (λ s. columns_apart n ys ry isy k j lk lj apart (found.2 ∙ ap (column_at xs) s ∙ e)) in
        ap (entry ms) found.2 ∙ body.others found.0 found.1 other;
    reduced = body.reduced;
  }

  pays_moves : (worth : Column → ℤ) (w : ℤ) (numbers : List ℤ) → Pays worth n xs w numbers → Pays worth n ys w numbers
  pays_moves worth w numbers p = record {
    whole = p.whole;
    some = p.some;
    pays = λ j lt. let found = back j lt in ap (entry numbers) found.2 ∙ p.pays found.0 found.1 ∙ ap (λ b. w *ℤ worth b) (sym found.2);
  }

  pays_back : (worth : Column → ℤ) (w : ℤ) (numbers : List ℤ) → Pays worth n ys w numbers → Pays worth n xs w numbers
  pays_back worth w numbers p = record {
    whole = p.whole;
    some = p.some;
    pays = λ j lt. let found = there j lt in ap (entry numbers) found.2 ∙ p.pays found.0 found.1 ∙ ap (λ b. w *ℤ worth b) (sym found.2);
  }

  least_moves : (worth : Column → ℤ) (w : ℤ) (numbers : List ℤ) → PaysLeast worth n xs w numbers → PaysLeast worth n ys w numbers
  least_moves worth w numbers p = record {
    list = pays_moves worth w numbers p.list;
    least = λ v others q. p.least v others (pays_back worth v others q);
  }

module _ (n : ℕ) (xs ys : List Column) (rx ry : ℕ → List ℤ) (isx : IsRows n xs rx) (isy : IsRows n ys ry) (there : StandsIn n xs ys) (back : StandsIn n ys xs) where
  weight_moves : (W : ℕ) → IsShareWeight n xs W → IsShareWeight n ys W
  weight_moves W w = record {
    some = w.some;
    whole = λ j ms lj body.
        let found = back j lj in
        let moved = body_moves n ys xs ry rx isy isx back there j found.0 ms found.1 found.2 body in
        subst (λ b. unsigned_abs (entry ms b) ∣ (W * unsigned_abs (right_side ms))) (sym found.2) (w.whole found.0 ms found.1 moved);
    least = λ V some makes. w.least V some (λ i ms li body.
        let found = there i li in
        let moved = body_moves n xs ys rx ry isx isy there back i found.0 ms found.1 found.2 body in
        subst (λ b. unsigned_abs (entry ms b) ∣ (V * unsigned_abs (right_side ms))) (sym found.2) (makes found.0 ms found.1 moved));
  }

  pub past_moves : (body cost : ℕ) (columns : List Column) → IsPast body cost n columns xs → IsPast body cost n columns ys
  past_moves body cost columns p = record { is_basis = is_basis n ys ry isy; past = by_cases p.past }
    where
      by_cases : IsBodyPast body n columns xs ⊎ IsPriceListPast body cost n columns xs ⊎ IsHelperListPast cost n columns xs ⊎ IsShareWeightPast body n xs
          → IsBodyPast body n columns ys ⊎ IsPriceListPast body cost n columns ys ⊎ IsHelperListPast cost n columns ys ⊎ IsShareWeightPast body n ys
      by_cases (inl (i, ms, lt, is, past)) = let found = there i lt in inl (found.0, ms, found.1, body_moves n xs ys rx ry isx isy there back i found.0 ms found.1 found.2 is, past)
      by_cases (inr (inl (w, prices, list, past))) = inr (inl (w, prices, least_moves n xs ys rx ry isx isy there back (λ b. pos (cost_of b)) w prices list, past))
      by_cases (inr (inr (inl (v, numbers, list, past)))) = inr (inr (inl (v, numbers, least_moves n xs ys rx ry isx isy there back (λ b. pos (help_of b)) v numbers list, past)))
      by_cases (inr (inr (inr (W, weight, past)))) = inr (inr (inr (W, weight_moves W weight, past)))

-- ---- an order of the places
pub record IsOrder (n : ℕ) (places : List ℕ) : Type 0 where
  pub count : length places ≡ n
  pub below : (j : ℕ) → j < n → get_or places j 0 < n
  pub apart : (i j : ℕ) → i < n → j < n → i ≢ j → get_or places i 0 ≢ get_or places j 0
  pub all : (i : ℕ) → i < n → (j : ℕ) × (j < n) × (get_or places j 0 ≡ i)

module _ (n : ℕ) (basis : List Column) (rows : ℕ → List ℤ) (is : IsRows n basis rows) (places : List ℕ) (order : IsOrder n places) where
  abbrev moved : List Column
  moved = map (column_at basis) places

  pub moved_at : (j : ℕ) → j < n → column_at (map (column_at basis) places) j ≡ column_at basis (get_or places j 0)
  moved_at j lt = get_or-map (column_at basis) places j 0 (route [] 0) (let c = order.count in omega arith)

  pub moved_there : StandsIn n basis (map (column_at basis) places)
  moved_there i lt = let found = order.all i lt in (found.0, found.1, ap (column_at basis) (sym found.2) ∙ sym (moved_at found.0 found.1))

  pub moved_back : StandsIn n (map (column_at basis) places) basis
  moved_back j lt = (get_or places j 0, order.below j lt, moved_at j lt)

  pub moved_rows : IsRows n (map (column_at basis) places) (λ j. rows (get_or places j 0))
  moved_rows = record {
    count = length_map (column_at basis) places ∙ order.count;
    bodies = λ j lt.
        let i = get_or places j 0 in
        let body = is.bodies i (order.below j lt) in
        record {
          whole = body.whole;
          own = subst (λ b. pos 0 <ℤ entry (rows i) b) (sym (moved_at j lt)) body.own;
          others = λ k lk other. ap (entry (rows i)) (moved_at k lk) ∙ body.others (get_or places k 0) (order.below k lk) (order.apart k j lk lt other);
          reduced = body.reduced;
        };
    determined = λ ms whole none c. is.determined ms whole (λ i lt. let found = moved_there i lt in ap (entry ms) found.2 ∙ none found.0 found.1) c;
  }
