-- The shares at the end of the second phase are a cover whose cost the prices say.
use Rattle.std.proofs.Common.{◌≡◌, ◌∙◌, ℕ, suc, ◌+◌, ◌*◌, ◌/◌, ◌<◌, ◌≤◌, arith, refl, sym, ap, ap₂, subst, ℤ, pos, negsuc, neg_ℤ, ◌*ℤ◌, ◌<ℤ◌, ◌≤ℤ◌, unsigned_abs, Bool, true, false, cond, le-ltb, List, [], ◌∷◌, length, map, get_or, All, ◌⊎◌, inl, inr}
use Rattle.std.proofs.lemmas.Int.{ints}
use Rattle.std.proofs.lemmas.Bool.{cases_lt}
use Rattle.std.proofs.lemmas.List.{get_or-map, get_or-take, length-take-le}
use Rattle.std.proofs.Math.Nat.{div-mul_cancel, zero-div}
use Rattle.fleet_model.specs.Equations.{column_at, cost_of, entry, right_side, serves, total}
use Rattle.fleet_model.proofs.Ring.{*ℤ_assoc, *ℤ_comm, *ℤ_cancel}
use Rattle.master_table.specs.Tableau.{IsTableau, IsWithinCaps, Tableau, basis_columns, charge, entry_at, multipliers, prices_of, row_at, size, weight_cap, entry_cap}
use Rattle.master_table.proofs.Combinations.{spelled_length}
use Rattle.master_table.proofs.PastCaps.{table_basis}
use Rattle.master_table.proofs.CombinedRows.{total_neg}
use Rattle.master_simplex.specs.Answer.{ArePrices, IsAdded, IsCover, IsOptimum, cost_of_shares, covered}
use Rattle.master_table.specs.Expansion.{expansion}
use Rattle.master_simplex.specs.Phase.{AreHelpersIdle, HasNoGain, IsFeasible}
use Rattle.master_table.specs.ShareWeight.{IsRowsWeight, own_at, right_at}
use Rattle.master_simplex.specs.Sharing.{given, numbers, share_at}
use Rattle.master_simplex.specs.declared.phase.Goal.{Goal}
use Rattle.master_simplex.specs.declared.phase.Goal.TheVariants.{Helpers, Cost}
use Rattle.master_table.proofs.Factors.{cofactors, common_above, factor_at, gathered, gathered_at, length_factors, length_gathered, product_of, spreads}
use Rattle.master_simplex.proofs.SomeEntry.{entry_is}
use Rattle.master_table.proofs.Units.{one_at, total_unit, unit}
use Rattle.master_table.proofs.BasisShares.{own_is}
use Rattle.master_table.proofs.Bases.{basis_column}
use Rattle.master_simplex.proofs.Sums.{each_at, each_given, expansion_sum, one_at_most, some_member, sum_from, sum_same, sum_times, term, worth, worth_cost, worth_given, worth_unit}

-- x shares of a column, by its own coefficient, in place of k factors of its row
exchanged : (c k o x e w r : ℤ) → k *ℤ o ≡ c → x *ℤ o ≡ w *ℤ r → c *ℤ (x *ℤ e) ≡ w *ℤ ((k *ℤ e) *ℤ r)
exchanged c k o x e w r first second =
    ap (λ z. z *ℤ (x *ℤ e)) (sym first)
    ∙ *ℤ_assoc k o (x *ℤ e)
    ∙ ap (λ z. k *ℤ z) (sym (*ℤ_assoc o x e) ∙ ap (λ z. z *ℤ e) (*ℤ_comm o x ∙ second) ∙ *ℤ_assoc w r e)
    ∙ sym (*ℤ_assoc k w (r *ℤ e))
    ∙ ap (λ z. z *ℤ (r *ℤ e)) (*ℤ_comm k w)
    ∙ *ℤ_assoc w k (r *ℤ e)
    ∙ ap (λ z. w *ℤ z) (ap (λ z. k *ℤ z) (*ℤ_comm r e) ∙ sym (*ℤ_assoc k e r))

-- w times a product, in another order
moved : (c w m : ℤ) → w *ℤ (c *ℤ m) ≡ c *ℤ (w *ℤ m)
moved c w m = sym (*ℤ_assoc w c m) ∙ ap (λ z. z *ℤ m) (*ℤ_comm w c) ∙ *ℤ_assoc c w m

size_is : (z : ℤ) → pos 0 ≤ℤ z → pos (unsigned_abs z) ≡ z
size_is (pos k) above = refl
size_is (negsuc k) above = absurd (omega (arith, ints))

module _ (t : Tableau) (h : IsTableau t) (feasible : IsFeasible t) (over : ℕ) (weight : IsRowsWeight t (size t) over) where
  abbrev n : ℕ
  n = size t

  abbrev f : ℕ → List ℤ
  f i = multipliers (size t) (row_at t i)

  abbrev owns : List ℤ
  owns = gathered (λ i. entry (multipliers (size t) (row_at t i)) (column_at (basis_columns t) i)) 0 (size t)

  abbrev common : ℤ
  common = product_of owns

  abbrev everyone : ℕ → Bool
  everyone c = true

  row_is : (j : ℕ) → j < n → get_or (gathered f 0 n) j [] ≡ f j
  row_is j lt = let e : 0 + j ≡ j = omega arith in gathered_at f 0 n j [] lt ∙ ap f e

  right_is : (j : ℕ) → j < n → total everyone (get_or (gathered f 0 n) j []) ≡ (row_at t j).right
  right_is j lt = ap (total everyone) (row_is j lt) ∙ sym (h.spelled j (omega arith)).right

  -- the share times the own coefficient
  share_own : (i : ℕ) → i < n → pos (share_at t over i) *ℤ entry (f i) (column_at (basis_columns t) i) ≡ pos over *ℤ (row_at t i).right
  unfolding share_at
  share_own i lt =
      let whole : over * right_at t i / own_at t i * own_at t i ≡ over * right_at t i = div-mul_cancel (own_at t i) (weight.whole i lt) in
      let o = own_is t h i lt in
      let r = size_is (row_at t i).right (feasible i lt) in
      ap (λ z. pos (over * right_at t i / own_at t i) *ℤ z) (sym o)
      ∙ (let a : pos (over * right_at t i / own_at t i) *ℤ pos (own_at t i) ≡ pos over *ℤ pos (right_at t i) = omega (arith, ints) in a)
      ∙ ap (λ z. pos over *ℤ z) r

  -- what a row's factor has of a combination
  abbrev part : List ℤ → ℕ → ℤ
  part ms i = (get_or (cofactors owns) i (pos 0) *ℤ entry ms (column_at (basis_columns t) i)) *ℤ (row_at t i).right

  part_is : (ms : List ℤ) (i : ℕ) → i < n → common *ℤ term ms t over i ≡ pos over *ℤ part ms i
  part_is ms i lt =
      let b = basis_column t h i lt in
      ap (λ column. common *ℤ (pos (share_at t over i) *ℤ entry ms column)) (sym b)
      ∙ exchanged common (get_or (cofactors owns) i (pos 0)) (entry (f i) (column_at (basis_columns t) i)) (pos (share_at t over i)) (entry ms (column_at (basis_columns t) i)) (pos over) (row_at t i).right
      (factor_at n (basis_columns t) f (table_basis t h) i lt) (share_own i lt)

  expanded : (ms : List ℤ) → expansion ms (basis_columns t) (cofactors owns) (gathered f 0 n) everyone ≡ sum_from (λ i. part ms i) 0 n
  expanded ms =
      let is = table_basis t h in
      let count = length_gathered f 0 n in
      expansion_sum ms (basis_columns t) (cofactors owns) (gathered f 0 n) everyone (λ i. part ms i) 0 (is.count ∙ sym count) (length_factors n (basis_columns t) f is ∙ sym count)
      (λ j lt. let l : j < n = omega (arith, count, lt) in
      ap (λ z. (get_or (cofactors owns) j (pos 0) *ℤ entry ms (column_at (basis_columns t) j)) *ℤ z) (right_is j l) ∙ ap (λ i. part ms i) (let e : j ≡ 0 + j = omega arith in e))
      ∙ ap (sum_from (λ i. part ms i) 0) count

  -- the shares, each times its column's entry, make `over` times the right side
  pub balance : (ms : List ℤ) → length ms ≡ size t → worth ms t.columns (given t over (size t)) ≡ pos over *ℤ right_side ms
  balance ms whole =
      *ℤ_cancel common (worth ms t.columns (given t over n)) (pos over *ℤ right_side ms) (common_above n (basis_columns t) f (table_basis t h))
      (ap (λ z. common *ℤ z) (worth_given ms t over n)
      ∙ sum_times common (λ i. term ms t over i) 0 n
      ∙ sum_same (λ i. common *ℤ term ms t over i) (λ i. pos over *ℤ part ms i) 0 n (λ i le lt. part_is ms i (omega arith))
      ∙ sym (sum_times (pos over) (λ i. part ms i) 0 n)
      ∙ ap (λ z. pos over *ℤ z) (sym (expanded ms) ∙ spreads n (basis_columns t) f (table_basis t h) ms whole everyone)
      ∙ moved common (pos over) (right_side ms))

  length_unit : (c : ℕ) → length (unit (size t) c) ≡ size t
  length_unit c = length_gathered (one_at c) 0 (size t)

  unit_balance : (c : ℕ) → c < size t → worth (unit (size t) c) t.columns (given t over (size t)) ≡ pos over
  unit_balance c lt =
      let one : right_side (unit (size t) c) ≡ pos 1 = total_unit (λ c. true) (size t) c lt in
      balance (unit (size t) c) (length_unit c) ∙ ap (λ z. pos over *ℤ z) one ∙ omega (arith, ints)

  pub covers : (c : ℕ) → c < size t → covered t.columns (given t over (size t)) c ≡ over
  covers c lt = let a = worth_unit (size t) c t.columns (given t over (size t)) lt in let b = unit_balance c lt in omega (arith, ints)

  -- no share is above `over`
  pub share_small : (i : ℕ) → i < size t → share_at t over i ≤ over
  share_small i lt =
      let b = column_at t.columns (get_or t.basis i 0) in
      let own = subst (λ column. pos 0 <ℤ entry (f i) column) (basis_column t h i lt) (h.bodies i lt).own in
      let found = some_member (serves b) 0 (f i) (λ e. let o = own in omega (arith, ints, e)) in
      let c = found.0 in
      let inside : c < size t = let w = (h.bodies i lt).whole in omega (arith, found.1) in
      let there : serves b c ≡ true = ap (serves b) (let e : c ≡ 0 + c = omega arith in e) ∙ found.2 in
      let is : term (unit (size t) c) t over i ≡ pos (share_at t over i) = ap (λ z. pos (share_at t over i) *ℤ z) (total_unit (serves b) (size t) c inside ∙ ap (λ t. cond t (pos 1) (pos 0)) there) ∙ omega (arith, ints) in
      let all = sym (worth_given (unit (size t) c) t over (size t)) ∙ unit_balance c inside in
      let most = one_at_most (λ j. term (unit (size t) c) t over j) 0 (size t) i (λ j le l. not_below j c inside) (omega arith) (omega arith) in
      omega (arith, ints)
    where
      not_below : (j c : ℕ) → c < size t → pos 0 ≤ℤ term (unit (size t) c) t over j
      not_below j c inside =
          subst (λ z. pos 0 ≤ℤ (pos (share_at t over j) *ℤ z)) (sym (total_unit (serves (column_at t.columns (get_or t.basis j 0))) (size t) c inside))
          (chosen (share_at t over j) (serves (column_at t.columns (get_or t.basis j 0)) c))
        where
          chosen : (m : ℕ) (b : Bool) → pos 0 ≤ℤ (pos m *ℤ cond b (pos 1) (pos 0))
          chosen m true = omega (arith, ints)
          chosen m false = omega (arith, ints)

  pub shares_within : All (λ x. (0 < x.1) × (x.1 ≤ over)) (given t over (size t))
  shares_within = each_at (λ x. (0 < x.1) × (x.1 ≤ over)) (given t over (size t)) (each_given (λ x. (0 < x.1) × (x.1 ≤ over)) t over (size t) (λ i lt some. (some, share_small i lt)))

  -- a helper has no share
  module _ (idle : AreHelpersIdle t) where
    basis_added : (i : ℕ) → i < size t → 0 < share_at t over i → IsAdded t (get_or t.basis i 0)
    unfolding share_at
    basis_added i lt some = by_cases (cases_lt (get_or t.basis i 0) (size t))
      where
        by_cases : (get_or t.basis i 0 < size t) ⊎ (size t ≤ get_or t.basis i 0) → IsAdded t (get_or t.basis i 0)
        by_cases (inr le) = (le, h.placed i lt)
        by_cases (inl helped) =
            let none : right_at t i ≡ 0 = ap unsigned_abs (idle i lt helped).right in
            let nothing : over * right_at t i / own_at t i ≡ 0 = ap (λ r. over * r / own_at t i) none ∙ ap (λ z. z / own_at t i) (let e : over * 0 ≡ 0 = omega arith in e) ∙ zero-div (own_at t i) in
            absurd (omega arith)

    pub cover : IsCover t over (given t over (size t))
    cover = record {
      some = weight.some;
      added = each_at (λ x. IsAdded t x.0) (given t over (size t)) (each_given (λ x. IsAdded t x.0) t over (size t) basis_added);
      exact = covers;
    }

    pub cost_is : (w : ℕ) → pos w ≡ (row_at t (size t)).weight → pos (w * cost_of_shares t.columns (given t over (size t))) ≡ pos over *ℤ right_side (prices_of (size t) (row_at t (size t)))
    cost_is w is =
        let prices = prices_of (size t) (row_at t (size t)) in
        sym (worth_cost prices t.columns w (given t over (size t))
        (each_given (λ x. entry prices (column_at t.columns x.0) ≡ pos w *ℤ pos (cost_of (column_at t.columns x.0))) t over (size t) (λ i lt some. pays i lt)))
        ∙ balance prices h.price_list.list.whole
      where
        pays : (i : ℕ) → i < size t → entry (prices_of (size t) (row_at t (size t))) (column_at t.columns (get_or t.basis i 0)) ≡ pos w *ℤ pos (cost_of (column_at t.columns (get_or t.basis i 0)))
        pays i lt =
            subst (λ column. entry (prices_of (size t) (row_at t (size t))) column ≡ pos w *ℤ pos (cost_of column)) (basis_column t h i lt)
            (h.price_list.list.pays i lt ∙ ap (λ z. z *ℤ pos (cost_of (column_at (basis_columns t) i))) (sym is))

-- ---- prices
module _ (t : Tableau) (h : IsTableau t) where
  pub prices_paid : (w : ℕ) → pos w ≡ (row_at t (size t)).weight → HasNoGain Cost t → ArePrices t w (prices_of (size t) (row_at t (size t)))
  prices_paid w is none = record { whole = h.price_list.list.whole; paid = λ j added. paid j added.0 added.1 }
    where
      paid : (j : ℕ) → size t ≤ j → j < length t.columns → entry (prices_of (size t) (row_at t (size t))) (column_at t.columns j) ≤ℤ pos (w * cost_of (column_at t.columns j))
      paid j added inside =
          let b = column_at t.columns j in
          let ms = multipliers (size t) (row_at t (size t)) in
          let at = entry_is t h j added inside (size t) (omega arith) in
          let turned : entry (prices_of (size t) (row_at t (size t))) b ≡ neg_ℤ (entry ms b) = total_neg (serves b) ms in
          let cost : charge (size t) (size t) b ≡ pos (cost_of b) = ap (λ u. cond u (pos 0) (pos (cost_of b))) (le-ltb (size t) (size t) (omega arith)) in
          let product : (row_at t (size t)).weight *ℤ charge (size t) (size t) b ≡ pos w *ℤ pos (cost_of b) = ap₂ (λ x y. x *ℤ y) (sym is) cost in
          let times : pos w *ℤ pos (cost_of b) ≡ pos (w * cost_of b) = omega (arith, ints) in
          let gained = none j added inside in
          omega (arith, ints)

  pub optimum : (feasible : IsFeasible t) (over : ℕ) (weight : IsRowsWeight t (size t) over) → AreHelpersIdle t → HasNoGain Cost t → (w : ℕ) → 0 < w → pos w ≡ (row_at t (size t)).weight
      → IsOptimum t w (prices_of (size t) (row_at t (size t))) over (given t over (size t))
  optimum feasible over weight idle none w some is = record {
    weighty = some;
    priced = prices_paid w is none;
    cover = cover t h feasible over weight idle;
    cost = cost_is t h feasible over weight idle w is;
  }

-- ---- sizes
length_neg_all : (zs : List ℤ) → length (map neg_ℤ zs) ≡ length zs
length_neg_all [] = refl
length_neg_all (z ∷ zs) = ap suc (length_neg_all zs)

module _ (t : Tableau) (h : IsTableau t) (w : IsWithinCaps t) where
  pub weight_small : (m : ℕ) → pos m ≡ (row_at t (size t)).weight → m ≤ t.caps.body
  weight_small m is =
      let small = (w (size t) (omega arith)).weight in
      let cap : weight_cap t.caps (size t) (size t) ≡ t.caps.body = ap (λ b. cond b t.caps.cost t.caps.body) (le-ltb (size t) (size t) (omega arith)) in
      let at : unsigned_abs (row_at t (size t)).weight ≡ m = sym (ap unsigned_abs is) in
      omega arith

  long_row : (i : ℕ) → i < size t + 2 → length (multipliers (size t) (row_at t i)) ≡ size t
  long_row i lt =
      let columns = spelled_length (size t) i t.columns (row_at t i) (h.spelled i lt) in
      let enough = h.columns.enough in
      length-take-le (size t) (row_at t i).entries (omega arith)

  number_small : (i j : ℕ) (d : ℤ) → size t ≤ i → i < size t + 2 → j < length (multipliers (size t) (row_at t i)) → unsigned_abs (get_or (multipliers (size t) (row_at t i)) j d) ≤ t.caps.cost
  number_small i j d le lt inside =
      let count = long_row i lt in
      let columns = spelled_length (size t) i t.columns (row_at t i) (h.spelled i lt) in
      let enough = h.columns.enough in
      let below : j < size t = omega arith in
      let is : get_or (multipliers (size t) (row_at t i)) j d ≡ get_or (row_at t i).entries j d = get_or-take (size t) (row_at t i).entries j d below in
      let cap : entry_cap t.caps (size t) i ≡ t.caps.cost = ap (λ b. cond b t.caps.body t.caps.cost) (le-ltb i (size t) le) in
      let small = (w i lt).entries j d (omega arith) in
      subst (λ z. unsigned_abs z ≤ t.caps.cost) (sym is) (omega arith)

  pub numbers_small : (goal : Goal) → All (λ p. unsigned_abs p ≤ t.caps.cost) (numbers goal t)
  numbers_small Helpers = λ j d lt. number_small (size t + 1) j d (omega arith) (omega arith) lt
  numbers_small Cost = λ j d lt.
      let l : j < length (multipliers (size t) (row_at t (size t))) = subst (λ m. j < m) (length_neg_all (multipliers (size t) (row_at t (size t)))) lt in
      let small = number_small (size t) j (pos 0) (omega arith) (omega arith) l in
      let is : get_or (prices_of (size t) (row_at t (size t))) j d ≡ neg_ℤ (get_or (multipliers (size t) (row_at t (size t))) j (pos 0)) = get_or-map neg_ℤ (multipliers (size t) (row_at t (size t))) j (pos 0) d l in
      let same : unsigned_abs (neg_ℤ (get_or (multipliers (size t) (row_at t (size t))) j (pos 0))) ≡ unsigned_abs (get_or (multipliers (size t) (row_at t (size t))) j (pos 0)) = omega (arith, ints) in
      subst (λ m. m ≤ t.caps.cost) (sym (ap unsigned_abs is ∙ same)) small

-- ---- the numbers of the basis, one by one
pub length_numbers : (t : Tableau) → IsTableau t → (goal : Goal) → length (numbers goal t) ≡ size t
length_numbers t h Helpers = h.helper_list.list.whole
length_numbers t h Cost = h.price_list.list.whole

pub number_helpers : (t : Tableau) (c : ℕ) → c < size t → entry_at t (size t + 1) c ≡ get_or (numbers Helpers t) c (pos 0)
number_helpers t c lt = sym (get_or-take (size t) (row_at t (size t + 1)).entries c (pos 0) lt)

pub number_cost : (t : Tableau) → IsTableau t → (c : ℕ) → c < size t → neg_ℤ (entry_at t (size t) c) ≡ get_or (numbers Cost t) c (pos 0)
number_cost t h c lt =
    let ms = multipliers (size t) (row_at t (size t)) in
    let whole : length ms ≡ size t = sym (length_neg_all ms) ∙ h.price_list.list.whole in
    ap neg_ℤ (sym (get_or-take (size t) (row_at t (size t)).entries c (pos 0) lt)) ∙ sym (get_or-map neg_ℤ ms c (pos 0) (pos 0) (omega arith))
