-- A pivot of a phase: rows stay positive, and the phase's row falls.
use Rattle.std.proofs.Common.{◌≡◌, ◌≢◌, ◌∙◌, ℕ, suc, ◌+◌, ◌<◌, ◌≤◌, arith, refl, sym, ap, ap₂, subst, ℤ, pos, negsuc, neg_ℤ, ◌-ℤ◌, ◌*ℤ◌, ◌<ℤ◌, unsigned_abs, Bool, true, false, cond, nat_lt, List, [], ◌∷◌, map, length, length-set, get_or, set, get_or-set_same, get_or-set_other, ◌⊎◌, inl, inr}
use Rattle.std.proofs.lemmas.Int.{ints}
use Rattle.std.proofs.lemmas.List.{get_or-map}
use Rattle.fleet_model.specs.Equations.{column_at, combined, entry, route, serves}
use Rattle.fleet_model.specs.Basis.{IsDetermined}
use Rattle.fleet_model.proofs.Ring.{*ℤ_comm, *ℤ_pos, *ℤ--ℤ, neg_ℤ-*ℤ}
use Rattle.fleet_model.proofs.Signs.{factor_pos, same_or_not, zero_times}
use Rattle.fleet_model.proofs.Totals.{length-combined, total_combined, total_nothing}
use Rattle.master_table.specs.Tableau.{Equation, IsTableau, IsWithinCaps, Tableau, basis_columns, entry_at, multipliers, row_at, size}
use Rattle.master_table.specs.Pivoting.{IsCombinationOf, IsPivotOf, excess}
use Rattle.master_table.specs.Solutions.{HaveSameSolutions}
use Rattle.master_simplex.specs.Falling.{AreWithin, IsLexPositive, height}
use Rattle.master_simplex.specs.Phase.{AreHelpersIdle, IsIdle, IsPhase, IsReached, bound, gain, gain_height, gain_key, gain_row, key, row_height}
use Rattle.master_simplex.specs.declared.phase.Goal.{Goal}
use Rattle.master_simplex.specs.declared.phase.Goal.TheVariants.{Helpers, Cost}
use Rattle.master_simplex.proofs.Choice.{least_choice}
use Rattle.master_simplex.proofs.Gains.{falls}
use Rattle.master_simplex.proofs.Lex.{stays_positive}
use Rattle.master_table.proofs.Bases.{body_at, excess_body}
use Rattle.master_simplex.proofs.Tables.{combined_values, excess_helper, gains_within, key_combined, key_within, entry_within, length_gains, length_key, times_values, turned_same, weight_above, weight_within}

-- ---- two rows of a table are not one multiple of another
module _ (t : Tableau) (h : IsTableau t) (places : List ℕ) (phase : IsPhase places t) (i r : ℕ) (lt : i < size t) (below : r < size t) (apart : i ≢ r) (f g : ℤ) (above : pos 0 <ℤ f) where
  abbrev n : ℕ
  n = size t

  abbrev xs : List ℤ
  xs = multipliers n (row_at t i)

  abbrev ys : List ℤ
  ys = multipliers n (row_at t r)

  abbrev m : List ℤ
  m = combined f g xs ys

  same : length xs ≡ length ys
  same = (h.bodies i lt).whole ∙ sym (h.bodies r below).whole

  at_place : (k : ℕ) → k < n → column_at (map (column_at t.columns) places) k ≡ column_at t.columns (get_or places k 0)
  at_place k l = get_or-map (column_at t.columns) places k 0 (route [] 0) (let e = phase.count in omega arith)

  not_same : ((c : ℕ) → get_or (combined f g (key places (row_at t i)) (key places (row_at t r))) c (pos 0) ≡ pos 0) → ⊥
  not_same z =
      let b = column_at (basis_columns t) i in
      let gone = phase.determined m (length-combined f g xs ys same ∙ (h.bodies i lt).whole) (λ k l. zero_at k l) in
      let none = sym (total_combined f g (serves b) xs ys same) ∙ total_nothing (serves b) m gone in
      let other = (h.bodies r below).others i lt apart in
      let product = *ℤ_pos f (entry xs b) above (h.bodies i lt).own in
      let nothing : g *ℤ entry ys b ≡ pos 0 = ap (λ y. g *ℤ y) other ∙ omega (arith, ints) in
      omega (arith, ints)
    where
      zero_at : (k : ℕ) → k < n → entry m (column_at (map (column_at t.columns) places) k) ≡ pos 0
      zero_at k l =
          let count = phase.count in
          let j = get_or places k 0 in
          let b = column_at t.columns j in
          let inside : j < length t.columns = phase.placed k (omega arith) in
          let in_xs = body_at t h i j lt inside in
          let in_ys = body_at t h r j below inside in
          let here = combined_values f g (λ p. entry_at t i p) (λ p. entry_at t r p) places k (omega arith) in
          ap (entry m) (at_place k l) ∙ total_combined f g (serves b) xs ys same ∙ ap₂ (λ x y. f *ℤ x -ℤ g *ℤ y) (sym in_xs) (sym in_ys) ∙ sym here ∙ z (suc k)

pub least_heights : (t : Tableau) (places : List ℕ) (col r i : ℕ) → row_height t places col r ≤ row_height t places col i
    → height (bound t) (unsigned_abs (entry_at t r col)) (key places (row_at t r)) ≤ height (bound t) (unsigned_abs (entry_at t i col)) (key places (row_at t i))
unfolding row_height
least_heights t places col r i le = le

size_is : (z : ℤ) → pos 0 <ℤ z → (0 < unsigned_abs z) × (pos (unsigned_abs z) ≡ z)
size_is (pos k) above = (omega (arith, ints), refl)
size_is (negsuc k) above = absurd (omega (arith, ints))

-- ---- the pivot
module _ (old new : Tableau) (h : IsTableau old) (h2 : IsTableau new) (w : IsWithinCaps old) (w2 : IsWithinCaps new) (places : List ℕ) (phase : IsPhase places old) (r col : ℕ) (below : r < size old)
    (pivot : IsPivotOf r col old new) (above : pos 0 <ℤ entry_at old r col) where
  abbrev n2 : ℕ
  n2 = size old

  pub size_same : size new ≡ size old
  size_same = ap length pivot.basis ∙ length-set old.basis r col

  bound_same : bound new ≡ bound old
  bound_same = ap (λ caps. caps.body + (caps.cost + caps.cost)) pivot.caps

  row_same : row_at new r ≡ row_at old r
  row_same = pivot.turned ∙ turned_same col (row_at old r) above

  abbrev own : ℤ
  own = entry_at old r col

  -- each other row
  comb : (i : ℕ) → i < size old + 2 → i ≢ r → IsCombinationOf own (excess (size old) col i (row_at old i)) (row_at old i) (row_at old r) (row_at new i)
  comb i lt apart =
      subst (λ (line : Equation). IsCombinationOf (get_or line.entries col (pos 0)) (excess (size old) col i (row_at old i)) (row_at old i) line (row_at new i)) row_same (pivot.others i lt apart)

  comb_body : (i : ℕ) → i < size old → i ≢ r → IsCombinationOf own (entry_at old i col) (row_at old i) (row_at old r) (row_at new i)
  comb_body i lt apart = subst (λ g. IsCombinationOf own g (row_at old i) (row_at old r) (row_at new i)) (excess_body (size old) col i (row_at old i) (omega arith)) (comb i (omega arith) apart)

  -- rows stay positive
  module _ (least : (k : ℕ) → k < size old → pos 0 <ℤ entry_at old k col → row_height old places col r ≤ row_height old places col k) where
    positive_at : (i : ℕ) → i < size old → (i ≡ r) ⊎ (i ≢ r) → IsLexPositive (key places (row_at new i))
    positive_at i lt (inl e) = subst (λ j. IsLexPositive (key places (row_at new j))) (sym e) (subst (λ line. IsLexPositive (key places line)) (sym row_same) (phase.positive r below))
    positive_at i lt (inr apart) =
        let c = comb_body i lt apart in
        stays_positive (pos c.factor) own (entry_at old i col) (key places (row_at old i)) (key places (row_at old r)) (key places (row_at new i)) (factor_pos c.factor c.some) above
        lengths (key_combined places own (entry_at old i col) (row_at old i) (row_at old r) (row_at new i) c) (phase.positive i lt) (phase.positive r below) less
      where
        lengths : length (key places (row_at old i)) ≡ length (key places (row_at old r))
        lengths = length_key places (row_at old i) ∙ sym (length_key places (row_at old r))

        less : pos 0 <ℤ entry_at old i col → IsLexPositive (combined own (entry_at old i col) (key places (row_at old i)) (key places (row_at old r)))
        less more =
            let a = size_is own above in
            let b = size_is (entry_at old i col) more in
            subst (λ f. IsLexPositive (combined f (entry_at old i col) (key places (row_at old i)) (key places (row_at old r)))) a.1
            (subst (λ g. IsLexPositive (combined (pos (unsigned_abs own)) g (key places (row_at old i)) (key places (row_at old r)))) b.1
            (least_choice (bound old) (unsigned_abs own) (unsigned_abs (entry_at old i col)) (key places (row_at old i)) (key places (row_at old r)) a.0 b.0
            (let e = entry_within old h w r col (omega arith) in omega arith) (let e = entry_within old h w i col (omega arith) in omega arith) lengths
            (key_within old h w i places (omega arith)) (key_within old h w r places (omega arith))
            (λ z. not_same old h places phase i r lt below apart (pos (unsigned_abs own)) (pos (unsigned_abs (entry_at old i col))) (subst (λ f. pos 0 <ℤ f) (sym a.1) above) z)
            (least_heights old places col r i (least i lt more))))

    pub phase_after : IsPhase places new
    phase_after = record {
      count = phase.count ∙ sym size_same;
      placed = λ k lt. subst (λ columns. get_or places k 0 < length columns) (sym pivot.columns) (phase.placed k lt);
      determined = subst (λ k. IsDetermined k (map (column_at new.columns) places)) (sym size_same) (subst (λ columns. IsDetermined (size old) (map (column_at columns) places)) (sym pivot.columns) phase.determined);
      positive = λ i lt. positive_at i (let e = size_same in omega arith) (same_or_not i r);
    }

  -- the row of the phase
  abbrev IsGainAfter : Goal → Type 0
  IsGainAfter goal = (k : ℕ) × (0 < k) × (pos k *ℤ (gain_row goal new).weight ≡ own *ℤ (gain_row goal old).weight)
      × (map (λ z. pos k *ℤ z) (gain_key goal places new) ≡ combined own (gain goal old col) (gain_key goal places old) (key places (row_at old r)))

  cost_after : IsGainAfter Cost
  cost_after =
      let c = comb (size old) (omega arith) (λ e. absurd (omega arith)) in
      let by = excess_body (size old) col (size old) (row_at old (size old)) (omega arith) in
      let k = pos c.factor in
      let place : size new ≡ size old = size_same in (
        c.factor,
        c.some,
        ap (λ i. k *ℤ (row_at new i).weight) place ∙ c.weight,
        ap (λ i. map (λ z. k *ℤ z) (neg_ℤ (row_at new i).right ∷ map (λ j. neg_ℤ (entry_at new i j)) places)) place
            ∙ ap₂ (λ z zs. z ∷ zs)
            (turned_sign k own (excess (size old) col (size old) (row_at old (size old))) (entry_at old (size old) col) (row_at new (size old)).right (row_at old (size old)).right (row_at old r).right by c.right)
            (times_values k own (neg_ℤ (entry_at old (size old) col)) (λ j. neg_ℤ (entry_at new (size old) j)) (λ j. neg_ℤ (entry_at old (size old) j)) (λ j. entry_at old r j) places
            (λ j. turned_sign k own (excess (size old) col (size old) (row_at old (size old))) (entry_at old (size old) col) (entry_at new (size old) j) (entry_at old (size old) j) (entry_at old r j) by (c.entries j))),
      )
    where
      turned_sign : (k f g e y x t : ℤ) → g ≡ e → k *ℤ y ≡ f *ℤ x -ℤ g *ℤ t → k *ℤ neg_ℤ y ≡ f *ℤ neg_ℤ x -ℤ neg_ℤ e *ℤ t
      turned_sign k f g e y x t is h =
          let a = *ℤ_comm k (neg_ℤ y) ∙ neg_ℤ-*ℤ y k ∙ ap neg_ℤ (*ℤ_comm y k) in
          let b = *ℤ_comm f (neg_ℤ x) ∙ neg_ℤ-*ℤ x f ∙ ap neg_ℤ (*ℤ_comm x f) in
          let d = neg_ℤ-*ℤ e t in
          let l = ap (λ z. z *ℤ t) is in
          omega (arith, ints)

  helpers_after : IsGainAfter Helpers
  helpers_after =
      let c = comb (size old + 1) (omega arith) (λ e. absurd (omega arith)) in
      let by = excess_helper (size old) col (row_at old (size old + 1)) in
      let k = pos c.factor in
      let place : size new ≡ size old = size_same in (
        c.factor,
        c.some,
        ap (λ i. k *ℤ (row_at new (i + 1)).weight) place ∙ c.weight,
        ap (λ i. map (λ z. k *ℤ z) ((row_at new (i + 1)).right ∷ map (λ j. entry_at new (i + 1) j -ℤ cond (nat_lt j i) (row_at new (i + 1)).weight (pos 0)) places)) place
            ∙ ap₂ (λ z zs. z ∷ zs)
            (c.right ∙ ap (λ g. own *ℤ (row_at old (size old + 1)).right -ℤ g *ℤ (row_at old r).right) by)
            (times_values k own (gain Helpers old col) (λ j. entry_at new (size old + 1) j -ℤ cond (nat_lt j (size old)) (row_at new (size old + 1)).weight (pos 0)) (λ j. gain Helpers old j) (λ j. entry_at old r j) places
            (λ j. less_weight k own (gain Helpers old col) (entry_at new (size old + 1) j) (entry_at old (size old + 1) j) (entry_at old r j) (row_at new (size old + 1)).weight (row_at old (size old + 1)).weight (nat_lt j (size old))
            (c.entries j ∙ ap (λ g. own *ℤ entry_at old (size old + 1) j -ℤ g *ℤ entry_at old r j) by) c.weight)),
      )
    where
      less_weight : (k f g y x t v u : ℤ) (b : Bool) → k *ℤ y ≡ f *ℤ x -ℤ g *ℤ t → k *ℤ v ≡ f *ℤ u → k *ℤ (y -ℤ cond b v (pos 0)) ≡ f *ℤ (x -ℤ cond b u (pos 0)) -ℤ g *ℤ t
      less_weight k f g y x t v u true h e =
          let a = *ℤ--ℤ k y v in
          let d = *ℤ--ℤ f x u in
          omega (arith, ints)
      less_weight k f g y x t v u false h e =
          let a : y -ℤ pos 0 ≡ y = omega (arith, ints) in
          let d : x -ℤ pos 0 ≡ x = omega (arith, ints) in
          ap (λ z. k *ℤ z) a ∙ h ∙ ap (λ z. f *ℤ z -ℤ g *ℤ t) (sym d)

  gain_after : (goal : Goal) → IsGainAfter goal
  gain_after Helpers = helpers_after
  gain_after Cost = cost_after

  pub height_after : (goal : Goal) → pos 0 <ℤ gain goal old col → gain_height goal places new < gain_height goal places old
  unfolding gain_height
  height_after goal more =
      let made = gain_after goal in
      let a = size_is (gain_row goal old).weight (weight_above old h goal) in
      let b = size_is (gain_row goal new).weight (weight_above new h2 goal) in
      let room = bound_same in
      let head : pos made.0 *ℤ pos (unsigned_abs (gain_row goal new).weight) ≡ own *ℤ pos (unsigned_abs (gain_row goal old).weight) =
      ap (λ z. pos made.0 *ℤ z) b.1 ∙ made.2 ∙ ap (λ z. own *ℤ z) (sym a.1) in
      subst (λ m. height m (unsigned_abs (gain_row goal new).weight) (gain_key goal places new) < height (bound old) (unsigned_abs (gain_row goal old).weight) (gain_key goal places old)) (sym bound_same)
      (falls (pos made.0) own (gain goal old col) (unsigned_abs (gain_row goal old).weight) (unsigned_abs (gain_row goal new).weight) (bound old)
      (gain_key goal places old) (key places (row_at old r)) (gain_key goal places new) (factor_pos made.0 made.1) more a.0 b.0
      (weight_within old h w goal) (subst (λ m. unsigned_abs (gain_row goal new).weight ≤ m) bound_same (weight_within new h2 w2 goal))
      (length_gains goal places old ∙ sym (length_key places (row_at old r))) (length_gains goal places old ∙ sym (length_gains goal places new))
      head made.3 (phase.positive r below) (gains_within old h w goal places) (subst (λ m. AreWithin m (gain_key goal places new)) bound_same (gains_within new h2 w2 goal places)))

  -- helpers that can't come to a share
  pub idle_after : size old ≤ col → AreHelpersIdle old → AreHelpersIdle new
  idle_after added idle i lt helped = by_cases (same_or_not i r)
    where
      small : i < size old
      small = let e = size_same in omega arith

      by_cases : (i ≡ r) ⊎ (i ≢ r) → IsIdle new i
      by_cases (inl e) =
          let at : get_or new.basis i 0 ≡ col = ap (λ basis. get_or basis i 0) pivot.basis ∙ ap (λ j. get_or (set old.basis r col) j 0) e ∙ get_or-set_same old.basis r col 0 below in
          let s = size_same in
          absurd (omega arith)
      by_cases (inr apart) =
          let at : get_or new.basis i 0 ≡ get_or old.basis i 0 = ap (λ basis. get_or basis i 0) pivot.basis ∙ get_or-set_other old.basis r i col 0 apart in
          let s = size_same in
          let was = idle i small (omega arith) in
          let c = comb_body i small apart in
          let none = was.entries col added in
          record {
            right = zero_times (pos c.factor) (row_at new i).right (factor_pos c.factor c.some) (c.right ∙ ap₂ (λ x g. own *ℤ x -ℤ g *ℤ (row_at old r).right) was.right none ∙ omega (arith, ints));
            entries = λ j le. zero_times (pos c.factor) (entry_at new i j) (factor_pos c.factor c.some) (c.entries j ∙ ap₂ (λ x g. own *ℤ x -ℤ g *ℤ entry_at old r j) (was.entries j (omega arith)) none ∙ omega (arith, ints));
          }

  pub reached : HaveSameSolutions old new → IsReached old new
  reached solutions = record { columns = pivot.columns; caps = pivot.caps; same_size = size_same; solutions = solutions }
