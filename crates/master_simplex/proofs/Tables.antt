-- Rows of a table within its caps: what they have of a column, sizes, keys.
use Rattle.std.proofs.Common.{◌≡◌, ◌∙◌, ℕ, zero, suc, ◌+◌, ◌<◌, ◌≤◌, ◌^◌, arith, refl, sym, ap, subst, ℤ, pos, negsuc, neg_ℤ, ◌-ℤ◌, ◌*ℤ◌, ◌<ℤ◌, unsigned_abs, le_trans, Bool, true, false, cond, nat_lt, lt-ltb, le-ltb, List, [], ◌∷◌, map, length, length-set, get_or, get_or-set_other, set, ◌⊎◌, inl, inr}
use Rattle.std.proofs.lemmas.Int.{ints}
use Rattle.std.proofs.lemmas.Bool.{cases_lt}
use Rattle.fleet_model.specs.Equations.{column_at, combined}
use Rattle.fleet_model.specs.Wide.{IsPast, IsShareWeightPast}
use Rattle.master_table.specs.Solutions.{HaveSameSolutions}
use Rattle.master_table.specs.Tableau.{Equation, IsBasisPast, IsTableau, IsWithinCaps, Tableau, entry_at, entry_cap, basis_columns, row_at, size, weight_cap}
use Rattle.master_table.specs.Pivoting.{IsCombinationOf, IsPivotOf, excess, is_below, pivoted, turned_row}
use Rattle.master_simplex.specs.Falling.{AreWithin}
use Rattle.master_simplex.specs.Phase.{IsReached, IsRefused, bound, gain, gain_key, gain_row, key}
use Rattle.master_simplex.specs.declared.phase.Goal.{Goal}
use Rattle.master_simplex.specs.declared.phase.Goal.TheVariants.{Helpers, Cost}
use Rattle.master_table.proofs.PastCaps.{basis_of}

-- ---- lists
past_the_end : (xs : List ℤ) (j : ℕ) → length xs ≤ j → get_or xs j (pos 0) ≡ pos 0
past_the_end [] zero le = refl
past_the_end [] (suc j) le = refl
past_the_end (x ∷ xs) zero le = absurd (omega arith)
past_the_end (x ∷ xs) (suc j) le = past_the_end xs j (omega arith)

within_map : (c : ℕ) (F : ℕ → ℤ) (places : List ℕ) → ((j : ℕ) → unsigned_abs (F j) ≤ c) → AreWithin c (map F places)
within_map c F [] h = tt
within_map c F (j ∷ js) h = (h j, within_map c F js h)

pub length_values : {A : Type 0} (F : ℕ → A) (places : List ℕ) → length (map F places) ≡ length places
length_values F [] = refl
length_values F (j ∷ js) = ap suc (length_values F js)

pub times_values : (k f g : ℤ) (Y X T : ℕ → ℤ) (places : List ℕ) → ((j : ℕ) → k *ℤ Y j ≡ f *ℤ X j -ℤ g *ℤ T j) → map (λ z. k *ℤ z) (map Y places) ≡ combined f g (map X places) (map T places)
times_values k f g Y X T [] h = refl
times_values k f g Y X T (j ∷ js) h = let e = h j in let rest = times_values k f g Y X T js h in cc

pub combined_values : (f g : ℤ) (X Y : ℕ → ℤ) (places : List ℕ) (k : ℕ) → k < length places → get_or (combined f g (map X places) (map Y places)) k (pos 0) ≡ f *ℤ X (get_or places k 0) -ℤ g *ℤ Y (get_or places k 0)
combined_values f g X Y [] k lt = absurd (omega arith)
combined_values f g X Y (j ∷ js) zero lt = refl
combined_values f g X Y (j ∷ js) (suc k) lt = combined_values f g X Y js k (omega arith)

pub length_key : (places : List ℕ) (row : Equation) → length (key places row) ≡ suc (length places)
length_key places row = ap suc (length_values (λ j. get_or row.entries j (pos 0)) places)

pub length_gains : (goal : Goal) (places : List ℕ) (t : Tableau) → length (gain_key goal places t) ≡ suc (length places)
length_gains goal places t = ap suc (length_values (λ j. gain goal t j) places)

-- a combination of rows is that of their keys
pub key_combined : (places : List ℕ) (f g : ℤ) (before turned now : Equation) (c : IsCombinationOf f g before turned now) → map (λ z. pos c.factor *ℤ z) (key places now) ≡ combined f g (key places before) (key places turned)
key_combined places f g before turned now c =
    let head = c.right in
    let rest = times_values (pos c.factor) f g (λ j. get_or now.entries j (pos 0)) (λ j. get_or before.entries j (pos 0)) (λ j. get_or turned.entries j (pos 0)) places c.entries in
    cc

-- a row with an entry above 0 is turned already
pub turned_same : (col : ℕ) (row : Equation) → pos 0 <ℤ get_or row.entries col (pos 0) → turned_row col row ≡ row
turned_same col row above = ap (λ b. cond b (record { weight = row.weight; right = neg_ℤ row.right; entries = map neg_ℤ row.entries }) row) (not_below (get_or row.entries col (pos 0)) above)
  where
    not_below : (z : ℤ) → pos 0 <ℤ z → is_below z ≡ false
    not_below (pos n) h = refl
    not_below (negsuc n) h = absurd (omega (arith, ints))

-- what the helper row has of the column
pub excess_helper : (n col : ℕ) (row : Equation) → excess n col (n + 1) row ≡ get_or row.entries col (pos 0) -ℤ cond (nat_lt col n) row.weight (pos 0)
excess_helper n col row = ap (λ b. get_or row.entries col (pos 0) -ℤ cond b (cond (nat_lt col n) row.weight (pos 0)) (pos 0)) (lt-ltb n (n + 1) (omega arith))

-- ---- a table
module _ (t : Tableau) (h : IsTableau t) where
  pub weight_above : (goal : Goal) → pos 0 <ℤ (gain_row goal t).weight
  weight_above Helpers = h.helper_list.list.some
  weight_above Cost = h.price_list.list.some

  module _ (w : IsWithinCaps t) where
    cap_cases : (b : Bool) → cond b t.caps.body t.caps.cost ≤ t.caps.body + t.caps.cost
    cap_cases true = omega arith
    cap_cases false = omega arith

    pub entry_within : (i j : ℕ) → i < size t + 2 → unsigned_abs (entry_at t i j) ≤ t.caps.body + t.caps.cost
    entry_within i j lt = by_cases (cases_lt j (length (row_at t i).entries))
      where
        by_cases : (j < length (row_at t i).entries) ⊎ (length (row_at t i).entries ≤ j) → unsigned_abs (entry_at t i j) ≤ t.caps.body + t.caps.cost
        by_cases (inl l) = le_trans ((w i lt).entries j (pos 0) l) (cap_cases (nat_lt i (size t)))
        by_cases (inr le) = let e = past_the_end (row_at t i).entries j le in subst (λ z. unsigned_abs z ≤ t.caps.body + t.caps.cost) (sym e) (omega arith)

    pub right_within : (i : ℕ) → i < size t + 2 → unsigned_abs (row_at t i).right ≤ t.caps.body + t.caps.cost
    right_within i lt = le_trans (w i lt).right (cap_cases (nat_lt i (size t)))

    pub key_within : (i : ℕ) (places : List ℕ) → i < size t + 2 → AreWithin (bound t) (key places (row_at t i))
    key_within i places lt =
        (le_trans (right_within i lt) (omega arith), within_map (bound t) (λ j. entry_at t i j) places (λ j. le_trans (entry_within i j lt) (omega arith)))

    helper_weight : unsigned_abs (row_at t (size t + 1)).weight ≤ t.caps.cost
    helper_weight =
        let small = (w (size t + 1) (omega arith)).weight in
        let is : weight_cap t.caps (size t) (size t + 1) ≡ t.caps.cost = ap (λ b. cond b t.caps.cost t.caps.body) (lt-ltb (size t) (size t + 1) (omega arith)) in
        subst (λ m. unsigned_abs (row_at t (size t + 1)).weight ≤ m) is small

    pub weight_within : (goal : Goal) → unsigned_abs (gain_row goal t).weight ≤ bound t
    weight_within Helpers = le_trans helper_weight (omega arith)
    weight_within Cost =
        let small = (w (size t) (omega arith)).weight in
        let is : weight_cap t.caps (size t) (size t) ≡ t.caps.body = ap (λ b. cond b t.caps.cost t.caps.body) (le-ltb (size t) (size t) (omega arith)) in
        le_trans (subst (λ m. unsigned_abs (row_at t (size t)).weight ≤ m) is small) (omega arith)

    gain_within : (goal : Goal) (j : ℕ) → unsigned_abs (gain goal t j) ≤ bound t
    gain_within Cost j =
        let e = entry_within (size t) j (omega arith) in
        let s : unsigned_abs (neg_ℤ (entry_at t (size t) j)) ≡ unsigned_abs (entry_at t (size t) j) = omega (arith, ints) in
        subst (λ m. m ≤ bound t) (sym s) (omega arith)
    gain_within Helpers j = by_cases (nat_lt j (size t))
      where
        cap : unsigned_abs (entry_at t (size t + 1) j) ≤ t.caps.body + t.caps.cost
        cap = entry_within (size t + 1) j (omega arith)

        by_cases : (b : Bool) → unsigned_abs (entry_at t (size t + 1) j -ℤ cond b (row_at t (size t + 1)).weight (pos 0)) ≤ bound t
        by_cases true = let e = cap in let v = helper_weight in omega (arith, ints)
        by_cases false = let e = cap in omega (arith, ints)

    pub gains_within : (goal : Goal) (places : List ℕ) → AreWithin (bound t) (gain_key goal places t)
    gains_within Helpers places = (le_trans (right_within (size t + 1) (omega arith)) (omega arith), within_map (bound t) (λ j. gain Helpers t j) places (gain_within Helpers))
    gains_within Cost places =
        let e = right_within (size t) (omega arith) in
        let s : unsigned_abs (neg_ℤ (row_at t (size t)).right) ≡ unsigned_abs (row_at t (size t)).right = omega (arith, ints) in
        (subst (λ m. m ≤ bound t) (sym s) (omega arith), within_map (bound t) (λ j. gain Cost t j) places (gain_within Cost))

-- ---- pivots
pub pivot_reached : (r col : ℕ) (old new : Tableau) → IsPivotOf r col old new → HaveSameSolutions old new → IsReached old new
pivot_reached r col old new pivot solutions = record { columns = pivot.columns; caps = pivot.caps; same_size = ap length pivot.basis ∙ length-set old.basis r col; solutions = solutions }

pub same_reached : (old new : Tableau) → new ≡ old → IsReached old new
same_reached old new e = subst (λ t. IsReached old t) (sym e) (record { columns = refl; caps = refl; same_size = refl; solutions = λ shares over. (λ h. h, λ h. h) })

pub then_reached : (a b d : Tableau) → IsReached a b → IsReached b d → IsReached a d
then_reached a b d p q = record {
  columns = q.columns ∙ p.columns;
  caps = q.caps ∙ p.caps;
  same_size = q.same_size ∙ p.same_size;
  solutions = λ shares over. (λ h. (q.solutions shares over).0 ((p.solutions shares over).0 h), λ h. (p.solutions shares over).1 ((q.solutions shares over).1 h));
}

pub refused_is : (t : Tableau) (row col : ℕ) (basis : List ℕ) → row < size t → basis ≡ set t.basis row col → IsBasisPast (pivoted row col t) → IsRefused basis t
refused_is t row col basis lt is past = subst (λ b. IsRefused b t) (sym is) (record {
  row = row;
  count = length-set t.basis row col;
  beside = λ i apart. get_or-set_other t.basis row i col 0 apart;
  past = subst (λ n. IsPast t.caps.body t.caps.cost n t.columns (map (column_at t.columns) (set t.basis row col))) (length-set t.basis row col) past;
})

-- a basis whose share weight is past the cap
pub refused_here : (t : Tableau) → IsTableau t → (basis : List ℕ) → basis ≡ t.basis → IsShareWeightPast t.caps.body (size t) (basis_columns t) → IsRefused basis t
refused_here t h basis is past = subst (λ b. IsRefused b t) (sym is) (record {
  row = 0;
  count = refl;
  beside = λ i apart. refl;
  past = record { is_basis = basis_of t h; past = inr (inr (inr past)) };
})

-- ---- a customer's row
pub number_small : (t : Tableau) → IsWithinCaps t → t.caps.body ≤ 2 ^ 40 → (i j : ℕ) → i < size t → (unsigned_abs (entry_at t i j) ≤ 2 ^ 40) × (unsigned_abs (row_at t i).right ≤ 2 ^ 40)
number_small t w small i j lt =
    let is : entry_cap t.caps (size t) i ≡ t.caps.body = ap (λ b. cond b t.caps.body t.caps.cost) (lt-ltb i (size t) lt) in
    (by_cases (cases_lt j (length (row_at t i).entries)) is, le_trans (w i (omega arith)).right (omega arith))
  where
    by_cases : (j < length (row_at t i).entries) ⊎ (length (row_at t i).entries ≤ j) → entry_cap t.caps (size t) i ≡ t.caps.body → unsigned_abs (entry_at t i j) ≤ 2 ^ 40
    by_cases (inl l) is = le_trans ((w i (omega arith)).entries j (pos 0) l) (omega arith)
    by_cases (inr le) is = let e = past_the_end (row_at t i).entries j le in subst (λ z. unsigned_abs z ≤ 2 ^ 40) (sym e) (omega arith)
