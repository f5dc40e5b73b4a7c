-- Sums over the rows of a table, and what shares are worth.
use Rattle.std.proofs.Common.{◌≡◌, ◌≢◌, ◌∙◌, ℕ, zero, suc, ◌+◌, ◌*◌, ◌<◌, ◌≤◌, arith, refl, sym, ap, ap₂, subst, ℤ, pos, ◌+ℤ◌, ◌*ℤ◌, ◌≤ℤ◌, Bool, true, false, cond, nat_lt, lt-ltb, le-ltb, List, [], ◌∷◌, ◌++◌, length, get_or, ◌⊎◌, inl, inr}
use Rattle.std.proofs.lemmas.Int.{ints}
use Rattle.std.proofs.lemmas.Bool.{cases_Bool, cases_eq, cases_lt}
use Rattle.fleet_model.specs.Equations.{Column, column_at, cost_of, entry, serves, total, total_from}
use Rattle.fleet_model.proofs.Ring.{*ℤ-+ℤ}
use Rattle.master_table.specs.Tableau.{Tableau}
use Rattle.master_table.specs.Expansion.{expansion}
use Rattle.master_simplex.specs.Answer.{cost_of_shares, covered}
use Rattle.master_simplex.specs.Sharing.{given, share_at}
use Rattle.master_table.proofs.Units.{total_unit, unit}

-- ---- sums
-- f c + f (c + 1) + .., m of them
abbrev pub sum_from : (ℕ → ℤ) → ℕ → ℕ → ℤ
sum_from f c zero = pos 0
sum_from f c (suc m) = f c +ℤ sum_from f (suc c) m

pub sum_more : (f : ℕ → ℤ) (c m : ℕ) → sum_from f c (suc m) ≡ sum_from f c m +ℤ f (c + m)
sum_more f c zero = let e : f (c + 0) ≡ f c = ap f (let s : c + 0 ≡ c = omega arith in s) in omega (arith, ints)
sum_more f c (suc m) =
    let rest = sum_more f (suc c) m in
    let e : f (suc c + m) ≡ f (c + suc m) = ap f (let s : suc c + m ≡ c + suc m = omega arith in s) in
    omega (arith, ints)

pub sum_same : (f g : ℕ → ℤ) (c m : ℕ) → ((i : ℕ) → c ≤ i → i < c + m → f i ≡ g i) → sum_from f c m ≡ sum_from g c m
sum_same f g c zero h = refl
sum_same f g c (suc m) h =
    let here = h c (omega arith) (omega arith) in
    let rest = sum_same f g (suc c) m (λ i le lt. h i (omega arith) (omega arith)) in
    omega (arith, ints)

pub sum_times : (a : ℤ) (f : ℕ → ℤ) (c m : ℕ) → a *ℤ sum_from f c m ≡ sum_from (λ i. a *ℤ f i) c m
sum_times a f c zero = omega (arith, ints)
sum_times a f c (suc m) =
    let split = *ℤ-+ℤ a (f c) (sum_from f (suc c) m) in
    let rest = sum_times a f (suc c) m in
    omega (arith, ints)

pub sum_not_below : (f : ℕ → ℤ) (c m : ℕ) → ((i : ℕ) → c ≤ i → i < c + m → pos 0 ≤ℤ f i) → pos 0 ≤ℤ sum_from f c m
sum_not_below f c zero h = omega (arith, ints)
sum_not_below f c (suc m) h =
    let here = h c (omega arith) (omega arith) in
    let rest = sum_not_below f (suc c) m (λ i le lt. h i (omega arith) (omega arith)) in
    omega (arith, ints)

-- one of the numbers is at most the sum, where none is below 0
pub one_at_most : (f : ℕ → ℤ) (c m i : ℕ) → ((j : ℕ) → c ≤ j → j < c + m → pos 0 ≤ℤ f j) → c ≤ i → i < c + m → f i ≤ℤ sum_from f c m
one_at_most f c zero i h le lt = absurd (omega arith)
one_at_most f c (suc m) i h le lt =
    by_cases (cases_eq c i) (sum_not_below f (suc c) m (λ j l k. h j (omega arith) (omega arith))) (h c (omega arith) (omega arith))
    (λ apart. one_at_most f (suc c) m i (λ j l k. h j (omega arith) (omega arith)) (omega (arith, apart, le)) (omega arith))
  where
    by_cases : (c ≡ i) ⊎ (c ≢ i) → pos 0 ≤ℤ sum_from f (suc c) m → pos 0 ≤ℤ f c → (c ≢ i → f i ≤ℤ sum_from f (suc c) m) → f i ≤ℤ sum_from f c (suc m)
    by_cases (inl same) rest here later = let e : f c ≡ f i = ap f same in omega (arith, ints)
    by_cases (inr apart) rest here later = let r = later apart in omega (arith, ints)

pub expansion_sum : (ms : List ℤ) (basis : List Column) (ks : List ℤ) (rows : List (List ℤ)) (s : ℕ → Bool) (f : ℕ → ℤ) (c : ℕ) → length basis ≡ length rows → length ks ≡ length rows
    → ((j : ℕ) → j < length rows → (get_or ks j (pos 0) *ℤ entry ms (column_at basis j)) *ℤ total s (get_or rows j []) ≡ f (c + j)) → expansion ms basis ks rows s ≡ sum_from f c (length rows)
expansion_sum ms [] ks [] s f c lb lk h = refl
expansion_sum ms [] ks (row ∷ rows) s f c lb lk h = absurd (omega arith)
expansion_sum ms (b ∷ bs) [] [] s f c lb lk h = refl
expansion_sum ms (b ∷ bs) [] (row ∷ rows) s f c lb lk h = absurd (omega arith)
expansion_sum ms (b ∷ bs) (k ∷ ks) [] s f c lb lk h = refl
expansion_sum ms (b ∷ bs) (k ∷ ks) (row ∷ rows) s f c lb lk h =
    let here : (k *ℤ entry ms b) *ℤ total s row ≡ f c = h 0 (omega arith) ∙ ap f (let s : c + 0 ≡ c = omega arith in s) in
    let rest = expansion_sum ms bs ks rows s f (suc c) (omega arith) (omega arith) (λ j lt. h (suc j) (omega arith) ∙ ap f (let s : c + suc j ≡ suc c + j = omega arith in s)) in
    omega (arith, ints)

-- ---- shares
-- what the shares have of a combination of master equations
abbrev pub worth : List ℤ → List Column → List (ℕ × ℕ) → ℤ
worth ms columns [] = pos 0
worth ms columns (x ∷ shares) = pos x.1 *ℤ entry ms (column_at columns x.0) +ℤ worth ms columns shares

worth_append : (ms : List ℤ) (columns : List Column) (xs ys : List (ℕ × ℕ)) → worth ms columns (xs ++ ys) ≡ worth ms columns xs +ℤ worth ms columns ys
worth_append ms columns [] ys = omega (arith, ints)
worth_append ms columns (x ∷ xs) ys = let rest = worth_append ms columns xs ys in omega (arith, ints)

-- a row's share of a combination
abbrev pub term : List ℤ → Tableau → ℕ → ℕ → ℤ
term ms t over i = pos (share_at t over i) *ℤ entry ms (column_at t.columns (get_or t.basis i 0))

one_part : (ms : List ℤ) (columns : List Column) (j x : ℕ) → worth ms columns (cond (nat_lt 0 x) ((j, x) ∷ []) []) ≡ pos x *ℤ entry ms (column_at columns j)
one_part ms columns j zero =
    ap (λ b. worth ms columns (cond b ((j, 0) ∷ []) [])) (le-ltb 0 0 (omega arith)) ∙ omega (arith, ints)
one_part ms columns j (suc x) =
    ap (λ b. worth ms columns (cond b ((j, suc x) ∷ []) [])) (lt-ltb 0 (suc x) (omega arith)) ∙ omega (arith, ints)

pub worth_given : (ms : List ℤ) (t : Tableau) (over k : ℕ) → worth ms t.columns (given t over k) ≡ sum_from (λ i. term ms t over i) 0 k
worth_given ms t over zero = refl
worth_given ms t over (suc k) =
    let j = get_or t.basis k 0 in
    let x = share_at t over k in
    let split = worth_append ms t.columns (given t over k) (cond (nat_lt 0 x) ((j, x) ∷ []) []) in
    let here = one_part ms t.columns j x in
    let rest = worth_given ms t over k in
    let more = sum_more (λ i. term ms t over i) 0 k in
    let e : term ms t over (0 + k) ≡ term ms t over k = ap (λ i. term ms t over i) (let s : 0 + k ≡ k = omega arith in s) in
    split ∙ ap₂ (λ a b. a +ℤ b) rest here ∙ ap (λ z. sum_from (λ i. term ms t over i) 0 k +ℤ z) (sym e) ∙ sym more

-- a fact of each share that is given
abbrev pub Each : (ℕ × ℕ → Type 0) → List (ℕ × ℕ) → Type 0
Each P [] = Unit {0}
Each P (x ∷ xs) = P x × Each P xs

each_append : (P : ℕ × ℕ → Type 0) (xs ys : List (ℕ × ℕ)) → Each P xs → Each P ys → Each P (xs ++ ys)
each_append P [] ys p q = q
each_append P (x ∷ xs) ys p q = (p.0, each_append P xs ys p.1 q)

pub each_given : (P : ℕ × ℕ → Type 0) (t : Tableau) (over k : ℕ) → ((i : ℕ) → i < k → 0 < share_at t over i → P (get_or t.basis i 0, share_at t over i)) → Each P (given t over k)
each_given P t over zero h = tt
each_given P t over (suc k) h =
    each_append P (given t over k) (cond (nat_lt 0 (share_at t over k)) ((get_or t.basis k 0, share_at t over k) ∷ []) []) (each_given P t over k (λ i lt some. h i (omega arith) some)) (by_cases (cases_lt 0 (share_at t over k)))
  where
    by_cases : (0 < share_at t over k) ⊎ (share_at t over k ≤ 0) → Each P (cond (nat_lt 0 (share_at t over k)) ((get_or t.basis k 0, share_at t over k) ∷ []) [])
    by_cases (inl some) = subst (λ b. Each P (cond b ((get_or t.basis k 0, share_at t over k) ∷ []) [])) (sym (lt-ltb 0 (share_at t over k) some)) (h k (omega arith) some, tt)
    by_cases (inr none) = subst (λ b. Each P (cond b ((get_or t.basis k 0, share_at t over k) ∷ []) [])) (sym (le-ltb 0 (share_at t over k) none)) tt

pub each_at : (P : ℕ × ℕ → Type 0) (xs : List (ℕ × ℕ)) → Each P xs → (i : ℕ) (d : ℕ × ℕ) → i < length xs → P (get_or xs i d)
each_at P [] h i d lt = absurd (omega arith)
each_at P (x ∷ xs) h zero d lt = h.0
each_at P (x ∷ xs) h (suc i) d lt = each_at P xs h.1 i d (omega arith)

-- shares of columns whose entries pay their cost
pub worth_cost : (ms : List ℤ) (columns : List Column) (w : ℕ) (shares : List (ℕ × ℕ)) → Each (λ x. entry ms (column_at columns x.0) ≡ pos w *ℤ pos (cost_of (column_at columns x.0))) shares
    → worth ms columns shares ≡ pos (w * cost_of_shares columns shares)
worth_cost ms columns w [] h = omega (arith, ints)
worth_cost ms columns w (x ∷ shares) h =
    let c = cost_of (column_at columns x.0) in
    let here : pos x.1 *ℤ entry ms (column_at columns x.0) ≡ pos (w * (x.1 * c)) = ap (λ z. pos x.1 *ℤ z) h.0 ∙ (let a : x.1 * (w * c) ≡ w * (x.1 * c) = omega arith in omega (arith, ints)) in
    let rest = worth_cost ms columns w shares h.1 in
    let split : w * (x.1 * c + cost_of_shares columns shares) ≡ w * (x.1 * c) + w * cost_of_shares columns shares = omega arith in
    omega (arith, ints)

-- ---- the shares of a customer
pub worth_unit : (n c : ℕ) (columns : List Column) (shares : List (ℕ × ℕ)) → c < n → worth (unit n c) columns shares ≡ pos (covered columns shares c)
worth_unit n c columns [] lt = refl
worth_unit n c columns (x ∷ shares) lt =
    let b = column_at columns x.0 in
    let is = total_unit (serves b) n c lt in
    let rest = worth_unit n c columns shares lt in
    let here : pos x.1 *ℤ entry (unit n c) b ≡ pos (cond (serves b c) x.1 0) = ap (λ z. pos x.1 *ℤ z) is ∙ chosen x.1 (serves b c) in
    omega (arith, ints)
  where
    chosen : (m : ℕ) (b : Bool) → pos m *ℤ cond b (pos 1) (pos 0) ≡ pos (cond b m 0)
    chosen m true = omega (arith, ints)
    chosen m false = omega (arith, ints)

-- a sum that isn't 0 has a customer
pub some_member : (s : ℕ → Bool) (c : ℕ) (ms : List ℤ) → (total_from s c ms ≡ pos 0 → ⊥) → (k : ℕ) × (k < length ms) × (s (c + k) ≡ true)
some_member s c [] h = absurd (h refl)
some_member s c (m ∷ ms) h = by_cases (cases_Bool (s c)) (λ later. some_member s (suc c) ms later)
  where
    by_cases : (s c ≡ true) ⊎ (s c ≡ false) → ((total_from s (suc c) ms ≡ pos 0 → ⊥) → (k : ℕ) × (k < length ms) × (s (suc c + k) ≡ true)) → (k : ℕ) × (k < length (m ∷ ms)) × (s (c + k) ≡ true)
    by_cases (inl is) rest = (0, omega arith, ap s (let e : c + 0 ≡ c = omega arith in e) ∙ is)
    by_cases (inr other) rest =
        let here : cond (s c) m (pos 0) ≡ pos 0 = ap (λ b. cond b m (pos 0)) other in
        let found = rest (λ e. h (omega (arith, ints, here, e))) in
        (suc found.0, omega (arith, found.1), ap s (let e : c + suc found.0 ≡ suc c + found.0 = omega arith in e) ∙ found.2)
