-- Each column is the combination of the basis columns that the rows say.
use Rattle.std.proofs.Common.{◌≡◌, ◌≢◌, ◌∙◌, ℕ, zero, suc, ◌<◌, arith, refl, sym, ap, ℤ, pos, negsuc, ◌+ℤ◌, ◌*ℤ◌, Bool, List, [], ◌∷◌, map, length, get_or}
use Rattle.std.proofs.lemmas.Int.{ints}
use Rattle.fleet_model.proofs.Ring.{*ℤ_comm, *ℤ_assoc}
use Rattle.fleet_model.specs.Equations.{Column, column_at, combined, entry, serves, total}
use Rattle.fleet_model.proofs.Totals.{total_combined, length-combined, total_nothing}
use Rattle.master_table.proofs.Pivots.{IsRows}
use Rattle.master_table.specs.Expansion.{expansion}

-- ---- sums of products
unfoldable pub products : List ℤ → List ℤ → ℤ
products [] zs = pos 0
products (k ∷ ks) [] = pos 0
products (k ∷ ks) (z ∷ zs) = k *ℤ z +ℤ products ks zs

products_none : (ks zs : List ℤ) → ((i : ℕ) → i < length zs → get_or zs i (pos 0) ≡ pos 0) → products ks zs ≡ pos 0
unfolding products
products_none [] zs h = refl
products_none (k ∷ ks) [] h = refl
products_none (k ∷ ks) (z ∷ zs) h =
    let first : k *ℤ z ≡ pos 0 = ap (λ x. k *ℤ x) (h 0 (omega arith)) ∙ omega (arith, ints) in
    let rest = products_none ks zs (λ i lt. h (suc i) (omega arith)) in
    omega (arith, ints)

none_at : (c : ℕ) → get_or {A = ℤ} [] c (pos 0) ≡ pos 0
none_at zero = refl
none_at (suc c) = refl

pub products_single : (ks zs : List ℤ) (j : ℕ) → j < length zs → ((i : ℕ) → i < length zs → i ≢ j → get_or zs i (pos 0) ≡ pos 0) → products ks zs ≡ get_or ks j (pos 0) *ℤ get_or zs j (pos 0)
unfolding products
products_single ks [] j lt h = absurd (omega arith)
products_single [] (z ∷ zs) j lt h = let n : get_or {A = ℤ} [] j (pos 0) ≡ pos 0 = none_at j in rw n (omega (arith, ints))
products_single (k ∷ ks) (z ∷ zs) zero lt h =
    let rest = products_none ks zs (λ i l. h (suc i) (omega arith) (λ e. absurd (omega arith))) in
    omega (arith, ints)
products_single (k ∷ ks) (z ∷ zs) (suc j) lt h =
    let first : k *ℤ z ≡ pos 0 = ap (λ x. k *ℤ x) (h 0 (omega arith) (λ e. absurd (omega arith))) ∙ omega (arith, ints) in
    let rest = products_single ks zs j (omega arith) (λ i l other. h (suc i) (omega arith) (λ e. other (omega arith))) in
    omega (arith, ints)

-- ---- mixtures of rows
zeros : ℕ → List ℤ
zeros zero = []
zeros (suc n) = pos 0 ∷ zeros n

pub mixed : ℕ → List ℤ → List (List ℤ) → List ℤ
mixed n [] rows = zeros n
mixed n (k ∷ ks) [] = zeros n
mixed n (k ∷ ks) (row ∷ rows) = combined k (negsuc 0) row (mixed n ks rows)

length-zeros : (n : ℕ) → length (zeros n) ≡ n
unfolding zeros
length-zeros zero = refl
length-zeros (suc n) = ap suc (length-zeros n)

zero_in : (n c : ℕ) → get_or (zeros n) c (pos 0) ≡ pos 0
unfolding zeros
zero_in zero c = none_at c
zero_in (suc n) zero = refl
zero_in (suc n) (suc c) = zero_in n c

pub length-mixed : (n : ℕ) (ks : List ℤ) (rows : List (List ℤ)) → ((i : ℕ) → i < length rows → length (get_or rows i []) ≡ n) → length (mixed n ks rows) ≡ n
unfolding mixed
length-mixed n [] rows h = length-zeros n
length-mixed n (k ∷ ks) [] h = length-zeros n
length-mixed n (k ∷ ks) (row ∷ rows) h =
    let here : length row ≡ n = h 0 (omega arith) in
    let rest = length-mixed n ks rows (λ i lt. h (suc i) (omega arith)) in
    length-combined k (negsuc 0) row (mixed n ks rows) (here ∙ sym rest) ∙ here

unfoldable pub entries : (ℕ → Bool) → List (List ℤ) → List ℤ
entries s rows = map (λ row. total s row) rows

pub total_mixed : (n : ℕ) (s : ℕ → Bool) (ks : List ℤ) (rows : List (List ℤ)) → ((i : ℕ) → i < length rows → length (get_or rows i []) ≡ n) → total s (mixed n ks rows) ≡ products ks (entries s rows)
unfolding mixed products entries
total_mixed n s [] rows h = total_nothing s (zeros n) (zero_in n)
total_mixed n s (k ∷ ks) [] h = total_nothing s (zeros n) (zero_in n)
total_mixed n s (k ∷ ks) (row ∷ rows) h =
    let here : length row ≡ n = h 0 (omega arith) in
    let length_rest = length-mixed n ks rows (λ i lt. h (suc i) (omega arith)) in
    let rest = total_mixed n s ks rows (λ i lt. h (suc i) (omega arith)) in
    let all = total_combined k (negsuc 0) s row (mixed n ks rows) (here ∙ sym length_rest) in
    omega (arith, ints)

pub entries_at : (s : ℕ → Bool) (rows : List (List ℤ)) (i : ℕ) → i < length rows → get_or (entries s rows) i (pos 0) ≡ total s (get_or rows i [])
unfolding entries
entries_at s [] i lt = absurd (omega arith)
entries_at s (row ∷ rows) zero lt = refl
entries_at s (row ∷ rows) (suc i) lt = entries_at s rows i (omega arith)

pub length-entries : (s : ℕ → Bool) (rows : List (List ℤ)) → length (entries s rows) ≡ length rows
unfolding entries
length-entries s [] = refl
length-entries s (row ∷ rows) = ap suc (length-entries s rows)

weighted : List ℤ → List Column → List ℤ → List ℤ
weighted ms [] ks = []
weighted ms (b ∷ bs) [] = []
weighted ms (b ∷ bs) (k ∷ ks) = (k *ℤ entry ms b) ∷ weighted ms bs ks

weighted_at : (ms : List ℤ) (basis : List Column) (ks : List ℤ) (j : ℕ) → length basis ≡ length ks → j < length basis → get_or (weighted ms basis ks) j (pos 0) ≡ get_or ks j (pos 0) *ℤ entry ms (column_at basis j)
unfolding weighted
weighted_at ms [] ks j e lt = absurd (omega arith)
weighted_at ms (b ∷ bs) [] j e lt = absurd (omega arith)
weighted_at ms (b ∷ bs) (k ∷ ks) zero e lt = refl
weighted_at ms (b ∷ bs) (k ∷ ks) (suc j) e lt = weighted_at ms bs ks j (omega arith) (omega arith)

products_expansion : (ms : List ℤ) (basis : List Column) (ks : List ℤ) (rows : List (List ℤ)) (s : ℕ → Bool) → products (weighted ms basis ks) (entries s rows) ≡ expansion ms basis ks rows s
unfolding products weighted entries
products_expansion ms [] ks rows s = refl
products_expansion ms (b ∷ bs) [] rows s = refl
products_expansion ms (b ∷ bs) (k ∷ ks) [] s = refl
products_expansion ms (b ∷ bs) (k ∷ ks) (row ∷ rows) s = ap (λ z. (k *ℤ entry ms b) *ℤ total s row +ℤ z) (products_expansion ms bs ks rows s)

-- whole factors k_b that make each row's own entry the same number p: for all multipliers and all chosen customers
pub expands : (n : ℕ) (basis : List Column) (rows : List (List ℤ)) (p : ℤ) (ks : List ℤ) → IsRows n basis (λ i. get_or rows i []) → length rows ≡ n → length ks ≡ n
    → ((j : ℕ) → j < n → get_or ks j (pos 0) *ℤ entry (get_or rows j []) (column_at basis j) ≡ p)
    → (ms : List ℤ) → length ms ≡ n → (s : ℕ → Bool) → expansion ms basis ks rows s ≡ p *ℤ total s ms
expands n basis rows p ks is high whole same ms wide s =
    sym (products_expansion ms basis ks rows s) ∙ sym (total_mixed n s (weighted ms basis ks) rows lengths) ∙ at_col
  where
    lengths : (i : ℕ) → i < length rows → length (get_or rows i []) ≡ n
    lengths i l = (is.bodies i (omega (arith, high))).whole

    both : length (mixed n (weighted ms basis ks) rows) ≡ length ms
    both = length-mixed n (weighted ms basis ks) rows lengths ∙ sym wide

    at_basis : (j : ℕ) → j < n → entry (mixed n (weighted ms basis ks) rows) (column_at basis j) ≡ p *ℤ entry ms (column_at basis j)
    at_basis j l =
        let b = column_at basis j in
        let k = get_or ks j (pos 0) in
        let d = entry (get_or rows j []) b in
        let m = entry ms b in
        let count = length-entries (serves b) rows in
        let single = products_single (weighted ms basis ks) (entries (serves b) rows) j (omega (arith, count, high)) (λ i li other. entries_at (serves b) rows i (omega (arith, count)) ∙ (is.bodies i (omega (arith, count, high))).others j l (λ e. other (sym e))) in
        let a = weighted_at ms basis ks j (is.count ∙ sym whole) (omega (arith, is.count)) in
        let e = entries_at (serves b) rows j (omega (arith, high)) in
        total_mixed n (serves b) (weighted ms basis ks) rows lengths ∙ single ∙ ap (λ x. x *ℤ get_or (entries (serves b) rows) j (pos 0)) a ∙ ap (λ x. (k *ℤ m) *ℤ x) e
        ∙ ap (λ x. x *ℤ d) (*ℤ_comm k m) ∙ *ℤ_assoc m k d ∙ ap (λ x. m *ℤ x) (same j l) ∙ *ℤ_comm m p

    nothing : (k : ℕ) → get_or (combined (pos 1) p (mixed n (weighted ms basis ks) rows) ms) k (pos 0) ≡ pos 0
    nothing = is.determined (combined (pos 1) p (mixed n (weighted ms basis ks) rows) ms) (length-combined (pos 1) p (mixed n (weighted ms basis ks) rows) ms both ∙ both ∙ wide)
        (λ j l. let m = at_basis j l in total_combined (pos 1) p (serves (column_at basis j)) (mixed n (weighted ms basis ks) rows) ms both ∙ omega (arith, ints))

    at_col : total s (mixed n (weighted ms basis ks) rows) ≡ p *ℤ total s ms
    at_col =
        let e = sym (total_combined (pos 1) p s (mixed n (weighted ms basis ks) rows) ms both) ∙ total_nothing s (combined (pos 1) p (mixed n (weighted ms basis ks) rows) ms) nothing in
        omega (arith, ints)
