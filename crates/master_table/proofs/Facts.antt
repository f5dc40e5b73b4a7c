-- Sizes and lengths in a table within its caps.
use Rattle.std.proofs.Common.{◌≡◌, ℕ, zero, suc, ◌+◌, ◌<◌, ◌≤◌, arith, refl, sym, ap, subst, le_trans, ℤ, pos, neg_ℤ, unsigned_abs, List, [], ◌∷◌, map, length, get_or, Bool, true, false, cond, nat_lt, lt-ltb, le-ltb, Option, Some, None, ◌⊎◌, inl, inr}
use Rattle.std.proofs.lemmas.Int.{ints}
use Rattle.std.proofs.lemmas.Bool.{cases_lt}
use Rattle.std.proofs.lemmas.List.{get_or-map}
use Rattle.master_table.specs.Tableau.{Equation, IsRowWithin, Limits, entry_cap, weight_cap}
use Rattle.master_table.specs.Pivoting.{is_below, turned_row}
use Rattle.master_table.specs.FirstPast.{or_later, or_place, past_from, past_in, past_of}
use Rattle.master_table.specs.RowView.{IsSmallRow}
use Rattle.master_table.proofs.Combinations.{length_map}

-- ---- no number past its cap
some_is_some : {A : Type 0} (x : A) → Some x ≡ None → ⊥
some_is_some x e = cc

pub not_past : (t : Bool) (j : ℕ) (rest : Option ℕ) → cond t (Some j) rest ≡ None → (t ≡ false) × (rest ≡ None)
not_past true j rest e = absurd (some_is_some j e)
not_past false j rest e = (refl, e)

pub below_cap : (cap m : ℕ) → nat_lt cap m ≡ false → m ≤ cap
below_cap cap m e = by_cases (cases_lt cap m)
  where
    by_cases : (cap < m) ⊎ (m ≤ cap) → m ≤ cap
    by_cases (inl lt) = let yes = lt-ltb cap m lt in absurd (cc)
    by_cases (inr le) = le

pub within_from : (cap j : ℕ) (xs : List ℤ) → past_from cap j xs ≡ None → (k : ℕ) (d : ℤ) → k < length xs → unsigned_abs (get_or xs k d) ≤ cap
within_from cap j [] e k d lt = absurd (omega arith)
within_from cap j (z ∷ zs) e zero d lt = below_cap cap (unsigned_abs z) (not_past (nat_lt cap (unsigned_abs z)) j (past_from cap (j + 1) zs) e).0
within_from cap j (z ∷ zs) e (suc k) d lt = within_from cap (j + 1) zs (not_past (nat_lt cap (unsigned_abs z)) j (past_from cap (j + 1) zs) e).1 k d (omega arith)

or_place_none : (a b : Option ℕ) → or_place a b ≡ None → (a ≡ None) × (b ≡ None)
or_place_none (Some j) b e = absurd (some_is_some j e)
or_place_none None b e = (refl, e)

or_later_none : (i : ℕ) (a : Option ℕ) (b : Option (ℕ × ℕ)) → or_later i a b ≡ None → (a ≡ None) × (b ≡ None)
or_later_none i (Some j) b e = absurd (some_is_some (i, j) e)
or_later_none i None b e = (refl, e)

pub within_in : (caps : Limits) (n i : ℕ) (row : Equation) → past_in caps n i row ≡ None → IsRowWithin caps n i row
within_in caps n i row e =
    let parts = or_place_none (past_from (entry_cap caps n i) 0 row.entries) _ e in
    let right = not_past (nat_lt (entry_cap caps n i) (unsigned_abs row.right)) (length row.entries) _ parts.1 in
    let weight = not_past (nat_lt (weight_cap caps n i) (unsigned_abs row.weight)) (length row.entries + 1) None right.1 in
    record {
      entries = λ k d lt. within_from (entry_cap caps n i) 0 row.entries parts.0 k d lt;
      right = below_cap (entry_cap caps n i) (unsigned_abs row.right) right.0;
      weight = below_cap (weight_cap caps n i) (unsigned_abs row.weight) weight.0;
    }

pub within_of : (caps : Limits) (n i : ℕ) (rows : List Equation) → past_of caps n i rows ≡ None → (k : ℕ) (d : Equation) → k < length rows → IsRowWithin caps n (i + k) (get_or rows k d)
within_of caps n i [] e k d lt = absurd (omega arith)
within_of caps n i (row ∷ rows) e zero d lt = subst (λ j. IsRowWithin caps n j row) (let s : i ≡ i + 0 = omega arith in s) (within_in caps n i row (or_later_none i (past_in caps n i row) (past_of caps n (i + 1) rows) e).0)
within_of caps n i (row ∷ rows) e (suc k) d lt =
    subst (λ j. IsRowWithin caps n j (get_or rows k d)) (let s : (i + 1) + k ≡ i + suc k = omega arith in s)
    (within_of caps n (i + 1) rows (or_later_none i (past_in caps n i row) (past_of caps n (i + 1) rows) e).1 k d (omega arith))

-- ---- sizes
cap_small : (caps : Limits) (n i m : ℕ) → caps.body ≤ m → caps.cost ≤ m → entry_cap caps n i ≤ m
cap_small caps n i m b c = by_cases (nat_lt i n)
  where
    by_cases : (t : Bool) → cond t caps.body caps.cost ≤ m
    by_cases true = b
    by_cases false = c

weight_small : (caps : Limits) (n i m : ℕ) → caps.body ≤ m → caps.cost ≤ m → weight_cap caps n i ≤ m
weight_small caps n i m b c = by_cases (nat_lt n i)
  where
    by_cases : (t : Bool) → cond t caps.cost caps.body ≤ m
    by_cases true = c
    by_cases false = b

pub row_small : (caps : Limits) (n i m : ℕ) (row : Equation) → caps.body ≤ m → caps.cost ≤ m → IsRowWithin caps n i row → IsSmallRow m row
row_small caps n i m row b c h = record {
  entries = λ k d lt. le_trans (h.entries k d lt) (cap_small caps n i m b c);
  right = le_trans h.right (cap_small caps n i m b c);
  weight = le_trans h.weight (weight_small caps n i m b c);
}

pub body_small : (caps : Limits) (n i m : ℕ) (row : Equation) → i < n → caps.body ≤ m → IsRowWithin caps n i row → IsSmallRow m row
body_small caps n i m row lt b h =
    let yes : nat_lt i n ≡ true = lt-ltb i n lt in
    let no : nat_lt n i ≡ false = le-ltb n i (omega arith) in
    let cap : entry_cap caps n i ≡ caps.body = ap (λ t. cond t caps.body caps.cost) yes in
    let weight_is : weight_cap caps n i ≡ caps.body = ap (λ t. cond t caps.cost caps.body) no in
    let cap_le : entry_cap caps n i ≤ m = omega arith in
    let weight_le : weight_cap caps n i ≤ m = omega arith in
    record {
      entries = λ k d l. le_trans (h.entries k d l) cap_le;
      right = le_trans h.right cap_le;
      weight = le_trans h.weight weight_le;
    }

pub turn_small : (m col : ℕ) (row : Equation) → IsSmallRow m row → IsSmallRow m (turned_row col row)
turn_small m col row h = by_cases (is_below (get_or row.entries col (pos 0)))
  where
    by_cases : (t : Bool) → IsSmallRow m (cond t (record { weight = row.weight; right = neg_ℤ row.right; entries = map neg_ℤ row.entries }) row)
    by_cases false = h
    by_cases true = record {
      entries = λ k d lt.
          let l = length_map neg_ℤ row.entries in
          let small = h.entries k (pos 0) (omega arith) in
          let is = get_or-map neg_ℤ row.entries k (pos 0) d (omega arith) in
          let size_is : unsigned_abs (neg_ℤ (get_or row.entries k (pos 0))) ≤ m = omega (arith, ints) in
          subst (λ z. unsigned_abs z ≤ m) (sym is) size_is;
      right = let r = h.right in omega (arith, ints);
      weight = h.weight;
    }

pub turn_length : (col : ℕ) (row : Equation) → length (turned_row col row).entries ≡ length row.entries
turn_length col row = by_cases (is_below (get_or row.entries col (pos 0)))
  where
    by_cases : (t : Bool) → length (cond t (record { weight = row.weight; right = neg_ℤ row.right; entries = map neg_ℤ row.entries }) row).entries ≡ length row.entries
    by_cases false = refl
    by_cases true = length_map neg_ℤ row.entries
