-- The shares that are given are of different columns.
use Rattle.std.proofs.Common.{◌≡◌, ◌≢◌, ◌∙◌, ℕ, zero, suc, ◌<◌, ◌≤◌, arith, sym, ap, subst, cond, nat_lt, lt-ltb, le-ltb, List, [], ◌∷◌, ◌++◌, get_or, ◌⊎◌, inl, inr}
use Rattle.std.proofs.lemmas.Int.{ints}
use Rattle.std.proofs.lemmas.Bool.{cases_lt}
use Rattle.fleet_model.specs.Equations.{column_at, entry}
use Rattle.master_table.specs.Tableau.{IsTableau, Tableau, basis_columns, multipliers, row_at, size}
use Rattle.master_simplex.specs.Answer.{AreApart}
use Rattle.master_simplex.specs.Sharing.{given, share_at}
use Rattle.master_table.proofs.Bases.{basis_column}
use Rattle.master_simplex.proofs.Sums.{Each, each_at, each_given}

-- each share of a list is of another column than those behind it
Parted : List (ℕ × ℕ) → Type 0
Parted [] = Unit {0}
Parted (x ∷ xs) = Each (λ y. x.0 ≢ y.0) xs × Parted xs

each_more : (P : ℕ × ℕ → Type 0) (xs : List (ℕ × ℕ)) (y : ℕ × ℕ) → Each P xs → P y → Each P (xs ++ y ∷ [])
each_more P [] y h here = (here, tt)
each_more P (x ∷ xs) y h here = (h.0, each_more P xs y h.1 here)

parted_more : (xs : List (ℕ × ℕ)) (y : ℕ × ℕ) → Parted xs → Each (λ x. x.0 ≢ y.0) xs → Parted (xs ++ y ∷ [])
unfolding Parted
parted_more [] y h other = (tt, tt)
parted_more (x ∷ xs) y h other = (each_more (λ z. x.0 ≢ z.0) xs y h.0 other.0, parted_more xs y h.1 other.1)

parted_none : (xs : List (ℕ × ℕ)) → Parted xs → Parted (xs ++ [])
unfolding Parted
parted_none [] h = tt
parted_none (x ∷ xs) h = (each_none (λ y. x.0 ≢ y.0) xs h.0, parted_none xs h.1)
  where
    each_none : (P : ℕ × ℕ → Type 0) (xs : List (ℕ × ℕ)) → Each P xs → Each P (xs ++ [])
    each_none P [] h = tt
    each_none P (x ∷ xs) h = (h.0, each_none P xs h.1)

parted_apart : (xs : List (ℕ × ℕ)) → Parted xs → AreApart xs
unfolding Parted
parted_apart [] h i j d e lt inside = absurd (omega arith)
parted_apart (x ∷ xs) h zero zero d e lt inside = absurd (omega arith)
parted_apart (x ∷ xs) h zero (suc j) d e lt inside = each_at (λ y. x.0 ≢ y.0) xs h.0 j e (omega arith)
parted_apart (x ∷ xs) h (suc i) zero d e lt inside = absurd (omega arith)
parted_apart (x ∷ xs) h (suc i) (suc j) d e lt inside = parted_apart xs h.1 i j d e (omega arith) (omega arith)

module _ (t : Tableau) (h : IsTableau t) where
  -- no column stands twice in the basis
  basis_apart : (i k : ℕ) → i < k → k < size t → get_or t.basis i 0 ≢ get_or t.basis k 0
  basis_apart i k lt inside same =
      let ms = multipliers (size t) (row_at t k) in
      let none = (h.bodies k inside).others i (omega arith) (λ e. omega (arith, e, lt)) in
      let own = (h.bodies k inside).own in
      let e : entry ms (column_at (basis_columns t) i) ≡ entry ms (column_at (basis_columns t) k) =
      ap (entry ms) (basis_column t h i (omega arith) ∙ ap (column_at t.columns) same ∙ sym (basis_column t h k inside)) in
      absurd (omega (arith, ints))

  parted_given : (over k : ℕ) → k ≤ size t → Parted (given t over k)
  unfolding Parted
  parted_given over zero le = tt
  parted_given over (suc k) le =
      by_cases (cases_lt 0 (share_at t over k)) (parted_given over k (omega arith))
      (each_given (λ x. x.0 ≢ get_or t.basis k 0) t over k (λ i lt some. basis_apart i k lt (omega arith)))
    where
      by_cases : (0 < share_at t over k) ⊎ (share_at t over k ≤ 0) → Parted (given t over k) → Each (λ x. x.0 ≢ get_or t.basis k 0) (given t over k)
          → Parted (given t over k ++ cond (nat_lt 0 (share_at t over k)) ((get_or t.basis k 0, share_at t over k) ∷ []) [])
      by_cases (inl some) before other =
          subst (λ b. Parted (given t over k ++ cond b ((get_or t.basis k 0, share_at t over k) ∷ []) [])) (sym (lt-ltb 0 (share_at t over k) some))
          (parted_more (given t over k) (get_or t.basis k 0, share_at t over k) before other)
      by_cases (inr none) before other =
          subst (λ b. Parted (given t over k ++ cond b ((get_or t.basis k 0, share_at t over k) ∷ []) [])) (sym (le-ltb 0 (share_at t over k) none))
          (parted_none (given t over k) before)

  pub given_apart : (over : ℕ) → AreApart (given t over (size t))
  given_apart over = parted_apart (given t over (size t)) (parted_given over (size t) (omega arith))
