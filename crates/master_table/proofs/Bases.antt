-- What the rows of a table have of its columns, and of those of its basis.
use Rattle.std.proofs.Common.{◌≡◌, ◌∙◌, ℕ, ◌<◌, ◌≤◌, arith, sym, ap, pos, ◌+ℤ◌, ◌-ℤ◌, ◌*ℤ◌, cond, nat_lt, le-ltb, [], get_or, length}
use Rattle.std.proofs.lemmas.Int.{ints}
use Rattle.std.proofs.lemmas.List.{get_or-map}
use Rattle.fleet_model.specs.Equations.{column_at, entry, route}
use Rattle.master_table.specs.Tableau.{Equation, IsTableau, IsWithinCaps, Tableau, basis_columns, charge, entry_at, multipliers, row_at, size, weight_cap}
use Rattle.master_table.specs.Pivoting.{excess}

-- what a row has of the column
pub excess_body : (n col i : ℕ) (row : Equation) → i ≤ n → excess n col i row ≡ get_or row.entries col (pos 0)
excess_body n col i row le =
    ap (λ b. get_or row.entries col (pos 0) -ℤ cond b (cond (nat_lt col n) row.weight (pos 0)) (pos 0)) (le-ltb n i le) ∙ omega (arith, ints)

module _ (t : Tableau) (h : IsTableau t) where
  -- a body equation's entry at a column
  pub body_at : (i j : ℕ) → i < size t → j < length t.columns → entry_at t i j ≡ entry (multipliers (size t) (row_at t i)) (column_at t.columns j)
  body_at i j lt inside =
      let s = h.spelled i (omega arith) in
      let w = (row_at t i).weight in
      let e : entry_at t i j ≡ w *ℤ charge (size t) i (column_at t.columns j) +ℤ entry (multipliers (size t) (row_at t i)) (column_at t.columns j) =
      ap (λ xs. get_or xs j (pos 0)) s.entries ∙ get_or-map (λ b. w *ℤ charge (size t) i b +ℤ entry (multipliers (size t) (row_at t i)) b) t.columns j (route [] 0) (pos 0) inside in
      let none : w *ℤ charge (size t) i (column_at t.columns j) ≡ pos 0 = ap (λ z. z *ℤ charge (size t) i (column_at t.columns j)) (h.weightless i lt) ∙ omega (arith, ints) in
      omega (arith, ints)

  pub basis_column : (k : ℕ) → k < size t → column_at (basis_columns t) k ≡ column_at t.columns (get_or t.basis k 0)
  basis_column k lt = get_or-map (column_at t.columns) t.basis k 0 (route [] 0) lt

  pub basis_entry : (i k : ℕ) → i < size t → k < size t → entry_at t i (get_or t.basis k 0) ≡ entry (multipliers (size t) (row_at t i)) (column_at (basis_columns t) k)
  basis_entry i k li lk = body_at i (get_or t.basis k 0) li (h.placed k lk) ∙ ap (entry (multipliers (size t) (row_at t i))) (sym (basis_column k lk))

  -- the cap of the body equations is at least 1
  pub body_some : IsWithinCaps t → 1 ≤ t.caps.body
  body_some w =
      let some = h.price_list.list.some in
      let small = (w (size t) (omega arith)).weight in
      let cap : weight_cap t.caps (size t) (size t) ≡ t.caps.body = ap (λ b. cond b t.caps.cost t.caps.body) (le-ltb (size t) (size t) (omega arith)) in
      omega (arith, ints)
