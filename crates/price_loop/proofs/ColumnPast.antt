-- Where a further column has a number past its cap, the table's basis is past the caps among the columns with this one.
use Rattle.std.proofs.Common.{◌≡◌, ◌∙◌, ℕ, ◌+◌, ◌<◌, ◌≤◌, arith, refl, sym, ap, ℤ, pos, unsigned_abs, List, [], ◌∷◌, ◌++◌, length, get_or, cond, nat_lt, le-ltb, Option, Some, None, false}
use Rattle.std.proofs.Math.Seq.{get_or-append_seam}
use Rattle.std.proofs.lemmas.List.{length-append}
use Rattle.std.proofs.lemmas.Option.{none-some}
use Rattle.fleet_model.specs.Equations.{Column}
use Rattle.master_table.specs.Adding.{extended_row, extended_rows, first_past_row, new_entries, new_entry, past_row, with_column}
use Rattle.master_table.specs.FirstPast.{first_past, or_later, past_in, past_of}
use Rattle.master_table.specs.Tableau.{entry_cap, Equation, IsBasisPast, IsTableau, Limits, size, Tableau}
use Rattle.master_table.proofs.Facts.{within_in}
use Rattle.master_table.proofs.PastCaps.{is_past}

later_none : (i : ℕ) (a : Option ℕ) (b : Option (ℕ × ℕ)) → or_later i a b ≡ None → (a ≡ None) × (b ≡ None)
later_none i (Some j) b e = absurd (none-some (i, j) (sym e))
later_none i None b e = (refl, e)

-- where no number of the longer rows is past its cap, none of the column is
none_past : (caps : Limits) (n : ℕ) (b : Column) (i : ℕ) (rows : List Equation) → past_of caps n i (extended_rows rows (new_entries n b i rows)) ≡ None → past_row caps n i (new_entries n b i rows) ≡ None
none_past caps n b i [] e = refl
none_past caps n b i (row ∷ rows) e =
    let z : ℤ = new_entry n b i row in
    let longer : Equation = extended_row row z in
    let parts = later_none i (past_in caps n i longer) (past_of caps n (i + 1) (extended_rows rows (new_entries n b (i + 1) rows))) e in
    let within = within_in caps n i longer parts.0 in
    let more : length row.entries < length (row.entries ++ z ∷ []) = omega (arith, length-append row.entries (z ∷ [])) in
    let last = within.entries (length row.entries) (pos 0) more in
    let is : get_or (row.entries ++ z ∷ []) (length row.entries) (pos 0) ≡ z = get_or-append_seam row.entries z [] (pos 0) in
    let small : unsigned_abs z ≤ entry_cap caps n i = omega (arith, last, ap unsigned_abs is) in
    let test : nat_lt (entry_cap caps n i) (unsigned_abs z) ≡ false = le-ltb (entry_cap caps n i) (unsigned_abs z) small in
    ap (λ t. cond t (Some i) (past_row caps n (i + 1) (new_entries n b (i + 1) rows))) test ∙ none_past caps n b (i + 1) rows parts.1

module _ (t : Tableau) (b : Column) (whole : IsTableau (with_column b t)) where
  pub column_past : (row : ℕ) → first_past_row b t ≡ Some row → IsBasisPast (with_column b t)
  column_past row e = by_cases (first_past (with_column b t)) refl
    where
      by_cases : (o : Option (ℕ × ℕ)) → first_past (with_column b t) ≡ o → IsBasisPast (with_column b t)
      by_cases (Some p) is = is_past (with_column b t) whole p is
      by_cases None is = absurd (none-some row (sym (none_past t.caps (size t) b 0 t.rows is) ∙ e))
