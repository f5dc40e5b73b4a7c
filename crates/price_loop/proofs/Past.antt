-- A basis that a table refuses is past the caps among the columns of the routes, and its numbers are apart.
use Rattle.std.proofs.Common.{◌≡◌, ◌≢◌, ◌∙◌, ℕ, suc, ◌+◌, ◌-◌, ◌<◌, ◌≤◌, false, arith, sym, ap, subst, inl, inr, List, [], ◌∷◌, ◌++◌, append_assoc, map, length, get_or, Some}
use Rattle.std.specs.List.{All}
use Rattle.std.proofs.lemmas.Bool.{cases_lt}
use Rattle.std.proofs.lemmas.List.{get_or-map, get_or_past, length-map, map-append}
use Rattle.std.proofs.lemmas.List.Elements.{All-from_get_or, All-push}
use Rattle.fleet_model.specs.Basis.{AreIndependent}
use Rattle.fleet_model.specs.Equations.{Column, column_at, helpers, route, serves}
use Rattle.fleet_model.specs.Wide.{IsPast}
use Rattle.master_table.specs.Adding.{first_past_row, with_column}
use Rattle.master_table.specs.Tableau.{IsTableau, Limits, size, Tableau}
use Rattle.master_simplex.specs.Phase.{IsReached, IsRefused}
use Rattle.price_loop.specs.Masters.{columns_of, IsMaster, IsPastBasis, IsWide}
use Rattle.price_loop.specs.Problems.{column_of, Problem}
use Rattle.price_loop.specs.declared.master.Master.{Master}
use Rattle.price_loop.proofs.ColumnPast.{column_past}
use Rattle.price_loop.proofs.Independent.{columns_differ, some_customer}

-- ---- the numbers of independent columns
module _ (n : ℕ) (xs : List Column) (basis : List ℕ) (is : AreIndependent n (map (column_at xs) basis)) where
  abbrev chosen : List Column
  chosen = map (column_at xs) basis

  chosen_at : (i : ℕ) → i < length basis → column_at chosen i ≡ column_at xs (get_or basis i 0)
  chosen_at i less = get_or-map (column_at xs) basis i 0 (route [] 0) less

  many_chosen : length chosen ≡ length basis
  many_chosen = length-map basis (column_at xs)

  none_past : (i : ℕ) → i < length basis → length xs ≤ get_or basis i 0 → (c : ℕ) → c < n → serves (column_at chosen i) c ≡ false
  none_past i less past c small = ap (λ (b : Column). serves b c) (chosen_at i less ∙ get_or_past xs (get_or basis i 0) (route [] 0) past)

  placed_at : (i : ℕ) → i < length basis → get_or basis i 0 < length xs
  placed_at i less = elim (cases_lt (get_or basis i 0) (length xs)) [
    | inl within ↦ within
    | inr past ↦ let e = many_chosen in absurd (some_customer n chosen is i (omega (arith, less, e)) (none_past i less past))
  ]

  placed : All (λ j. j < length xs) basis
  placed = All-from_get_or (λ (j : ℕ). j < length xs) basis 0 placed_at

  apart : (i j : ℕ) → i < j → j < length basis → get_or basis i 0 ≢ get_or basis j 0
  apart i j less within same =
      let place : j ≡ i + suc (j - suc i) = omega (arith, less) in
      let e = many_chosen in
      let first = chosen_at i (omega (arith, less, within)) in
      let second = chosen_at j within in
      columns_differ n chosen is i (j - suc i) (omega (arith, less, within, e)) (first ∙ ap (column_at xs) same ∙ sym second ∙ ap (column_at chosen) place)

past_basis : (n : ℕ) (caps : Limits) (all : List Column) (basis : List ℕ) → IsPast caps.body caps.cost n all (map (column_at all) basis) → IsPastBasis n caps all basis
past_basis n caps all basis past = record {
  past = past;
  placed = placed n all basis past.is_basis.independent;
  apart = apart n all basis past.is_basis.independent;
}

-- ---- what a table refuses
module _ {R C : Type 0} (q : Problem R C) (caps : Limits) (m : Master R) (is : IsMaster q caps m) where
  pub refused_basis : (t : Tableau) (basis : List ℕ) → IsReached m.table t → IsRefused basis t → IsWide q caps m.routes.items basis
  refused_basis t basis reached refused =
      let limits = λ (l : Limits). IsPast l.body l.cost (size t) t.columns (map (column_at t.columns) basis) in
      let count = λ (k : ℕ). IsPast caps.body caps.cost k t.columns (map (column_at t.columns) basis) in
      let all = λ (bs : List Column). IsPast caps.body caps.cost q.customers bs (map (column_at bs) basis) in
      record {
        routes_are = is.routes_are;
        past = past_basis q.customers caps (columns_of q m.routes.items) basis
            (subst all (reached.columns ∙ is.columns_are)
            (subst count (reached.same_size ∙ is.count)
            (subst limits (reached.caps ∙ is.caps_are) refused.past)));
      }

  pub refused_column : (b : Column) (r : R) (row : ℕ) → q.is_route r → b ≡ column_of q r → IsTableau (with_column b m.table) → first_past_row b m.table ≡ Some row → IsWide q caps (m.routes.items ++ r ∷ []) m.table.basis
  refused_column b r row route_is same whole past =
      let t = m.table in
      let hs = helpers q.customers in
      let rs = m.routes.items in
      let behind : t.columns ++ b ∷ [] ≡ columns_of q (rs ++ r ∷ []) =
      ap (λ (bs : List Column). bs ++ b ∷ []) is.columns_are
      ∙ ap (λ (x : Column). (hs ++ map (column_of q) rs) ++ x ∷ []) same
      ∙ append_assoc hs (map (column_of q) rs) (column_of q r ∷ [])
      ∙ ap (λ (bs : List Column). hs ++ bs) (sym (map-append (column_of q) rs (r ∷ []))) in
      let limits = λ (l : Limits). IsPast l.body l.cost (size t) (t.columns ++ b ∷ []) (map (column_at (t.columns ++ b ∷ [])) t.basis) in
      let count = λ (k : ℕ). IsPast caps.body caps.cost k (t.columns ++ b ∷ []) (map (column_at (t.columns ++ b ∷ [])) t.basis) in
      let all = λ (bs : List Column). IsPast caps.body caps.cost q.customers bs (map (column_at bs) t.basis) in
      record {
        routes_are = All-push q.is_route rs r is.routes_are route_is;
        past = past_basis q.customers caps (columns_of q (rs ++ r ∷ [])) t.basis
            (subst all behind (subst count is.count (subst limits is.caps_are (column_past t b whole row past))));
      }
