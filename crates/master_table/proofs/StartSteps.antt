-- Going from start to start.
use Rattle.std.proofs.Common.{◌≡◌, ◌≢◌, ◌∙◌, ℕ, suc, ◌<◌, ◌≤◌, arith, refl, sym, ap, subst, pos, false, List, [], ◌∷◌, ◌++◌, map, length, length-set, get_or, take, drop, take-append-drop, nat_eq, ◌||◌, Some, None, ◌⊎◌, inl, inr}
use Rattle.std.proofs.lemmas.Bool.{cases_order}
use Rattle.std.proofs.lemmas.List.{get_or-map, take-take}
use Rattle.customer_sets.specs.CustSet.{has}
use Rattle.fleet_model.specs.Equations.{Column, column_at, route}
use Rattle.fleet_model.specs.Basis.{AreIndependent}
use Rattle.master_table.specs.Tableau.{IsBasisPast, Limits, Tableau, entry_at, size}
use Rattle.master_table.proofs.Combinations.{length_map}
use Rattle.master_table.proofs.Tableaus.{zero_or_not}
use Rattle.master_table.specs.Leaving.{IsLastToGo, IsStart, brought}
use Rattle.master_table.specs.Starts.{HasStartPast, IsStartPast}
use Rattle.master_table.proofs.Dependence.{first_independent}
use Rattle.master_table.proofs.Exchange.{IsNext, next_is, next_start, take_last}
use Rattle.master_table.proofs.Reached.{next_depends, past_from_start, start_past}

abbrev pub Past : Tableau → List ℕ → ℕ → Type 0
Past t entries k = IsStartPast t.caps.body t.caps.cost (size t) t.columns (map (column_at t.columns) entries) k

abbrev pub SomePast : Tableau → List ℕ → Type 0
SomePast t entries = HasStartPast t.caps.body t.caps.cost (size t) t.columns (map (column_at t.columns) entries)

pub record IsGoing (old t : Tableau) (entries : List ℕ) (m : ℕ) (taken : List ℕ) : Type 0 where
  pub start : IsStart t entries m taken
  pub columns : t.columns ≡ old.columns
  pub caps : t.caps ≡ old.caps
  pub same_size : size t ≡ size old
  pub before : (k : ℕ) → k < m → Past old entries k → ⊥

same_past : (a b : Tableau) (entries : List ℕ) (k : ℕ) → a.columns ≡ b.columns → a.caps ≡ b.caps → size a ≡ size b → Past a entries k → Past b entries k
same_past a b entries k columns caps sizes p =
    subst (λ n. IsStartPast b.caps.body b.caps.cost n b.columns (map (column_at b.columns) entries) k) sizes
    (subst (λ (c : Limits). IsStartPast c.body c.cost (size a) b.columns (map (column_at b.columns) entries) k) caps
    (subst (λ xs. IsStartPast a.caps.body a.caps.cost (size a) xs (map (column_at xs) entries) k) columns p))

pub going_first : (t : Tableau) (entries : List ℕ) → IsStart t entries 0 [] → IsGoing t t entries 0 []
going_first t entries s = record { start = s; columns = refl; caps = refl; same_size = refl; before = λ k lt. absurd (omega arith) }

module _ (old t : Tableau) (entries : List ℕ) (m : ℕ) (taken : List ℕ) (g : IsGoing old t entries m taken) where
  count : length (map (column_at old.columns) entries) ≡ length entries
  count = length_map (column_at old.columns) entries

  past_here : IsBasisPast t → Past old entries m
  past_here p = same_past t old entries m g.columns g.caps g.same_size (start_past t g.start.tableau entries m taken g.start p)

  pub going_past : m ≤ length entries → IsBasisPast t → SomePast old entries
  going_past le p = record { m = m; some = let c = count in omega arith; start = past_here p }

  not_here : (IsBasisPast t → ⊥) → Past old entries m → ⊥
  not_here none p = none (past_from_start t g.start.tableau entries m taken g.start (same_past old t entries m (sym g.columns) (sym g.caps) (sym g.same_size) p))

  pub going_end : length entries ≤ m → (IsBasisPast t → ⊥) → SomePast old entries → ⊥
  going_end le none p = by_cases (cases_order p.m m)
    where
      by_cases : (p.m ≡ m) ⊎ ((p.m < m) ⊎ (m < p.m)) → ⊥
      by_cases (inl e) = not_here none (subst (λ k. Past old entries k) e p.start)
      by_cases (inr (inl lt)) = g.before p.m lt p.start
      by_cases (inr (inr more)) = let c = count in let s = p.some in absurd (omega arith)

  module _ (col : ℕ) (more : m < length entries) (col_is : get_or entries m 0 ≡ col) (inside : col < length t.columns) where
    -- no helper may go
    pub going_stops : (IsBasisPast t → ⊥) → IsLastToGo t taken col (size t) None → SomePast old entries → ⊥
    going_stops none stuck p = by_cases (cases_order p.m m)
      where
        nothing : (i : ℕ) → i < size t → has taken i ≡ false → entry_at t i col ≡ pos 0
        nothing i lt free = of_either (zero_or_not (entry_at t i col))
          where
            of_either : (entry_at t i col ≡ pos 0) ⊎ (entry_at t i col ≢ pos 0) → entry_at t i col ≡ pos 0
            of_either (inl e) = e
            of_either (inr other) = absurd (stuck i lt (free, other))

        all : List Column
        all = map (column_at t.columns) entries

        first : take (suc m) (map (column_at t.columns) entries) ≡ take m (map (column_at t.columns) entries) ++ column_at t.columns col ∷ []
        first =
            take_last (map (column_at t.columns) entries) m (route [] 0) (let c = length_map (column_at t.columns) entries in omega arith)
            ∙ ap (λ b. take m (map (column_at t.columns) entries) ++ b ∷ []) (get_or-map (column_at t.columns) entries m 0 (route [] 0) more ∙ ap (column_at t.columns) col_is)

        by_cases : (p.m ≡ m) ⊎ ((p.m < m) ⊎ (m < p.m)) → ⊥
        by_cases (inl e) = not_here none (subst (λ k. Past old entries k) e p.start)
        by_cases (inr (inl lt)) = g.before p.m lt p.start
        by_cases (inr (inr later)) =
            let here = same_past old t entries p.m (sym g.columns) (sym g.caps) (sym g.same_size) p.start in
            let xs = map (column_at t.columns) entries in
            let split : take p.m xs ≡ (take m xs ++ column_at t.columns col ∷ []) ++ drop (suc m) (take p.m xs) =
            sym (take-append-drop (suc m) (take p.m xs)) ∙ ap (λ ys. ys ++ drop (suc m) (take p.m xs)) (take-take (suc m) p.m xs (omega arith) ∙ first) in
            next_depends t g.start.tableau entries m taken g.start col inside nothing
            (first_independent (size t) (take m xs ++ column_at t.columns col ∷ []) (drop (suc m) (take p.m xs)) (subst (AreIndependent (size t)) split here.independent))

    -- the last helper that may go makes room
    module _ (r : ℕ) (after : List ℕ) (none : IsBasisPast t → ⊥) (last : IsLastToGo t taken col (size t) (Some r)) (adds : (x : ℕ) → has after x ≡ (nat_eq r x || has taken x)) where
      next : IsNext t r col (brought r col t)
      next = next_is t g.start.tableau r col last.0 inside last.1.1

      pub going_on : IsGoing old (brought r col t) entries (suc m) after
      going_on = record {
        start = next_start t (brought r col t) entries m taken after g.start r col more col_is last next adds;
        columns = next.columns ∙ g.columns;
        caps = next.caps ∙ g.caps;
        same_size = ap length next.basis ∙ length-set t.basis r col ∙ g.same_size;
        before = λ k lt p. by_cases k p (cases_order k m) (omega arith);
      }
        where
          by_cases : (k : ℕ) → Past old entries k → (k ≡ m) ⊎ ((k < m) ⊎ (m < k)) → k ≤ m → ⊥
          by_cases k p (inl e) le = not_here none (subst (λ j. Past old entries j) e p)
          by_cases k p (inr (inl lt)) le = g.before k lt p
          by_cases k p (inr (inr above)) le = absurd (omega arith)
