-- Rows of tables, made one after another.
use Rattle.std.proofs.Common.{◌≡◌, ◌∙◌, ℕ, zero, suc, ◌+◌, ◌<◌, ◌≤◌, true, ◌||◌, List, [], ◌∷◌, ◌++◌, length, length-append, refl, sym, ap, subst, arith, inl, inr, nat_eq, ◌↔◌}
use Rattle.std.specs.Prelude.{slice_index_or}
use Rattle.std.proofs.lemmas.Bool.{cases_eq, eq-eqb, eqb-true, ne_eqb, or_cases, false≢true}
use Rattle.certificate_parts.specs.Ranges.{customer_count}
use Rattle.customer_sets.specs.CustSet.{has}
use Rattle.ev_model.specs.Network.{Network}
use Rattle.near_tree.specs.Follows.{StandsFor}
use Rattle.near_tree.specs.Lasts.{AreRows, IsStandRow, last_at}
use Rattle.near_tree.specs.Rules.{Leaf}

front : (xs ys : List (List ℕ)) (k : ℕ) → k < length xs → slice_index_or (xs ++ ys) k [] ≡ slice_index_or xs k []
front [] ys k less = absurd (omega (arith, less))
front (x ∷ xs) ys zero less = refl
front (x ∷ xs) ys (suc k) less = front xs ys k (omega (arith, less))

seam : (xs : List (List ℕ)) (y : List ℕ) → slice_index_or (xs ++ y ∷ []) (length xs) [] ≡ y
seam [] y = refl
seam (x ∷ xs) y = seam xs y

pub no_rows : (IsRow : ℕ → List ℕ → Type 0) (rows : List (List ℕ)) → rows ≡ [] → AreRows IsRow 0 rows
no_rows IsRow rows none = record { count_is = ap length none; each = λ k less. absurd (omega (arith, less)) }

pub rows_more : (IsRow : ℕ → List ℕ → Type 0) (rows more : List (List ℕ)) (n : ℕ) (row : List ℕ) → more ≡ rows ++ row ∷ [] → AreRows IsRow n rows → IsRow n row → AreRows IsRow (n + 1) more
rows_more IsRow rows more n row is before here = record {
  count_is = (let grown = length-append rows (row ∷ []) in let same = ap length is in omega (arith, grown, same, before.count_is));
  each = λ k less. subst (λ rs. IsRow k (slice_index_or rs k [])) (sym is) (elim (cases_eq k n) [
    | inl same ↦
        let at : slice_index_or (rows ++ row ∷ []) k [] ≡ row = ap (λ m. slice_index_or (rows ++ row ∷ []) m []) (same ∙ sym before.count_is) ∙ seam rows row in
        subst (IsRow k) (sym at) (subst (λ m. IsRow m row) (sym same) here)
    | inr other ↦
        let low : k < n = omega (arith, less, other) in
        let within : k < length rows = omega (arith, low, before.count_is) in
        subst (IsRow k) (sym (front rows (row ∷ []) k within)) (before.each k low)
  ]);
}

-- for whom a last stands, so far
pub record IsStandRowTo (g : Network) (f : Leaf) (last to : ℕ) (row : List ℕ) : Type 0 where
  pub told : (other : ℕ) → other < to → (has row other ≡ true)
      ↔ StandsFor g f.branch f.section (last_at (customer_count g) last) (last_at (customer_count g) other)
  pub low : (other : ℕ) → has row other ≡ true → other < to

module _ (g : Network) (f : Leaf) (last to : ℕ) (row : List ℕ) where
  pub none_stand : row ≡ [] → IsStandRowTo g f last 0 row
  none_stand none = record {
    told = λ other less. absurd (omega (arith, less));
    low = λ other is. absurd (false≢true (sym (ap (λ r. has r other) none) ∙ is));
  }

  module _ (before : IsStandRowTo g f last to row) where
    pub stands_too : (more : List ℕ) → ((x : ℕ) → has more x ≡ (nat_eq to x || has row x)) → StandsFor g f.branch f.section (last_at (customer_count g) last) (last_at (customer_count g) to) → IsStandRowTo g f last (to + 1) more
    stands_too more made stands = record {
      told = λ other less. elim (cases_eq to other) [
        | inl same ↦ (
          λ is. subst (λ m. StandsFor g f.branch f.section (last_at (customer_count g) last) (last_at (customer_count g) m)) same stands,
          λ is. made other ∙ ap (λ b. b || has row other) (eq-eqb to other same),
        )
        | inr apart ↦
            let same : has more other ≡ has row other = made other ∙ ap (λ b. b || has row other) (ne_eqb to other apart) in
            let old = before.told other (omega (arith, less, apart)) in
            (λ is. old.0 (sym same ∙ is), λ is. same ∙ old.1 is)
      ];
      low = λ other is. elim (or_cases (nat_eq to other) (has row other) (sym (made other) ∙ is)) [
        | inl same ↦ (let e = eqb-true to other same in omega (arith, e))
        | inr old ↦ (let less = before.low other old in omega (arith, less))
      ];
    }

    pub stands_not : (StandsFor g f.branch f.section (last_at (customer_count g) last) (last_at (customer_count g) to) → ⊥) → IsStandRowTo g f last (to + 1) row
    stands_not never = record {
      told = λ other less. elim (cases_eq to other) [
        | inl same ↦ (
          λ is. absurd (let low = before.low other is in omega (arith, low, same)),
          λ is. absurd (never (subst (λ m. StandsFor g f.branch f.section (last_at (customer_count g) last) (last_at (customer_count g) m)) (sym same) is)),
        )
        | inr apart ↦ before.told other (omega (arith, less, apart))
      ];
      low = λ other is. (let low = before.low other is in omega (arith, low));
    }

  pub all_stand : (n : ℕ) → n ≡ customer_count g + 2 → n ≤ to → IsStandRowTo g f last to row → IsStandRow g f last row
  all_stand n is all before other less = before.told other (omega (arith, is, all, less))
