-- A list with 1 for one customer.
use Rattle.std.proofs.Common.{◌≡◌, ◌≢◌, ◌∙◌, ℕ, zero, suc, ◌+◌, ◌<◌, ◌≤◌, arith, refl, ap, ℤ, pos, ◌+ℤ◌, Bool, true, false, cond, nat_eq, eq-eqb, ne_eqb, List, ◌⊎◌, inl, inr}
use Rattle.std.proofs.lemmas.Int.{ints}
use Rattle.std.proofs.lemmas.Bool.{cases_eq}
use Rattle.fleet_model.specs.Equations.{total, total_from}
use Rattle.master_table.proofs.Factors.{gathered}

pub one_at : ℕ → ℕ → ℤ
one_at c x = cond (nat_eq x c) (pos 1) (pos 0)

pub one_there : (c : ℕ) → one_at c c ≡ pos 1
unfolding one_at
one_there c = ap (λ b. cond b (pos 1) (pos 0)) (eq-eqb c c refl)

pub none_there : (c x : ℕ) → x ≢ c → one_at c x ≡ pos 0
unfolding one_at
none_there c x apart = ap (λ b. cond b (pos 1) (pos 0)) (ne_eqb x c apart)

unit_none : (s : ℕ → Bool) (c d m : ℕ) → c < d → total_from s d (gathered (one_at c) d m) ≡ pos 0
unfolding gathered
unit_none s c d zero lt = refl
unit_none s c d (suc m) lt =
    let none = none_there c d (λ e. omega (arith, e, lt)) in
    let rest = unit_none s c (suc d) m (omega arith) in
    let here : cond (s d) (one_at c d) (pos 0) ≡ pos 0 = ap (λ z. cond (s d) z (pos 0)) none ∙ same (s d) in
    omega (arith, ints)
  where
    same : (b : Bool) → cond b (pos 0) (pos 0) ≡ pos 0
    same true = refl
    same false = refl

unit_total : (s : ℕ → Bool) (c d m : ℕ) → d ≤ c → c < d + m → total_from s d (gathered (one_at c) d m) ≡ cond (s c) (pos 1) (pos 0)
unfolding gathered
unit_total s c d zero le lt = absurd (omega arith)
unit_total s c d (suc m) le lt = by_cases (cases_eq d c) (λ apart. unit_total s c (suc d) m (omega (arith, apart, le)) (omega arith))
  where
    same : (b : Bool) → cond b (pos 0) (pos 0) ≡ pos 0
    same true = refl
    same false = refl

    by_cases : (d ≡ c) ⊎ (d ≢ c) → (d ≢ c → total_from s (suc d) (gathered (one_at c) (suc d) m) ≡ cond (s c) (pos 1) (pos 0))
        → cond (s d) (one_at c d) (pos 0) +ℤ total_from s (suc d) (gathered (one_at c) (suc d) m) ≡ cond (s c) (pos 1) (pos 0)
    by_cases (inl e) later =
        let rest = unit_none s c (suc d) m (omega arith) in
        let here : cond (s d) (one_at c d) (pos 0) ≡ cond (s c) (pos 1) (pos 0) = ap (λ x. cond (s x) (one_at c x) (pos 0)) e ∙ ap (λ z. cond (s c) z (pos 0)) (one_there c) in
        omega (arith, ints)
    by_cases (inr apart) later =
        let rest = later apart in
        let here : cond (s d) (one_at c d) (pos 0) ≡ pos 0 = ap (λ z. cond (s d) z (pos 0)) (none_there c d apart) ∙ same (s d) in
        omega (arith, ints)

-- 1 for customer c, 0 for each other of n
abbrev pub unit : ℕ → ℕ → List ℤ
unit n c = gathered (one_at c) 0 n

pub total_unit : (s : ℕ → Bool) (n c : ℕ) → c < n → total s (unit n c) ≡ cond (s c) (pos 1) (pos 0)
total_unit s n c lt = unit_total s c 0 n (omega arith) (omega arith)
