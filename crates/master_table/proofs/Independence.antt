-- The columns of a basis are independent.
use Rattle.std.proofs.Common.{◌≡◌, ◌≢◌, ◌∙◌, ℕ, zero, suc, ◌+◌, ◌<◌, ◌≤◌, arith, refl, sym, ap, ℤ, pos, ◌+ℤ◌, ◌*ℤ◌, Bool, true, false, cond, List, [], ◌∷◌, length, get_or, ◌⊎◌, inl, inr}
use Rattle.std.proofs.lemmas.Int.{ints}
use Rattle.std.proofs.lemmas.Bool.{cases_lt}
use Rattle.fleet_model.specs.Equations.{Column, column_at, entry, serves, total_from}
use Rattle.fleet_model.specs.Basis.{AreIndependent, IsBasis, covering}
use Rattle.fleet_model.proofs.Ring.{*ℤ-+ℤ, *ℤ_comm}
use Rattle.fleet_model.proofs.Signs.{zero_times}
use Rattle.master_table.proofs.Pivots.{IsRows}

-- ---- sums over columns, each as often as its factor says
pub weighed : List ℤ → List Column → (Column → ℤ) → ℤ
weighed [] columns worth = pos 0
weighed (k ∷ ks) [] worth = pos 0
weighed (k ∷ ks) (b ∷ bs) worth = k *ℤ worth b +ℤ weighed ks bs worth

weighed_sum : (ks : List ℤ) (bs : List Column) (F G H : Column → ℤ) → ((b : Column) → F b ≡ G b +ℤ H b) → weighed ks bs F ≡ weighed ks bs G +ℤ weighed ks bs H
unfolding weighed
weighed_sum [] bs F G H e = refl
weighed_sum (k ∷ ks) [] F G H e = refl
weighed_sum (k ∷ ks) (b ∷ bs) F G H e =
    let here : k *ℤ F b ≡ k *ℤ G b +ℤ k *ℤ H b = ap (λ z. k *ℤ z) (e b) ∙ *ℤ-+ℤ k (G b) (H b) in
    let rest = weighed_sum ks bs F G H e in
    omega (arith, ints)

weighed_nothing : (ks : List ℤ) (bs : List Column) → weighed ks bs (λ b. pos 0) ≡ pos 0
unfolding weighed
weighed_nothing [] bs = refl
weighed_nothing (k ∷ ks) [] = refl
weighed_nothing (k ∷ ks) (b ∷ bs) = let rest = weighed_nothing ks bs in omega (arith, ints)

chosen_times : (t : Bool) (k m : ℤ) → k *ℤ cond t m (pos 0) ≡ m *ℤ cond t k (pos 0)
chosen_times true k m = *ℤ_comm k m
chosen_times false k m = omega (arith, ints)

weighed_customer : (c : ℕ) (m : ℤ) (ks : List ℤ) (bs : List Column) → weighed ks bs (λ b. cond (serves b c) m (pos 0)) ≡ m *ℤ covering ks bs c
unfolding weighed
weighed_customer c m [] bs = omega (arith, ints)
weighed_customer c m (k ∷ ks) [] = omega (arith, ints)
weighed_customer c m (k ∷ ks) (b ∷ bs) =
    let here = chosen_times (serves b c) k m in
    let rest = weighed_customer c m ks bs in
    let all = *ℤ-+ℤ m (cond (serves b c) k (pos 0)) (covering ks bs c) in
    omega (arith, ints)

-- columns that cover each customer 0 times have 0 of each combination of master equations
weighed_uncovered : (c : ℕ) (ms ks : List ℤ) (bs : List Column) → ((j : ℕ) → j < length ms → covering ks bs (c + j) ≡ pos 0) → weighed ks bs (λ b. total_from (serves b) c ms) ≡ pos 0
weighed_uncovered c [] ks bs h = weighed_nothing ks bs
weighed_uncovered c (m ∷ ms) ks bs h =
    let split = weighed_sum ks bs (λ b. total_from (serves b) c (m ∷ ms)) (λ b. cond (serves b c) m (pos 0)) (λ b. total_from (serves b) (suc c) ms) (λ b. refl) in
    let here = weighed_customer c m ks bs in
    let same : c + 0 ≡ c = omega arith in
    let none : covering ks bs c ≡ pos 0 = ap (covering ks bs) (sym same) ∙ h 0 (omega arith) in
    let gone : m *ℤ covering ks bs c ≡ pos 0 = ap (λ z. m *ℤ z) none ∙ omega (arith, ints) in
    let rest = weighed_uncovered (suc c) ms ks bs (λ j lt. let e : suc c + j ≡ c + suc j = omega arith in ap (covering ks bs) e ∙ h (suc j) (omega arith)) in
    omega (arith, ints)

weighed_zeros : (ks : List ℤ) (bs : List Column) (F : Column → ℤ) → ((i : ℕ) → i < length bs → F (column_at bs i) ≡ pos 0) → weighed ks bs F ≡ pos 0
unfolding weighed
weighed_zeros [] bs F h = refl
weighed_zeros (k ∷ ks) [] F h = refl
weighed_zeros (k ∷ ks) (b ∷ bs) F h =
    let here : k *ℤ F b ≡ pos 0 = ap (λ z. k *ℤ z) (h 0 (omega arith)) ∙ omega (arith, ints) in
    let rest = weighed_zeros ks bs F (λ i lt. h (suc i) (omega arith)) in
    omega (arith, ints)

weighed_single : (ks : List ℤ) (bs : List Column) (F : Column → ℤ) (j : ℕ) → length ks ≡ length bs → j < length bs → ((i : ℕ) → i < length bs → i ≢ j → F (column_at bs i) ≡ pos 0)
    → weighed ks bs F ≡ get_or ks j (pos 0) *ℤ F (column_at bs j)
unfolding weighed
weighed_single ks [] F j e lt h = absurd (omega arith)
weighed_single [] (b ∷ bs) F j e lt h = absurd (omega arith)
weighed_single (k ∷ ks) (b ∷ bs) F zero e lt h =
    let rest = weighed_zeros ks bs F (λ i l. h (suc i) (omega arith) (λ s. absurd (omega arith))) in
    omega (arith, ints)
weighed_single (k ∷ ks) (b ∷ bs) F (suc j) e lt h =
    let here : k *ℤ F b ≡ pos 0 = ap (λ z. k *ℤ z) (h 0 (omega arith) (λ s. absurd (omega arith))) ∙ omega (arith, ints) in
    let rest = weighed_single ks bs F j (omega arith) (omega arith) (λ i l apart. h (suc i) (omega arith) (λ s. apart (omega arith))) in
    omega (arith, ints)

past_the_end : (ks : List ℤ) (j : ℕ) → length ks ≤ j → get_or ks j (pos 0) ≡ pos 0
past_the_end [] zero le = refl
past_the_end [] (suc j) le = refl
past_the_end (k ∷ ks) zero le = absurd (omega arith)
past_the_end (k ∷ ks) (suc j) le = past_the_end ks j (omega arith)

-- the body equation of a column tells how often it is taken
pub independent : (n : ℕ) (basis : List Column) (rows : ℕ → List ℤ) → IsRows n basis rows → AreIndependent n basis
independent n basis rows is ks high covered j = by_cases (cases_lt j n)
  where
    by_cases : (j < n) ⊎ (n ≤ j) → get_or ks j (pos 0) ≡ pos 0
    by_cases (inr le) = past_the_end ks j (let e = is.count in omega arith)
    by_cases (inl lt) =
        let count = is.count in
        let body = is.bodies j lt in
        let none = weighed_uncovered 0 (rows j) ks basis (λ c l. let e : c ≡ 0 + c = omega arith in ap (covering ks basis) (sym e) ∙ covered c (let w = body.whole in omega arith)) in
        let one = weighed_single ks basis (λ b. entry (rows j) b) j high (omega arith) (λ i l apart. body.others i (omega arith) apart) in
        let product : entry (rows j) (column_at basis j) *ℤ get_or ks j (pos 0) ≡ pos 0 = *ℤ_comm (entry (rows j) (column_at basis j)) (get_or ks j (pos 0)) ∙ sym one ∙ none in
        zero_times (entry (rows j) (column_at basis j)) (get_or ks j (pos 0)) body.own product

pub is_basis : (n : ℕ) (basis : List Column) (rows : ℕ → List ℤ) → IsRows n basis rows → IsBasis n basis
is_basis n basis rows is = record { count = is.count; independent = independent n basis rows is }
