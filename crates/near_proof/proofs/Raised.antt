-- What is earned where one price is one higher.
use Rattle.std.proofs.Common.{◌≡◌, ℕ, zero, suc, ◌+◌, ◌<◌, refl, ap, List, [], ◌∷◌, length, arith, inl, inr}
use Rattle.std.specs.Prelude.{nat_eq, if◌then◌else◌}
use Rattle.std.proofs.lemmas.Bool.{cases_eq, eq-eqb, ne_eqb}
use Rattle.std.proofs.lemmas.List.Sums.{sum_by-cons}
use Rattle.ev_model.specs.Fleet.{times_in}
use Rattle.near_proof.specs.Terms.{earned_by, price_of, raised}

raised_price : (prices : List ℕ) (c x : ℕ) → c < length prices → price_of (raised prices c) x ≡ price_of prices x + (if nat_eq x c then 1 else 0)
raised_price [] c x less = absurd (omega (arith, less))
raised_price (price ∷ prices) zero zero less = refl
raised_price (price ∷ prices) zero (suc x) less = rw (ne_eqb (suc x) 0 (λ e. omega (arith, e))) (omega arith)
raised_price (price ∷ prices) (suc c) zero less = rw (ne_eqb 0 (suc c) (λ e. omega (arith, e))) (omega arith)
raised_price (price ∷ prices) (suc c) (suc x) less =
    let rest = raised_price prices c x (omega (arith, less)) in
    elim (cases_eq x c) [
      | inl same ↦ rw (eq-eqb (suc x) (suc c) (ap suc same)) (rw (eq-eqb x c same) at rest)
      | inr apart ↦ rw (ne_eqb (suc x) (suc c) (λ e. apart (omega (arith, e)))) (rw (ne_eqb x c apart) at rest)
    ]

pub raised_earns : (prices : List ℕ) (c : ℕ) (cs : List ℕ) → c < length prices → earned_by (raised prices c) cs ≡ earned_by prices cs + times_in cs c
raised_earns prices c [] less = refl
raised_earns prices c (x ∷ xs) less =
    let rest = raised_earns prices c xs less in
    let first = raised_price prices c x less in
    omega (arith, rest, first, sum_by-cons (price_of (raised prices c)) x xs, sum_by-cons (price_of prices) x xs)
