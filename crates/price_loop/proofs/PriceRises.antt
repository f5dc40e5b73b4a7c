-- How prices rise one by one.
use Rattle.std.proofs.Common.{◌≡◌, ◌∙◌, ℕ, zero, suc, ◌+◌, ◌*◌, ◌<◌, ◌≤◌, ◌⊎◌, inl, inr, arith, refl, sym, ap, subst, List, [], ◌∷◌, ◌++◌, length, length-set, get_or, set, take}
use Rattle.std.proofs.Math.Seq.{take-suc-set}
use Rattle.std.proofs.lemmas.Bool.{cases_eq, cases_lt, eq-eqb, ne_eqb}
use Rattle.std.proofs.lemmas.List.{get_or-set_other, get_or-set_same, get_or-take, take-set, take-set-le}
use Rattle.ev_model.specs.Fleet.{times_in}
use Rattle.price_loop.specs.Problems.{Problem, worth}
use Rattle.price_loop.specs.Rising.{AreFixed, ArePayable, CostLess, HasExcess, IsFixed, StandsNowhere}

-- no route serves a customer twice
abbrev pub AreOnce : {R C : Type 0} → Problem R C → Type 0
AreOnce {R} q = (r : R) → q.is_route r → (c : ℕ) → times_in (q.served r) c ≤ 1

-- ---- worth by prices
pub worth_same : (xs ys cs : List ℕ) → ((j : ℕ) → get_or xs j 0 ≡ get_or ys j 0) → worth xs cs ≡ worth ys cs
worth_same xs ys [] same = refl
worth_same xs ys (c ∷ cs) same = omega (arith, same c, worth_same xs ys cs same)

pub past_end : (xs : List ℕ) (j : ℕ) → length xs ≤ j → get_or xs j 0 ≡ 0
past_end [] zero le = refl
past_end [] (suc j) le = refl
past_end (x ∷ xs) zero le = absurd (omega (arith, le))
past_end (x ∷ xs) (suc j) le = past_end xs j (omega (arith, le))

short : (k : ℕ) (xs : List ℕ) → length (take k xs) ≤ k
short zero xs = omega arith
short (suc k) [] = omega arith
short (suc k) (x ∷ xs) = omega (arith, short k xs)

-- the first numbers, where the later ones are 0
take_same : (k : ℕ) (xs : List ℕ) → ((j : ℕ) → k ≤ j → get_or xs j 0 ≡ 0) → (j : ℕ) → get_or (take k xs) j 0 ≡ get_or xs j 0
take_same k xs none j = elim (cases_lt j k) [
  | inl less ↦ get_or-take k xs j 0 less
  | inr more ↦ past_end (take k xs) j (omega (arith, short k xs, more)) ∙ sym (none j more)
]

pub worth_set : (xs : List ℕ) (c y : ℕ) → c < length xs → get_or xs c 0 ≡ 0 → (cs : List ℕ) → worth (set xs c y) cs ≡ worth xs cs + times_in cs c * y
worth_set xs c y less none [] = omega arith
worth_set xs c y less none (a ∷ cs) =
    let rest = worth_set xs c y less none cs in
    elim (cases_eq a c) [
      | inl same ↦
          let here : get_or (set xs c y) a 0 ≡ y = ap (λ j. get_or (set xs c y) j 0) same ∙ get_or-set_same xs c y 0 less in
          let was : get_or xs a 0 ≡ 0 = ap (λ j. get_or xs j 0) same ∙ none in
          rw (eq-eqb a c same) (omega (arith, rest, here, was))
      | inr apart ↦
          let here = get_or-set_other xs c a y 0 apart in
          rw (ne_eqb a c apart) (omega (arith, rest, here))
    ]

zero_or_one : (k : ℕ) → k ≤ 1 → (k ≡ 0) ⊎ (k ≡ 1)
zero_or_one zero le = inl refl
zero_or_one (suc zero) le = inr refl
zero_or_one (suc (suc k)) le = absurd (omega (arith, le))

-- ---- a price in hand
module _ {R C : Type 0} (q : Problem R C) (once : AreOnce q) (xs : List ℕ) (c : ℕ) (less : c < length xs) (none : get_or xs c 0 ≡ 0) (before : ArePayable q 1 xs) where
  -- a route that earns has the customer, and no higher price than the lowered one can be paid
  pub falls : (x d : ℕ) → HasExcess q (set xs c x) d → (d ≤ x) × ((y : ℕ) → ArePayable q 1 (set xs c y) → y + d ≤ x)
  falls x d e =
      let cs = q.served e.route in
      let now = worth_set xs c x less none cs in
      let base = before e.route e.is_route in
      let more = e.more in
      let some = e.some in
      elim (zero_or_one (times_in cs c) (once e.route e.is_route c)) [
        | inl zero_times ↦
            let same : worth (set xs c x) cs ≡ worth xs cs + 0 * x = now ∙ ap (λ k. worth xs cs + k * x) zero_times in
            absurd (omega (arith, same, base, more, some))
        | inr one_time ↦
            let same : worth (set xs c x) cs ≡ worth xs cs + 1 * x = now ∙ ap (λ k. worth xs cs + k * x) one_time in (
              omega (arith, same, base, more),
              λ y paid.
                  let other : worth (set xs c y) cs ≡ worth xs cs + 1 * y = worth_set xs c y less none cs ∙ ap (λ k. worth xs cs + k * y) one_time in
                  let there = paid e.route e.is_route in
                  omega (arith, same, base, more, other, there),
            )
      ]

  -- where no route earns even at a price above the limit, none has the customer
  pub nowhere : (top x : ℕ) → CostLess q top → top ≤ x → ArePayable q 1 (set xs c x) → StandsNowhere q c
  nowhere top x less_than above paid r is =
      let cs = q.served r in
      let now = worth_set xs c x less none cs in
      let there = paid r is in
      let in_time = less_than r is in
      elim (zero_or_one (times_in cs c) (once r is c)) [
        | inl zero_times ↦ zero_times
        | inr one_time ↦
            let same : worth (set xs c x) cs ≡ worth xs cs + 1 * x = now ∙ ap (λ k. worth xs cs + k * x) one_time in
            absurd (omega (arith, same, there, in_time, above))
      ]

none_moves : {R C : Type 0} (q : Problem R C) (weight : ℕ) (xs ys : List ℕ) → ((j : ℕ) → get_or xs j 0 ≡ get_or ys j 0) → ArePayable q weight xs → ArePayable q weight ys
none_moves q weight xs ys same paid r is = subst (λ k. k ≤ weight * q.cost r) (worth_same xs ys (q.served r) same) (paid r is)

-- ---- one customer more is fixed
module _ {R C : Type 0} (q : Problem R C) (xs : List ℕ) (c : ℕ) (less : c < q.customers) (are : AreFixed q xs c) where
  inside : c < length xs
  inside = omega (arith, less, are.count)

  later_set : (y j : ℕ) → suc c ≤ j → get_or (set xs c y) j 0 ≡ 0
  later_set y j more = get_or-set_other xs c j y 0 (λ e. omega (arith, e, more)) ∙ are.later j (omega (arith, more))

  earlier : (x j : ℕ) → j < c → IsFixed q xs j → IsFixed q (set xs c x) j
  earlier x j lt is =
      let first = take-set-le (suc j) xs c x (omega (arith, lt)) in
      let front = take-set-le j xs c x (omega (arith, lt)) in
      let price = get_or-set_other xs c j x 0 (λ e. omega (arith, e, lt)) in
      record {
        payable = subst (λ ys. ArePayable q 1 ys) (sym first) is.payable;
        greatest = λ y paid.
            let was = is.greatest y (subst (λ ys. ArePayable q 1 (ys ++ y ∷ [])) front paid) in
            omega (arith, was, price);
      }

  here : (x : ℕ) → ArePayable q 1 (set xs c x) → ((y : ℕ) → ArePayable q 1 (set xs c y) → y ≤ x) → IsFixed q (set xs c x) c
  here x paid most = record {
    payable = none_moves q 1 (set xs c x) (take (suc c) (set xs c x)) (λ j. sym (take_same (suc c) (set xs c x) (later_set x) j)) paid;
    greatest = λ y paid_y.
        let front : take c (set xs c x) ++ y ∷ [] ≡ take (suc c) (set xs c y) = ap (λ ys. ys ++ y ∷ []) (take-set xs c x) ∙ sym (take-suc-set xs c y inside) in
        let there = subst (λ ys. ArePayable q 1 ys) front paid_y in
        let whole = none_moves q 1 (take (suc c) (set xs c y)) (set xs c y) (take_same (suc c) (set xs c y) (later_set y)) there in
        let price = get_or-set_same xs c x 0 inside in
        omega (arith, most y whole, price);
  }

  pub fixed_next : (x : ℕ) → ArePayable q 1 (set xs c x) → ((y : ℕ) → ArePayable q 1 (set xs c y) → y ≤ x) → AreFixed q (set xs c x) (c + 1)
  fixed_next x paid most = record {
    count = length-set xs c x ∙ are.count;
    fixed = λ j lt. elim (cases_eq j c) [
      | inl same ↦ subst (λ k. IsFixed q (set xs c x) k) (sym same) (here x paid most)
      | inr apart ↦ (let below : j < c = omega (arith, lt, apart) in earlier x j below (are.fixed j below))
    ];
    later = λ j more. later_set x j (omega (arith, more));
    payable = paid;
  }

-- ---- the steps of the loop
module _ {R C : Type 0} (q : Problem R C) (once : AreOnce q) (xs : List ℕ) (c : ℕ) (less : c < q.customers) (are : AreFixed q xs c) (of : List ℕ) (x : ℕ) (now : of ≡ set xs c x) where
  room : c < length xs
  room = omega (arith, less, are.count)

  none_here : get_or xs c 0 ≡ 0
  none_here = are.later c (omega arith)

  pub excess_within : (d : ℕ) → HasExcess q of d → d ≤ x
  excess_within d e = (falls q once xs c room none_here are.payable x d (subst (λ ys. HasExcess q ys d) now e)).0

  pub lowered : (d after : ℕ) → HasExcess q of d → after + d ≡ x → (y : ℕ) → ArePayable q 1 (set xs c y) → y ≤ after
  lowered d after e falls_by y paid =
      let most = (falls q once xs c room none_here are.payable x d (subst (λ ys. HasExcess q ys d) now e)).1 y paid in
      omega (arith, most, falls_by)

  pub ends_fixed : ArePayable q 1 of → ((y : ℕ) → ArePayable q 1 (set xs c y) → y ≤ x) → AreFixed q of (c + 1)
  ends_fixed paid most = subst (λ ys. AreFixed q ys (c + 1)) (sym now) (fixed_next q xs c less are x (subst (λ ys. ArePayable q 1 ys) now paid) most)

  pub ends_nowhere : (top : ℕ) → CostLess q top → ArePayable q 1 of → x ≡ top → StandsNowhere q c
  ends_nowhere top less_than paid above = nowhere q once xs c room none_here are.payable top x less_than (omega (arith, above)) (subst (λ ys. ArePayable q 1 ys) now paid)

-- ---- prices of 0

pub worth_nothing : (xs cs : List ℕ) → ((j : ℕ) → get_or xs j 0 ≡ 0) → worth xs cs ≡ 0
worth_nothing xs [] none = refl
worth_nothing xs (c ∷ cs) none = omega (arith, none c, worth_nothing xs cs none)
