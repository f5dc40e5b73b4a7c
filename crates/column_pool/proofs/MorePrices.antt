-- One price more, and what customers then pay.
use Rattle.std.proofs.Common.{◌≡◌, ◌≢◌, ◌∙◌, ℕ, zero, suc, ◌+◌, ◌-◌, ◌*◌, ◌<◌, ◌≤◌, refl, sym, ap, arith, List, [], ◌∷◌, ◌++◌, get_or, length, inl, inr, ℤ, pos, ◌+ℤ◌, ◌≤ℤ◌}
use Rattle.std.specs.Prelude.{replicate}
use Rattle.std.proofs.Math.Nat.{mul-le-mul_left}
use Rattle.std.proofs.lemmas.Bool.{cases_eq, cases_lt, eq-eqb, ne_eqb}
use Rattle.std.proofs.lemmas.Int.{ints}
use Rattle.std.proofs.lemmas.List.{get_or_append_left, get_or-append_right, get_or-replicate, get_or-set_other, get_or_past, length-append, length-replicate, length-set}
use Rattle.std.specs.List.{All}
use Rattle.std.proofs.lemmas.List.Elements.{All-replicate, All-set}
use Rattle.ev_model.specs.Fleet.{times_in}
use Rattle.bound_certificate.specs.Ranges.{IsPrice}
use Rattle.fleet_model.specs.Prices.{price_of, price_sum, price_total}
use Rattle.column_pool.specs.Chains.{lone_price}

-- ---- prices with one more
module _ (prices : List ℤ) (z : ℤ) where
  abbrev more : List ℤ
  more = prices ++ z ∷ []

  longer : length more ≡ length prices + 1
  longer = length-append prices (z ∷ [])

  price_at : price_of more (length prices) ≡ z
  price_at =
      let none : length prices - length prices ≡ 0 = omega arith in
      get_or-append_right prices (z ∷ []) (length prices) (length prices) (pos 0) refl (omega arith) ∙ ap (λ k. get_or (z ∷ []) k (pos 0)) none

  price_other : (c : ℕ) → c ≢ length prices → price_of more c ≡ price_of prices c
  price_other c apart = elim (cases_lt c (length prices)) [
    | inl less ↦ get_or_append_left prices (z ∷ []) (pos 0) c less
    | inr past ↦ get_or_past more c (pos 0) (let l = longer in omega (arith, l, past, apart)) ∙ sym (get_or_past prices c (pos 0) past)
  ]

  -- others pay what they did
  pub sum_other : (cs : List ℕ) → times_in cs (length prices) ≡ 0 → price_sum more cs ≡ price_sum prices cs
  sum_other [] none = refl
  sum_other (c ∷ cs) none = elim (cases_eq c (length prices)) [
    | inl same ↦ absurd (let one : 1 + times_in cs (length prices) ≡ 0 = rw (eq-eqb c (length prices) same) at none in omega (arith, one))
    | inr apart ↦
        let rest = sum_other cs (omega (arith, none)) in
        let first = price_other c apart in
        λ i. first i +ℤ rest i
  ]

  pub sum_more : price_total more ≡ price_total prices +ℤ z
  sum_more = sum_from prices
    where
      sum_from : (ps : List ℤ) → price_total (ps ++ z ∷ []) ≡ price_total ps +ℤ z
      sum_from [] = omega (arith, ints)
      sum_from (p ∷ ps) = let rest = sum_from ps in omega (arith, ints, rest)

-- nobody pays more for a price of 0
pub sum_free : (prices : List ℤ) (cs : List ℕ) → price_sum (prices ++ pos 0 ∷ []) cs ≡ price_sum prices cs
sum_free prices [] = refl
sum_free prices (c ∷ cs) =
    let rest = sum_free prices cs in
    let first : price_of (prices ++ pos 0 ∷ []) c ≡ price_of prices c = elim (cases_eq c (length prices)) [
      | inl same ↦ ap (price_of (prices ++ pos 0 ∷ [])) same ∙ price_at prices (pos 0) ∙ sym (get_or_past prices c (pos 0) (omega (arith, same)))
      | inr apart ↦ price_other prices (pos 0) c apart
    ] in
    λ i. first i +ℤ rest i

-- numbers from one on
abbrev pub AreFrom : ℕ → List ℕ → Type 0
AreFrom n [] = Unit {0}
AreFrom n (c ∷ cs) = (n ≤ c) × AreFrom n cs

module _ (prices : List ℤ) (t : ℕ) where
  -- those behind the prices pay the new price alone
  pays_times : (cs : List ℕ) → AreFrom (length prices) cs → price_sum (prices ++ pos t ∷ []) cs ≤ℤ pos (t * times_in cs (length prices))
  pays_times [] from = omega (arith, ints)
  pays_times (c ∷ cs) from =
      let rest = pays_times cs from.1 in
      elim (cases_eq c (length prices)) [
        | inl same ↦
            let first : price_of (prices ++ pos t ∷ []) c ≡ pos t = ap (price_of (prices ++ pos t ∷ [])) same ∙ price_at prices (pos t) in
            let parts : t * (1 + times_in cs (length prices)) ≡ t + t * times_in cs (length prices) = omega arith in
            rw (eq-eqb c (length prices) same, first, parts) (omega (arith, ints, rest))
        | inr apart ↦
            let first : price_of (prices ++ pos t ∷ []) c ≡ pos 0 = price_other prices (pos t) c apart ∙ get_or_past prices c (pos 0) from.0 in
            let parts : t * (0 + times_in cs (length prices)) ≡ t * times_in cs (length prices) = omega arith in
            rw (ne_eqb c (length prices) apart, first, parts) (omega (arith, ints, rest))
      ]

  pub pays_once : (cs : List ℕ) → AreFrom (length prices) cs → times_in cs (length prices) ≤ 1 → price_sum (prices ++ pos t ∷ []) cs ≤ℤ pos t
  pays_once cs from few =
      let all = pays_times cs from in
      let most : t * times_in cs (length prices) ≤ t * 1 = mul-le-mul_left t few in
      let small : t * times_in cs (length prices) ≤ t = omega (arith, most) in
      omega (arith, ints, all, small)

-- ---- a price for one customer alone
free_sum : (n : ℕ) → price_total (replicate n (pos 0)) ≡ pos 0
free_sum zero = refl
free_sum (suc n) = let rest = free_sum n in rw rest refl

pub lone_sum : (n k : ℕ) → k < n → price_total (lone_price n k) ≡ pos 1
lone_sum zero k less = absurd (omega (arith, less))
lone_sum (suc n) zero less = let rest = free_sum n in rw rest refl
lone_sum (suc n) (suc k) less = let rest = lone_sum n k (omega (arith, less)) in rw rest refl

lone_other : (n k c : ℕ) → c ≢ k → price_of (lone_price n k) c ≡ pos 0
lone_other n k c apart = get_or-set_other (replicate n (pos 0)) k c (pos 1) (pos 0) apart ∙ elim (cases_lt c n) [
  | inl less ↦ get_or-replicate n c (pos 0) (pos 0) less
  | inr past ↦ get_or_past (replicate n (pos 0)) c (pos 0) (let l = length-replicate n (pos 0) in omega (arith, l, past))
]

pub lone_pays : (n k : ℕ) (cs : List ℕ) → times_in cs k ≡ 0 → price_sum (lone_price n k) cs ≡ pos 0
lone_pays n k [] none = refl
lone_pays n k (c ∷ cs) none = elim (cases_eq c k) [
  | inl same ↦ absurd (let one : 1 + times_in cs k ≡ 0 = rw (eq-eqb c k same) at none in omega (arith, one))
  | inr apart ↦
      let rest = lone_pays n k cs (omega (arith, none)) in
      let first = lone_other n k c apart in
      rw (first, rest) refl
]

pub lone_small : (n k : ℕ) → All IsPrice (lone_price n k)
lone_small n k = All-set IsPrice (replicate n (pos 0)) k (pos 1) (omega arith) (All-replicate IsPrice n (pos 0) (omega arith))

pub lone_length : (n k : ℕ) → length (lone_price n k) ≡ n
lone_length n k = length-set (replicate n (pos 0)) k (pos 1) ∙ length-replicate n (pos 0)
