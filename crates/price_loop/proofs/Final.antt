-- Prices at the beginning and at the end, and what a search tells of whole prices.
use Rattle.std.proofs.Common.{◌≡◌, ◌∙◌, ℕ, zero, suc, inl, inr, ◌+◌, ◌*◌, ◌<◌, arith, refl, sym, ap, subst, List, [], ◌∷◌, length, get_or, set, map, replicate, ℤ, pos}
use Rattle.std.specs.List.{All}
use Rattle.std.proofs.lemmas.Int.{ints}
use Rattle.std.proofs.lemmas.Bool.{cases_lt}
use Rattle.std.proofs.lemmas.List.{get_or-replicate}
use Rattle.fleet_model.specs.Prices.{price_of, price_sum}
use Rattle.price_loop.specs.Problems.{IsEarning, NoneEarns, Problem, worth}
use Rattle.price_loop.specs.Rising.{AreFixed, ArePayable, StandsNowhere}
use Rattle.price_loop.proofs.PriceRises.{past_end, worth_nothing, worth_set}

-- ---- whole prices
pub price_of_whole : (xs : List ℕ) (c : ℕ) → price_of (map pos xs) c ≡ pos (get_or xs c 0)
price_of_whole [] zero = refl
price_of_whole [] (suc c) = refl
price_of_whole (x ∷ xs) zero = refl
price_of_whole (x ∷ xs) (suc c) = price_of_whole xs c

pub price_sum_whole : (xs cs : List ℕ) → price_sum (map pos xs) cs ≡ pos (worth xs cs)
price_sum_whole xs [] = refl
price_sum_whole xs (c ∷ cs) =
    let here = price_of_whole xs c in
    let rest = price_sum_whole xs cs in
    omega (arith, ints, here, rest)

module _ {R C : Type 0} (q : Problem R C) (weight : ℕ) (of : List ℕ) (prices : List ℤ) (same : prices ≡ map pos of) where
  sum_is : (r : R) → price_sum prices (q.served r) ≡ pos (worth of (q.served r))
  sum_is r = ap (λ (ps : List ℤ). price_sum ps (q.served r)) same ∙ price_sum_whole of (q.served r)

  -- where none earns, the prices are payable
  pub payable : NoneEarns q weight prices → ArePayable q weight of
  payable none r is = let paid = none r is in let sum = sum_is r in omega (arith, ints, paid, sum)

  pub worth_more : (r : R) → IsEarning q weight prices r → weight * q.cost r < worth of (q.served r)
  worth_more r is = let more = is.earns in let sum = sum_is r in omega (arith, ints, more, sum)

  -- where the prices are payable, none earns
  pub none_better : (r : R) → IsEarning q weight prices r → ArePayable q weight of → ⊥
  none_better r is paid = let more = worth_more r is in let less = paid r is.route in absurd (omega (arith, more, less))

-- ---- no price yet
abbrev pub blank : ℕ → List ℕ
blank n = replicate n 0

pub length-blank : (n : ℕ) → length (blank n) ≡ n
length-blank zero = refl
length-blank (suc n) = ap suc (length-blank n)

zero_at : (n j : ℕ) → get_or (blank n) j 0 ≡ 0
zero_at n j = elim (cases_lt j n) [
  | inl less ↦ get_or-replicate n j 0 0 less
  | inr more ↦ past_end (blank n) j (let e = length-blank n in omega (arith, e, more))
]

module _ {R C : Type 0} (q : Problem R C) where
  -- no price is fixed at first
  pub none_fixed : (n : ℕ) → n ≡ q.customers → AreFixed q (blank n) 0
  none_fixed n same = record {
    count = length-blank n ∙ same;
    fixed = λ j less. absurd (omega (arith, less));
    later = λ j more. zero_at n j;
    payable = λ r is. (let e = worth_nothing (blank n) (q.served r) (zero_at n) in omega (arith, e));
  }

  -- ---- a customer who stands on no route
  pub nowhere_payable : (c n : ℕ) (of : List ℕ) → n ≡ q.customers → c < q.customers → of ≡ set (blank n) c 1 → StandsNowhere q c → ArePayable q 0 of
  nowhere_payable c n of same within lone stands = subst (λ (xs : List ℕ). ArePayable q 0 xs) (sym lone) free
    where
      free : ArePayable q 0 (set (blank n) c 1)
      free r is =
          let cs = q.served r in
          let long = length-blank n in
          let put = worth_set (blank n) c 1 (omega (arith, same, within, long)) (zero_at n c) cs in
          let base = worth_nothing (blank n) cs (zero_at n) in
          let times = stands r is in
          let none : worth (set (blank n) c 1) cs ≡ worth (blank n) cs + 0 * 1 = put ∙ ap (λ k. worth (blank n) cs + k * 1) times in
          omega (arith, none, base)

-- what holds of each holds of the one at a place
pub holds_at : {X : Type 0} (P : X → Type 0) (xs : List X) (i : ℕ) (x : X) → i < length xs → x ≡ get_or xs i x → All P xs → P x
holds_at P xs i x less is all = subst P (sym is) (all i x less)
