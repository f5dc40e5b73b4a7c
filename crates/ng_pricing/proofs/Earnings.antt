-- What is earned where the price of one customer is another one.
use Rattle.std.proofs.Common.{◌≡◌, ◌∙◌, ℕ, zero, suc, ◌+◌, ◌-◌, ◌*◌, ◌<◌, ◌≤◌, refl, sym, ap, List, [], ◌∷◌, ◌++◌, drop, get_or, length, length-drop, replicate, set, take, arith, inl, inr}
use Rattle.std.specs.Prelude.{nat_eq, if◌then◌else◌}
use Rattle.std.proofs.lemmas.Bool.{cases_eq, eq-eqb, ne_eqb}
use Rattle.std.proofs.lemmas.List.{drop-set, ext_get_or, get_or-drop, get_or-set_other, get_or-set_same, set-get_or, take-append-drop, take-set, take-set-le}
use Rattle.std.proofs.lemmas.List.Sums.{sum_by-cons}
use Rattle.ev_model.specs.Fleet.{times_in}
use Rattle.near_proof.specs.Terms.{earned_by, price_of}
use Rattle.ng_pricing.specs.Rising.{begun_from, begun_with}

-- ---- one price between others
price_between : (prices rest : List ℕ) (c price i : ℕ) → c < length prices → price_of (take c prices ++ price ∷ rest) i ≡ price_of (take c prices ++ 0 ∷ rest) i + (if nat_eq i c then price else 0)
price_between [] rest c price i less = absurd (omega (arith, less))
price_between (p ∷ ps) rest zero price zero less = omega arith
price_between (p ∷ ps) rest zero price (suc i) less = rw (ne_eqb (suc i) 0 (λ e. omega (arith, e))) (omega arith)
price_between (p ∷ ps) rest (suc c) price zero less = rw (ne_eqb 0 (suc c) (λ e. omega (arith, e))) (omega arith)
price_between (p ∷ ps) rest (suc c) price (suc i) less =
    let found = price_between ps rest c price i (omega (arith, less)) in
    elim (cases_eq i c) [
      | inl same ↦ rw (eq-eqb (suc i) (suc c) (ap suc same)) (rw (eq-eqb i c same) at found)
      | inr apart ↦ rw (ne_eqb (suc i) (suc c) (λ e. apart (omega (arith, e)))) (rw (ne_eqb i c apart) at found)
    ]

earned_between : (prices rest : List ℕ) (c price : ℕ) (cs : List ℕ) → c < length prices → earned_by (take c prices ++ price ∷ rest) cs ≡ earned_by (take c prices ++ 0 ∷ rest) cs + times_in cs c * price
earned_between prices rest c price [] less = omega arith
earned_between prices rest c price (i ∷ is) less =
    let further = earned_between prices rest c price is less in
    let first = price_between prices rest c price i less in
    let more = sum_by-cons (price_of (take c prices ++ price ∷ rest)) i is in
    let base = sum_by-cons (price_of (take c prices ++ 0 ∷ rest)) i is in
    elim (cases_eq i c) [
      | inl same ↦ (let one = rw (eq-eqb i c same) at first in rw (eq-eqb i c same) (omega (arith, further, one, more, base)))
      | inr apart ↦ (let none = rw (ne_eqb i c apart) at first in rw (ne_eqb i c apart) (omega (arith, further, none, more, base)))
    ]

-- ---- a price that is set
set_between : (prices : List ℕ) (c price : ℕ) → c < length prices → set prices c price ≡ take c prices ++ price ∷ drop (c + 1) prices
set_between prices c price less =
    let parts = take-append-drop c (set prices c price) in
    sym parts ∙ ap (λ front. front ++ drop c (set prices c price)) (take-set prices c price) ∙ ap (λ back. take c prices ++ back) (drop-set prices c price less)

pub earned_at : (prices : List ℕ) (c price : ℕ) (cs : List ℕ) → c < length prices → earned_by (set prices c price) cs ≡ earned_by (set prices c 0) cs + times_in cs c * price
earned_at prices c price cs less =
    ap (λ of. earned_by of cs) (set_between prices c price less) ∙ earned_between prices (drop (c + 1) prices) c price cs less
    ∙ ap (λ of. earned_by of cs + times_in cs c * price) (sym (set_between prices c 0 less))

pub earned_set : (prices : List ℕ) (c price : ℕ) (cs : List ℕ) → c < length prices → get_or prices c 0 ≡ 0 → earned_by (set prices c price) cs ≡ earned_by prices cs + times_in cs c * price
earned_set prices c price cs less free =
    let same : set prices c 0 ≡ prices = ap (set prices c) (sym free) ∙ set-get_or prices c 0 in
    earned_at prices c price cs less ∙ ap (λ of. earned_by of cs + times_in cs c * price) same

-- ---- the prices before, and those to begin with behind
same_behind : (xs ys : List ℕ) (n : ℕ) → length xs ≡ length ys → ((j : ℕ) → n ≤ j → get_or xs j 0 ≡ get_or ys j 0) → drop n xs ≡ drop n ys
same_behind xs ys n long same =
    ext_get_or 0 (drop n xs) (drop n ys) (length-drop n xs ∙ ap (λ m. m - n) long ∙ sym (length-drop n ys))
    (λ i less. get_or-drop n xs i 0 ∙ same (n + i) (omega arith) ∙ sym (get_or-drop n ys i 0))

pub from_set : (base prices : List ℕ) (c price : ℕ) → c < length prices → length base ≡ length prices → ((j : ℕ) → c + 1 ≤ j → get_or prices j 0 ≡ get_or base j 0) → begun_from base prices c price ≡ set prices c price
from_set base prices c price less long later =
    ap (λ back. take c prices ++ price ∷ back) (sym (same_behind prices base (c + 1) (sym long) later)) ∙ sym (set_between prices c price less)

-- later prices don't matter
pub from_before : (base prices : List ℕ) (c price other x : ℕ) → c < other → begun_from base (set prices other x) c price ≡ begun_from base prices c price
from_before base prices c price other x less =
    ap (λ front. front ++ price ∷ drop (c + 1) base) (take-set-le c prices other x (omega (arith, less)))

pub from_earned : (base prices : List ℕ) (c price : ℕ) (cs : List ℕ) → c < length prices → earned_by (begun_from base prices c price) cs ≡ earned_by (begun_from base prices c 0) cs + times_in cs c * price
from_earned base prices c price cs less = earned_between prices (drop (c + 1) base) c price cs less

-- ---- lower prices earn no more
pub earned_less : (prices others : List ℕ) (cs : List ℕ) → ((i : ℕ) → price_of prices i ≤ price_of others i) → earned_by prices cs ≤ earned_by others cs
earned_less prices others [] lower = omega arith
earned_less prices others (i ∷ is) lower =
    let further = earned_less prices others is lower in
    let a = sum_by-cons (price_of prices) i is in
    let b = sum_by-cons (price_of others) i is in
    omega (arith, further, lower i, a, b)

front_is_lower : (prices rest : List ℕ) (c i : ℕ) → c < length prices → ((j k : ℕ) → k ≡ c + 1 + j → get_or rest j 0 ≤ get_or prices k 0) → price_of (take c prices ++ get_or prices c 0 ∷ rest) i ≤ price_of prices i
front_is_lower [] rest c i less lower = absurd (omega (arith, less))
front_is_lower (p ∷ ps) rest zero zero less lower = omega arith
front_is_lower (p ∷ ps) rest zero (suc i) less lower = lower i (suc i) (omega arith)
front_is_lower (p ∷ ps) rest (suc c) zero less lower = omega arith
front_is_lower (p ∷ ps) rest (suc c) (suc i) less lower = front_is_lower ps rest c i (omega (arith, less)) (λ j k at. lower j (suc k) (omega (arith, at)))

pub from_earns_less : (base prices : List ℕ) (c : ℕ) (cs : List ℕ) → c < length prices → ((j : ℕ) → get_or base j 0 ≤ get_or prices j 0) → earned_by (begun_from base prices c (get_or prices c 0)) cs ≤ earned_by prices cs
from_earns_less base prices c cs less above =
    earned_less (begun_from base prices c (get_or prices c 0)) prices cs
    (λ i. front_is_lower prices (drop (c + 1) base) c i less (λ j k at. (let whole = get_or-drop (c + 1) base j 0 in let there = ap (λ m. get_or base m 0) at in omega (arith, whole, there, above k))))

-- a price that is set no higher than it was
pub set_within : (prices : List ℕ) (c price i : ℕ) → c < length prices → price ≤ get_or prices c 0 → price_of (set prices c price) i ≤ price_of prices i
set_within prices c price i less low = elim (cases_eq i c) [
  | inl same ↦
      let now = ap (λ k. get_or (set prices c price) k 0) same ∙ get_or-set_same prices c price 0 less in
      let before = ap (λ k. get_or prices k 0) same in
      omega (arith, now, before, low)
  | inr apart ↦ (let other = get_or-set_other prices c i price 0 apart in omega (arith, other))
]

-- the same price, set among others that are no lower
pub set_below : (prices others : List ℕ) (c price i : ℕ) → c < length prices → c < length others → ((j : ℕ) → get_or prices j 0 ≤ get_or others j 0) → price_of (set prices c price) i ≤ price_of (set others c price) i
set_below prices others c price i less room lower = elim (cases_eq i c) [
  | inl same ↦
      let a = ap (λ k. get_or (set prices c price) k 0) same ∙ get_or-set_same prices c price 0 less in
      let b = ap (λ k. get_or (set others c price) k 0) same ∙ get_or-set_same others c price 0 room in
      omega (arith, a, b)
  | inr apart ↦
      let a = get_or-set_other prices c i price 0 apart in
      let b = get_or-set_other others c i price 0 apart in
      omega (arith, a, b, lower i)
]

-- ---- prices of 0
abbrev pub zeros : ℕ → List ℕ
zeros n = replicate n 0

pub nothing_at : (n i : ℕ) → get_or (zeros n) i 0 ≡ 0
nothing_at zero i = refl
nothing_at (suc n) zero = refl
nothing_at (suc n) (suc i) = nothing_at n i

pub earned_nothing : (n : ℕ) (cs : List ℕ) → earned_by (zeros n) cs ≡ 0
earned_nothing n [] = refl
earned_nothing n (i ∷ is) = omega (arith, earned_nothing n is, nothing_at n i, sum_by-cons (price_of (zeros n)) i is)

pub length_nothing : (n : ℕ) → length (zeros n) ≡ n
length_nothing zero = refl
length_nothing (suc n) = ap suc (length_nothing n)

pub nothing_but : (prices : List ℕ) → ((c : ℕ) → get_or prices c 0 ≡ 0) → prices ≡ zeros (length prices)
nothing_but [] none = refl
nothing_but (p ∷ ps) none = ap (λ q. q ∷ ps) (none 0) ∙ ap (λ qs. 0 ∷ qs) (nothing_but ps (λ c. none (suc c)))

-- those to begin with are 0
pub from_nothing : (prices : List ℕ) (c price n : ℕ) → n ≡ length prices → begun_from (zeros n) prices c price ≡ begun_with prices c price
from_nothing prices c price n same =
    let behind = nothing_but (drop (c + 1) (zeros n)) (λ i. get_or-drop (c + 1) (zeros n) i 0 ∙ nothing_at n (c + 1 + i)) in
    let long : length (drop (c + 1) (zeros n)) ≡ length prices - suc c = omega (arith, length-drop (c + 1) (zeros n), length_nothing n, same) in
    ap (λ back. take c prices ++ price ∷ back) (behind ∙ ap zeros long)
