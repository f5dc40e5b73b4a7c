-- What a listing of the chosen ones tells: which were chosen; and sets in rising order are the same where their members are.
use Rattle.std.proofs.Common.{◌≡◌, ◌≢◌, ◌∙◌, ℕ, zero, suc, ◌+◌, ◌<◌, ◌≤◌, Bool, true, false, ◌||◌, List, [], ◌∷◌, ◌++◌, get_or, nat_eq, if◌then◌else◌, ap, ap₂, arith, inl, inr, refl, subst, sym}
use Rattle.std.specs.List.Sorted.{IsStrictlyIncreasing}
use Rattle.std.proofs.lemmas.Bool.{cases_eq, eq-eqb, eqb-true, false≢true}
use Rattle.customer_sets.specs.CustSet.{has}

-- ---- of n things from a number on, the chosen ones

abbrev pub chosen : {A : Type 0} → (ℕ → Bool) → (ℕ → A) → ℕ → ℕ → List A
chosen is thing k zero = []
chosen is thing k (suc n) = (if is k then thing k ∷ [] else []) ++ chosen is thing (k + 1) n

head_or : {A : Type 0} → A → List A → A
head_or d [] = d
head_or d (x ∷ xs) = x

tail_of : {A : Type 0} → List A → List A
tail_of [] = []
tail_of (x ∷ xs) = xs

same_head : {A : Type 0} (x y : A) (xs ys : List A) → x ∷ xs ≡ y ∷ ys → x ≡ y
unfolding head_or
same_head x y xs ys same = ap (head_or x) same

same_tail : {A : Type 0} (x y : A) (xs ys : List A) → x ∷ xs ≡ y ∷ ys → xs ≡ ys
unfolding tail_of
same_tail x y xs ys same = ap tail_of same

some_is_not_none : {A : Type 0} (x : A) (xs : List A) → x ∷ xs ≡ [] → ⊥
some_is_not_none x xs same = cc

module _ {A : Type 0} (thing : ℕ → A) where
  -- a thing that differs from all that may be chosen is not listed first
  other_first : (is : ℕ → Bool) (x : A) (xs : List A) (k n : ℕ) → ((j : ℕ) → k ≤ j → j < k + n → x ≢ thing j) → x ∷ xs ≡ chosen is thing k n → ⊥
  other_first is x xs k zero other same = some_is_not_none x xs same
  other_first is x xs k (suc n) other same =
      by (is k) (other k (omega arith) (omega arith)) (λ later. other_first is x xs (k + 1) n (λ j from below. other j (omega (arith, from)) (omega (arith, below))) later) same
    where
      by : (here : Bool) → x ≢ thing k → (x ∷ xs ≡ chosen is thing (k + 1) n → ⊥) → x ∷ xs ≡ (if here then thing k ∷ [] else []) ++ chosen is thing (k + 1) n → ⊥
      by true apart later same = apart (same_head x (thing k) xs (chosen is thing (k + 1) n) same)
      by false apart later same = later same

  abbrev AreApart : ℕ → ℕ → Type 0
  AreApart k n = (i j : ℕ) → k ≤ i → i < j → j < k + n → thing i ≢ thing j

  fewer : (k n : ℕ) → AreApart k (suc n) → AreApart (k + 1) n
  fewer k n apart i j from less below = apart i j (omega (arith, from)) less (omega (arith, below))

  -- the same listing has the same chosen ones
  pub same_chosen : (is was : ℕ → Bool) (k n : ℕ) → AreApart k n → chosen is thing k n ≡ chosen was thing k n → (j : ℕ) → k ≤ j → j < k + n → is j ≡ was j
  same_chosen is was k zero apart same j from below = absurd (omega (arith, from, below))
  same_chosen is was k (suc n) apart same j from below =
      by (is k) (was k) refl refl (λ rests ne. same_chosen is was (k + 1) n (fewer k n apart) rests j (omega (arith, from, ne)) (omega (arith, below))) same
    where
      first_apart : (m : ℕ) → k + 1 ≤ m → m < (k + 1) + n → thing k ≢ thing m
      first_apart m from below = apart k m (omega arith) (omega (arith, from)) (omega (arith, below))

      step : (here : Bool) → is k ≡ here → was k ≡ here → (k ≢ j → is j ≡ was j) → is j ≡ was j
      step here first second later = elim (cases_eq k j) [
        | inl e ↦ subst (λ (m : ℕ). is m ≡ was m) e (first ∙ sym second)
        | inr ne ↦ later ne
      ]

      by : (here there : Bool) → is k ≡ here → was k ≡ there → (chosen is thing (k + 1) n ≡ chosen was thing (k + 1) n → k ≢ j → is j ≡ was j)
          → (if here then thing k ∷ [] else []) ++ chosen is thing (k + 1) n ≡ (if there then thing k ∷ [] else []) ++ chosen was thing (k + 1) n → is j ≡ was j
      by true true first second later lists = step true first second (later (same_tail (thing k) (thing k) (chosen is thing (k + 1) n) (chosen was thing (k + 1) n) lists))
      by false false first second later lists = step false first second (later lists)
      by true false first second later lists = absurd (other_first was (thing k) (chosen is thing (k + 1) n) (k + 1) n first_apart lists)
      by false true first second later lists = absurd (other_first is (thing k) (chosen was thing (k + 1) n) (k + 1) n first_apart (sym lists))

-- ---- sets

rest_rises : (x : ℕ) (xs : List ℕ) → IsStrictlyIncreasing (x ∷ xs) → IsStrictlyIncreasing xs
rest_rises x xs rises k within =
    let same : suc k + 1 ≡ suc (k + 1) = omega arith in
    subst (λ (n : ℕ). get_or (x ∷ xs) (suc k) 0 < get_or (x ∷ xs) n 0) same (rises (suc k) (omega (arith, within)))

-- whatever is a member is no less than the first
from_first : (x : ℕ) (xs : List ℕ) (c : ℕ) → IsStrictlyIncreasing (x ∷ xs) → has (x ∷ xs) c ≡ true → x ≤ c
from_first x [] c rises member = by (nat_eq x c) refl member
  where
    by : (here : Bool) → nat_eq x c ≡ here → has (x ∷ []) c ≡ true → x ≤ c
    by true is member = let same = eqb-true x c is in omega (arith, same)
    by false is member = absurd (false≢true (sym (ap (λ b. b || false) is) ∙ member))
from_first x (y ∷ ys) c rises member = by (nat_eq x c) refl (λ later. from_first y ys c (rest_rises x (y ∷ ys) rises) later)
  where
    by : (here : Bool) → nat_eq x c ≡ here → (has (y ∷ ys) c ≡ true → y ≤ c) → x ≤ c
    by true is above = let same = eqb-true x c is in omega (arith, same)
    by false is above =
        let later : has (y ∷ ys) c ≡ true = sym (ap (λ b. b || has (y ∷ ys) c) is) ∙ member in
        let least = above later in
        let next : x < y = rises 0 (omega arith) in
        omega (arith, least, next)

behind_first : (x : ℕ) (xs : List ℕ) (c : ℕ) → IsStrictlyIncreasing (x ∷ xs) → has xs c ≡ true → x < c
behind_first x [] c rises member = absurd (false≢true member)
behind_first x (y ∷ ys) c rises member =
    let above = from_first y ys c (rest_rises x (y ∷ ys) rises) member in
    let next : x < y = rises 0 (omega arith) in
    omega (arith, above, next)

first_is : (x : ℕ) (xs : List ℕ) → has (x ∷ xs) x ≡ true
first_is x xs = ap (λ b. b || has xs x) (eq-eqb x x refl)

not_itself : (x : ℕ) (xs : List ℕ) → IsStrictlyIncreasing (x ∷ xs) → has xs x ≡ false
not_itself x xs rises = by (has xs x) refl
  where
    by : (b : Bool) → has xs x ≡ b → has xs x ≡ false
    by true is = absurd (let above = behind_first x xs x rises is in omega (arith, above))
    by false is = is

-- sets in rising order with the same members are the same
pub same_set : (xs ys : List ℕ) → IsStrictlyIncreasing xs → IsStrictlyIncreasing ys → ((c : ℕ) → has xs c ≡ has ys c) → xs ≡ ys
same_set [] [] rises rise members = refl
same_set [] (y ∷ ys) rises rise members = absurd (false≢true (members y ∙ first_is y ys))
same_set (x ∷ xs) [] rises rise members = absurd (false≢true (sym (members x) ∙ first_is x xs))
same_set (x ∷ xs) (y ∷ ys) rises rise members =
    let low = from_first x xs y rises (members y ∙ first_is y ys) in
    let high = from_first y ys x rise (sym (members x) ∙ first_is x xs) in
    let heads : x ≡ y = omega (arith, low, high) in
    ap₂ (λ (z : ℕ) zs. z ∷ zs) heads (same_set xs ys (rest_rises x xs rises) (rest_rises y ys rise) (behind heads))
  where
    behind : x ≡ y → (c : ℕ) → has xs c ≡ has ys c
    behind heads c = by (nat_eq x c) refl
      where
        by : (here : Bool) → nat_eq x c ≡ here → has xs c ≡ has ys c
        by true is =
            let same = eqb-true x c is in
            let none : has xs c ≡ false = subst (λ (n : ℕ). has xs n ≡ false) same (not_itself x xs rises) in
            let no_other : has ys c ≡ false = subst (λ (n : ℕ). has ys n ≡ false) (sym heads ∙ same) (not_itself y ys rise) in
            none ∙ sym no_other
        by false is =
            let other : nat_eq y c ≡ false = subst (λ (n : ℕ). nat_eq n c ≡ false) heads is in
            sym (ap (λ b. b || has xs c) is) ∙ members c ∙ ap (λ b. b || has ys c) other

pub split_same : {A : Type 0} (x y : A) (xs ys : List A) → x ∷ xs ≡ y ∷ ys → (x ≡ y) × (xs ≡ ys)
split_same x y xs ys same = (same_head x y xs ys same, same_tail x y xs ys same)
