-- Where each customer has one follower and one leader, two ways that share a customer are the same.
use Rattle.std.proofs.Common.{◌≡◌, ◌≢◌, ◌∙◌, ℕ, Bool, true, refl, sym, subst, List, [], ◌∷◌, ◌⊎◌, inl, inr}

-- a customer whom another one may follow has no other follower, and isn't the last; the one who may follow him has no
-- other leader, and isn't the first
pub record HasOneWay (customer : ℕ → Type 0) (next : ℕ → ℕ → Bool) : Type 0 where
  pub follower : (a b c : ℕ) → customer a → customer b → a ≢ b → next a b ≡ true → customer c → a ≢ c → next a c ≡ true → b ≡ c
  pub not_last : (a b : ℕ) → customer a → customer b → a ≢ b → next a b ≡ true → next a 0 ≡ true → ⊥
  pub leader : (a b c : ℕ) → customer a → customer b → a ≢ b → next a b ≡ true → customer c → c ≢ b → next c b ≡ true → a ≡ c
  pub not_first : (a b : ℕ) → customer a → customer b → a ≢ b → next a b ≡ true → next 0 b ≡ true → ⊥

-- a number stands in a list
abbrev pub Stands : ℕ → List ℕ → Type 0
Stands x [] = ⊥
Stands x (y ∷ ys) = (x ≡ y) ⊎ Stands x ys

-- a way from a node over customers, none of whom follows himself, to the depot
abbrev pub IsWay : (ℕ → Type 0) → (ℕ → ℕ → Bool) → ℕ → List ℕ → Type 0
IsWay customer next a [] = next a 0 ≡ true
IsWay customer next a (x ∷ xs) = (a ≢ x) × customer x × (next a x ≡ true) × IsWay customer next x xs

module _ (customer : ℕ → Type 0) (next : ℕ → ℕ → Bool) (one : HasOneWay customer next) where
  -- from a customer there is one way on
  same_rest : (a : ℕ) (xs ys : List ℕ) → customer a → IsWay customer next a xs → IsWay customer next a ys → xs ≡ ys
  same_rest a [] [] is first second = refl
  same_rest a [] (y ∷ ys) is first second = absurd (one.not_last a y is second.1 second.0 second.2 first)
  same_rest a (x ∷ xs) [] is first second = absurd (one.not_last a x is first.1 first.0 first.2 second)
  same_rest a (x ∷ xs) (y ∷ ys) is first second =
      let same = one.follower a x y is first.1 first.0 first.2 second.1 second.0 second.2 in
      let rest = same_rest x xs ys first.1 first.3 (subst (λ z. IsWay customer next z ys) (sym same) second.3) in
      λ i. same i ∷ rest i

  -- who may be the first follows nobody
  never_behind : (a x : ℕ) (ys : List ℕ) → customer a → next 0 x ≡ true → IsWay customer next a ys → Stands x ys → ⊥
  never_behind a x [] is first way stands = stands
  never_behind a x (y ∷ ys) is first way (inl same) = one.not_first a y is way.1 way.0 way.2 (subst (λ z. next 0 z ≡ true) same first)
  never_behind a x (y ∷ ys) is first way (inr later) = never_behind y x ys way.1 first way.3 later

  -- before whom another one may stand, he does
  led_behind : (a x d : ℕ) (ys : List ℕ) → customer a → customer x → customer d → x ≢ d → next x d ≡ true → IsWay customer next a ys → Stands d ys → Stands x (a ∷ ys)
  led_behind a x d [] is_a is_x is_d apart leads way stands = absurd stands
  led_behind a x d (y ∷ ys) is_a is_x is_d apart leads way (inl same) =
      let there : next a d ≡ true = subst (λ z. next a z ≡ true) (sym same) way.2 in
      inl (one.leader x d a is_x is_d apart leads is_a (λ e. way.0 (e ∙ same)) there)
  led_behind a x d (y ∷ ys) is_a is_x is_d apart leads way (inr later) = inr (led_behind y x d ys way.1 is_x is_d apart leads way.3 later)

  led : (x d : ℕ) (ys : List ℕ) → customer x → customer d → x ≢ d → next x d ≡ true → IsWay customer next 0 ys → Stands d ys → Stands x ys
  led x d [] is_x is_d apart leads way stands = absurd stands
  led x d (y ∷ ys) is_x is_d apart leads way (inl same) = absurd (one.not_first x d is_x is_d apart leads (subst (λ z. next 0 z ≡ true) (sym same) way.2))
  led x d (y ∷ ys) is_x is_d apart leads way (inr later) = led_behind y x d ys way.1 is_x is_d apart leads way.3 later

  first_stands : (x d : ℕ) (xs ys : List ℕ) → customer x → IsWay customer next x xs → IsWay customer next 0 ys → Stands d xs → Stands d ys → Stands x ys
  first_stands x d [] ys is way other there here = absurd there
  first_stands x d (y ∷ xs) ys is way other (inl same) here = led x y ys is way.1 way.0 way.2 other (subst (λ z. Stands z ys) same here)
  first_stands x d (y ∷ xs) ys is way other (inr later) here = led x y ys is way.1 way.0 way.2 other (first_stands y d xs ys way.1 way.3 other later here)

  same_first : (x : ℕ) (xs ys : List ℕ) → IsWay customer next 0 (x ∷ xs) → IsWay customer next 0 ys → Stands x ys → (x ∷ xs) ≡ ys
  same_first x xs [] first second stands = absurd stands
  same_first x xs (y ∷ ys) first second (inl same) =
      let rest = same_rest x xs ys first.1 first.3 (subst (λ z. IsWay customer next z ys) (sym same) second.3) in
      λ i. same i ∷ rest i
  same_first x xs (y ∷ ys) first second (inr later) = absurd (never_behind y x ys second.1 first.2 second.3 later)

  pub one_way : (d : ℕ) (xs ys : List ℕ) → IsWay customer next 0 xs → IsWay customer next 0 ys → Stands d xs → Stands d ys → xs ≡ ys
  one_way d [] ys first second there here = absurd there
  one_way d (x ∷ xs) ys first second (inl same) here = same_first x xs ys first second (subst (λ z. Stands z ys) same here)
  one_way d (x ∷ xs) ys first second (inr later) here = same_first x xs ys first second (first_stands x d xs ys first.1 first.3 second later here)
