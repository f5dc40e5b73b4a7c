-- Neighbours in a list of numbers.
use Rattle.std.proofs.Common.{◌≡◌, ◌∙◌, ℕ, ◌+◌, ◌≤◌, Bool, true, false, ◌&&◌, ◌||◌, arith, sym, List, [], ◌∷◌, ◌++◌, inl, inr}
use Rattle.std.proofs.lemmas.Bool.{eqb-true, and_parts, or_cases, false≢true}
use Rattle.std.specs.Prelude.{nat_eq, if◌then◌else◌}
use Rattle.ev_model.specs.Fleet.{times_in}

-- b follows a
abbrev pub follows : ℕ → ℕ → List ℕ → Bool
follows a b [] = false
follows a b (x ∷ []) = false
follows a b (x ∷ y ∷ ys) = (nat_eq x a && nat_eq y b) || follows a b (y ∷ ys)

-- the first stands in the list
leads : (a b : ℕ) (xs : List ℕ) → follows a b xs ≡ true → 1 ≤ times_in xs a
leads a b [] h = absurd (false≢true h)
leads a b (x ∷ []) h = absurd (false≢true h)
leads a b (x ∷ y ∷ ys) h = elim (or_cases (nat_eq x a && nat_eq y b) (follows a b (y ∷ ys)) h) [
  | inl here ↦ let parts = and_parts (nat_eq x a) (nat_eq y b) here in let is = parts.0 in rw is (omega arith)
  | inr later ↦ omega (arith, leads a b (y ∷ ys) later)
]

-- and the second after the first place
trails : (a b x : ℕ) (xs : List ℕ) → follows a b (x ∷ xs) ≡ true → 1 ≤ times_in xs b
trails a b x [] h = absurd (false≢true h)
trails a b x (y ∷ ys) h = elim (or_cases (nat_eq x a && nat_eq y b) (follows a b (y ∷ ys)) h) [
  | inl here ↦ let parts = and_parts (nat_eq x a) (nat_eq y b) here in let is = parts.1 in rw is (omega arith)
  | inr later ↦ omega (arith, trails a b y ys later)
]

-- what stands once has one follower
pub one_follower : (a b c : ℕ) (xs : List ℕ) → times_in xs a ≤ 1 → follows a b xs ≡ true → follows a c xs ≡ true → b ≡ c
one_follower a b c [] once h i = absurd (false≢true h)
one_follower a b c (x ∷ []) once h i = absurd (false≢true h)
one_follower a b c (x ∷ y ∷ ys) once h i = elim (or_cases (nat_eq x a && nat_eq y b) (follows a b (y ∷ ys)) h) [
  | inl here ↦
      let parts = and_parts (nat_eq x a) (nat_eq y b) here in
      let is = parts.0 in
      let few : 1 + times_in (y ∷ ys) a ≤ 1 = rw is at once in
      elim (or_cases (nat_eq x a && nat_eq y c) (follows a c (y ∷ ys)) i) [
        | inl also ↦ let others = and_parts (nat_eq x a) (nat_eq y c) also in sym (eqb-true y b parts.1) ∙ eqb-true y c others.1
        | inr later ↦ absurd (omega (arith, few, leads a c (y ∷ ys) later))
      ]
  | inr later ↦ elim (or_cases (nat_eq x a && nat_eq y c) (follows a c (y ∷ ys)) i) [
    | inl here ↦
        let parts = and_parts (nat_eq x a) (nat_eq y c) here in
        let is = parts.0 in
        let few : 1 + times_in (y ∷ ys) a ≤ 1 = rw is at once in
        absurd (omega (arith, few, leads a b (y ∷ ys) later))
    | inr also ↦ one_follower a b c (y ∷ ys) (omega (arith, once)) later also
  ]
]

-- and follows one
pub one_leader : (a b c : ℕ) (xs : List ℕ) → times_in xs c ≤ 1 → follows a c xs ≡ true → follows b c xs ≡ true → a ≡ b
one_leader a b c [] once h i = absurd (false≢true h)
one_leader a b c (x ∷ []) once h i = absurd (false≢true h)
one_leader a b c (x ∷ y ∷ ys) once h i = elim (or_cases (nat_eq x a && nat_eq y c) (follows a c (y ∷ ys)) h) [
  | inl here ↦
      let parts = and_parts (nat_eq x a) (nat_eq y c) here in
      let is = parts.1 in
      let few : (if nat_eq x c then 1 else 0) + (1 + times_in ys c) ≤ 1 = rw is at once in
      elim (or_cases (nat_eq x b && nat_eq y c) (follows b c (y ∷ ys)) i) [
        | inl also ↦ let others = and_parts (nat_eq x b) (nat_eq y c) also in sym (eqb-true x a parts.0) ∙ eqb-true x b others.0
        | inr later ↦ absurd (omega (arith, few, trails b c y ys later))
      ]
  | inr later ↦ elim (or_cases (nat_eq x b && nat_eq y c) (follows b c (y ∷ ys)) i) [
    | inl here ↦
        let parts = and_parts (nat_eq x b) (nat_eq y c) here in
        let is = parts.1 in
        let few : (if nat_eq x c then 1 else 0) + (1 + times_in ys c) ≤ 1 = rw is at once in
        absurd (omega (arith, few, trails a c y ys later))
    | inr also ↦ one_leader a b c (y ∷ ys) (omega (arith, once)) later also
  ]
]

pub follows_before : (a b : ℕ) (xs ys : List ℕ) → follows a b xs ≡ true → follows a b (xs ++ ys) ≡ true
follows_before a b [] ys h = absurd (false≢true h)
follows_before a b (x ∷ []) ys h = absurd (false≢true h)
follows_before a b (x ∷ y ∷ zs) ys h = let rest = follows_before a b (y ∷ zs) ys in grind (arith, h, rest)

pub follows_after : (a b : ℕ) (xs ys : List ℕ) → follows a b ys ≡ true → follows a b (xs ++ ys) ≡ true
follows_after a b [] ys h = h
follows_after a b (x ∷ []) [] h = absurd (false≢true h)
follows_after a b (x ∷ []) (y ∷ ys) h = grind (arith, h)
follows_after a b (x ∷ y ∷ zs) ys h = let rest = follows_after a b (y ∷ zs) ys h in grind (arith, rest)
