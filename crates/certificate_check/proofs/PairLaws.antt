-- Pairs of places of customers, and what is allowed among all numbers.
use Rattle.std.proofs.Common.{◌≡◌, ◌∙◌, ℕ, zero, suc, ◌-◌, ◌≤◌, Bool, true, not, List, [], ◌∷◌, ◌++◌, Option, Some, None, refl, reverse, sym, arith, inl, inr}
use Rattle.std.specs.Prelude.{nat_eq}
use Rattle.std.proofs.lemmas.Bool.{cases_Bool, cases_lt, or_right}
use Rattle.std.proofs.lemmas.List.{reverse-append}
use Rattle.customer_sets.specs.Pairs.{allows_of, any_pair, ForbiddenPairs, forbid, is_forbidden, IsPairs, require}
use Rattle.fleet_model.specs.Section.{Section}
use Rattle.certificate_check.specs.Bounds.{AreChildren, Tell, TellEach}
use Rattle.certificate_check.specs.Firsts.{HoldsUnder, IsBrokenUnder, Tells}
use Rattle.certificate_check.specs.Rules.{AllowsEach}
use Rattle.certificate_check.specs.declared.verdict.Verdict.{Verdict}

outside : (q : ForbiddenPairs) → IsPairs q → (a b : ℕ) → is_forbidden q a b ≡ true → (a ≤ q.customers) × (b ≤ q.customers)
outside q is a zero f = let e = is.ends (a - 1) f in (omega (arith, e), omega arith)
outside q is a (suc c) f = let p = is.places a c f in (p.0, omega (arith, p.1))

-- beyond the places of customers each pair is allowed
allowed_outside : (q : ForbiddenPairs) → IsPairs q → (a b : ℕ) → ((a ≤ q.customers) × (b ≤ q.customers) → ⊥) → allows_of q a b ≡ true
allowed_outside q is a b out = elim (cases_Bool (is_forbidden q a b)) [
  | inl f ↦ absurd (out (outside q is a b f))
  | inr other ↦ or_right (nat_eq a b) (not (is_forbidden q a b)) (rw other refl)
]

-- so what is allowed among the places of customers decides
among : (q : ForbiddenPairs) → IsPairs q → (n : ℕ) → q.customers ≡ n → (f h : ℕ → ℕ → Bool) → ((a b : ℕ) → a ≤ n → b ≤ n → f a b ≡ h a b) →
    ((a b : ℕ) → h a b ≡ true → allows_of q a b ≡ true) → (a b : ℕ) → f a b ≡ true → allows_of q a b ≡ true
among q is n same f h agree each a b allowed = elim (cases_lt n a) [
  | inl more ↦ allowed_outside q is a b (λ p. omega (arith, more, same, p.0))
  | inr first ↦ elim (cases_lt n b) [
    | inl more ↦ allowed_outside q is a b (λ p. omega (arith, more, same, p.1))
    | inr second ↦ each a b (sym (agree a b (omega (arith, first)) (omega (arith, second))) ∙ allowed)
  ]
]

module _ (s : Section) (q : ForbiddenPairs) (is : IsPairs q) (n : ℕ) (count : q.customers ≡ n) (at : (a b : ℕ) → s.allows a b ≡ allows_of q a b) (p : ForbiddenPairs) (allows : ℕ → ℕ → Bool) (tell : Tell n p allows) where
  pub each_told : AllowsEach (allows_of p) s → AllowsEach allows s
  each_told each a b allowed = at a b ∙ among q is n count allows (allows_of p) (λ x y le_x le_y. sym (tell.same x y le_x le_y)) (λ x y given. sym (at x y) ∙ each x y given) a b allowed

  pub each_from : AllowsEach allows s → AllowsEach (allows_of p) s
  each_from each a b allowed = at a b ∙ among q is n count (allows_of p) allows tell.same (λ x y given. sym (at x y) ∙ each x y given) a b allowed

  pub told_at : (bound : Option ℕ) (leaf : ℕ) (r : Option Verdict) → Tells (HoldsUnder bound s) (IsBrokenUnder bound s) leaf (allows_of p) r
      → Tells (HoldsUnder bound s) (IsBrokenUnder bound s) leaf allows r
  told_at bound leaf None holds = record { pairs = each_told holds.pairs; bounded = holds.bounded }
  told_at bound leaf (Some v) (inl broken) = inl (broken.0, λ each. broken.1 (each_from each))
  told_at bound leaf (Some v) (inr broken) = inr (broken.0, each_told broken.1, broken.2)

-- ---- the pairs of the subtrees that are open

pub one_told : (n : ℕ) (p : ForbiddenPairs) → p.customers ≡ n → ((a b : ℕ) → allows_of p a b ≡ true) → TellEach n (p ∷ []) (any_pair ∷ [])
one_told n p count all = (record { customers = count; same = λ a b le_a le_b. all a b }, tt)

pub last_first : (ps : List ForbiddenPairs) (p : ForbiddenPairs) → reverse (ps ++ p ∷ []) ≡ p ∷ reverse ps
last_first ps p = reverse-append ps (p ∷ [])

pub children_first : (ps : List ForbiddenPairs) (together apart : ForbiddenPairs) → reverse (ps ++ together ∷ apart ∷ []) ≡ apart ∷ together ∷ reverse ps
children_first ps together apart = reverse-append ps (together ∷ apart ∷ [])

-- the pair that comes next, with those that come later
pub next_told : (n : ℕ) (p : ForbiddenPairs) (ps : List ForbiddenPairs) (stack : List (ℕ → ℕ → Bool)) → TellEach n (p ∷ ps) stack →
    (allows : ℕ → ℕ → Bool) × (rest : List (ℕ → ℕ → Bool)) × (stack ≡ allows ∷ rest) × Tell n p allows × TellEach n ps rest
next_told n p ps [] each = absurd each
next_told n p ps (allows ∷ rest) each = (allows, rest, refl, each.0, each.1)

pub children_told : (n i j : ℕ) (p apart together : ForbiddenPairs) (ps : List ForbiddenPairs) (allows : ℕ → ℕ → Bool) (rest : List (ℕ → ℕ → Bool)) →
    AreChildren n i j p apart together → Tell n p allows → TellEach n ps rest → TellEach n (apart ∷ together ∷ ps) (forbid i j allows ∷ require i j allows ∷ rest)
children_told n i j p apart together ps allows rest children tell each =
    (children.apart_tells allows tell, (children.together_tells allows tell, each))
