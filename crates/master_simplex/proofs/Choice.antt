-- The row of least height, its key over its entry at the column, is less than each other row in the lexicographic order.
use Rattle.std.proofs.Common.{◌≡◌, ◌≢◌, ◌∙◌, ℕ, zero, suc, ◌<◌, ◌≤◌, ◌+◌, ◌*◌, ◌^◌, arith, refl, sym, ap, ap₂, ℤ, pos, negsuc, ◌-ℤ◌, ◌*ℤ◌, ◌<ℤ◌, ◌≤ℤ◌, subst, not, T, Bool, true, false, Some, List, [], ◌∷◌, length, get_or, ◌⊎◌, inl, inr}
use Rattle.std.proofs.lemmas.Int.{ints}
use Rattle.std.specs.Int.Signed.{lt_z, lt_z_no, lt_z_yes}
use Rattle.fleet_model.specs.Equations.{combined}
use Rattle.master_simplex.specs.Falling.{IsLexPositive, height, rank, AreWithin}
use Rattle.master_simplex.specs.Phase.{less, or_later, precedes}
use Rattle.master_simplex.proofs.Lex.{by_sign}
use Rattle.master_simplex.proofs.FallingRows.{height_falls, rank_same}

nothing : (c : ℕ) → get_or {A = ℤ} [] c (pos 0) ≡ pos 0
nothing zero = refl
nothing (suc c) = refl

-- one list is less, or the other, or they are the same
abbrev AllZero : List ℤ → Type 0
AllZero zs = (c : ℕ) → get_or zs c (pos 0) ≡ pos 0

lex_cases : (f g : ℤ) (xs ys : List ℤ) → length xs ≡ length ys → IsLexPositive (combined f g xs ys) ⊎ IsLexPositive (combined g f ys xs) ⊎ AllZero (combined f g xs ys)
lex_cases f g [] ys e = inr (inr nothing)
lex_cases f g (x ∷ xs) [] e = absurd (omega arith)
lex_cases f g (x ∷ xs) (y ∷ ys) e = by_head (by_sign (f *ℤ x -ℤ g *ℤ y)) (lex_cases f g xs ys (omega arith))
  where
    cons_zero : f *ℤ x -ℤ g *ℤ y ≡ pos 0 → AllZero (combined f g xs ys) → AllZero (combined f g (x ∷ xs) (y ∷ ys))
    cons_zero h t zero = h
    cons_zero h t (suc c) = t c

    by_head : ((f *ℤ x -ℤ g *ℤ y) <ℤ pos 0) ⊎ (f *ℤ x -ℤ g *ℤ y ≡ pos 0) ⊎ (pos 0 <ℤ (f *ℤ x -ℤ g *ℤ y))
        → IsLexPositive (combined f g xs ys) ⊎ IsLexPositive (combined g f ys xs) ⊎ AllZero (combined f g xs ys)
        → IsLexPositive (combined f g (x ∷ xs) (y ∷ ys)) ⊎ IsLexPositive (combined g f (y ∷ ys) (x ∷ xs)) ⊎ AllZero (combined f g (x ∷ xs) (y ∷ ys))
    by_head (inl below) rest = inr (inl (inl (omega (arith, ints))))
    by_head (inr (inr above)) rest = inl (inl above)
    by_head (inr (inl same)) (inl a) = inl (inr (same, a))
    by_head (inr (inl same)) (inr (inl b)) = inr (inl (inr (omega (arith, ints), b)))
    by_head (inr (inl same)) (inr (inr t)) = inr (inr (cons_zero same t))

height_same : (c v w : ℕ) (xs ys : List ℤ) → 0 < v → 0 < w → length xs ≡ length ys → AreWithin c xs → AreWithin c ys → AllZero (combined (pos w) (pos v) xs ys) → height c w ys ≡ height c v xs
unfolding height
height_same c v w [] [] pv pw e in_x in_y z = refl
height_same c v w [] (y ∷ ys) pv pw e in_x in_y z = absurd (omega arith)
height_same c v w (x ∷ xs) [] pv pw e in_x in_y z = absurd (omega arith)
height_same c v w (x ∷ xs) (y ∷ ys) pv pw e in_x in_y z =
    let here = rank_same c v w x y pv pw in_x.0 in_y.0 (z 0) in
    let rest = height_same c v w xs ys pv pw (omega arith) in_x.1 in_y.1 (λ k. z (suc k)) in
    let long : length ys ≡ length xs = omega arith in
    ap₂ (λ r m. r * m + height c w ys) here (ap (λ m. (2 * c * c * c + 1) ^ m) long) ∙ ap (λ m. rank c v x * (2 * c * c * c + 1) ^ length xs + m) rest

-- where the row that leaves has no greater height, the other row less it is positive
pub least_choice : (c a b : ℕ) (xs ys : List ℤ) → 0 < a → 0 < b → a ≤ c → b ≤ c → length xs ≡ length ys → AreWithin c xs → AreWithin c ys
    → (AllZero (combined (pos a) (pos b) xs ys) → ⊥) → height c a ys ≤ height c b xs → IsLexPositive (combined (pos a) (pos b) xs ys)
least_choice c a b xs ys pa pb ac bc lengths in_x in_y apart le = by_cases (lex_cases (pos a) (pos b) xs ys lengths)
  where
    by_cases : IsLexPositive (combined (pos a) (pos b) xs ys) ⊎ IsLexPositive (combined (pos b) (pos a) ys xs) ⊎ AllZero (combined (pos a) (pos b) xs ys) → IsLexPositive (combined (pos a) (pos b) xs ys)
    by_cases (inl h) = h
    by_cases (inr (inl h)) = let less = height_falls c a b ys xs pa pb ac bc (sym lengths) in_y in_x h in absurd (omega arith)
    by_cases (inr (inr h)) = absurd (apart h)

-- ---- the comparison of two rows
pub less_below : (z : ℤ) → z <ℤ pos 0 → less z ≡ Some true
less_below (pos n) h = absurd (omega (arith, ints))
less_below (negsuc n) h = refl

pub less_above : (z : ℤ) → pos 0 <ℤ z → less z ≡ Some false
less_above (pos zero) h = absurd (omega (arith, ints))
less_above (pos (suc n)) h = refl
less_above (negsuc n) h = absurd (omega (arith, ints))

precedes_cases : (a b : ℤ) (xs ys : List ℤ) → length xs ≡ length ys
    → ((precedes a b xs ys ≡ true) × IsLexPositive (combined a b ys xs)) ⊎ ((precedes a b xs ys ≡ false) × (IsLexPositive (combined b a xs ys) ⊎ AllZero (combined b a xs ys)))
precedes_cases a b [] ys e = inr (refl, inr nothing)
precedes_cases a b (x ∷ xs) [] e = absurd (omega arith)
precedes_cases a b (x ∷ xs) (y ∷ ys) e = by_head (by_sign (b *ℤ x -ℤ a *ℤ y)) (precedes_cases a b xs ys (omega arith))
  where
    cons_zero : b *ℤ x -ℤ a *ℤ y ≡ pos 0 → AllZero (combined b a xs ys) → AllZero (combined b a (x ∷ xs) (y ∷ ys))
    cons_zero h t zero = h
    cons_zero h t (suc c) = t c

    by_head : ((b *ℤ x -ℤ a *ℤ y) <ℤ pos 0) ⊎ (b *ℤ x -ℤ a *ℤ y ≡ pos 0) ⊎ (pos 0 <ℤ (b *ℤ x -ℤ a *ℤ y))
        → ((precedes a b xs ys ≡ true) × IsLexPositive (combined a b ys xs)) ⊎ ((precedes a b xs ys ≡ false) × (IsLexPositive (combined b a xs ys) ⊎ AllZero (combined b a xs ys)))
        → ((precedes a b (x ∷ xs) (y ∷ ys) ≡ true) × IsLexPositive (combined a b (y ∷ ys) (x ∷ xs))) ⊎ ((precedes a b (x ∷ xs) (y ∷ ys) ≡ false) × (IsLexPositive (combined b a (x ∷ xs) (y ∷ ys)) ⊎ AllZero (combined b a (x ∷ xs) (y ∷ ys))))
    by_head (inl below) rest =
        inl (ap (λ o. or_later o (precedes a b xs ys)) (less_below (b *ℤ x -ℤ a *ℤ y) below), inl (omega (arith, ints)))
    by_head (inr (inr above)) rest =
        inr (ap (λ o. or_later o (precedes a b xs ys)) (less_above (b *ℤ x -ℤ a *ℤ y) above), inl (inl above))
    by_head (inr (inl same)) (inl (p, l)) = inl (ap (λ d. or_later (less d) (precedes a b xs ys)) same ∙ p, inr (omega (arith, ints), l))
    by_head (inr (inl same)) (inr (p, inl l)) = inr (ap (λ d. or_later (less d) (precedes a b xs ys)) same ∙ p, inl (inr (same, l)))
    by_head (inr (inl same)) (inr (p, inr z)) = inr (ap (λ d. or_later (less d) (precedes a b xs ys)) same ∙ p, inr (cons_zero same z))

pub precedes_height : (c a b : ℕ) (xs ys : List ℤ) → 0 < a → 0 < b → a ≤ c → b ≤ c → length xs ≡ length ys → AreWithin c xs → AreWithin c ys
    → ((precedes (pos a) (pos b) xs ys ≡ true) × (height c a xs ≤ height c b ys)) ⊎ ((precedes (pos a) (pos b) xs ys ≡ false) × (height c b ys ≤ height c a xs))
precedes_height c a b xs ys pa pb ac bc lengths in_x in_y = by_cases (precedes_cases (pos a) (pos b) xs ys lengths)
  where
    by_cases : ((precedes (pos a) (pos b) xs ys ≡ true) × IsLexPositive (combined (pos a) (pos b) ys xs))
        ⊎ ((precedes (pos a) (pos b) xs ys ≡ false) × (IsLexPositive (combined (pos b) (pos a) xs ys) ⊎ AllZero (combined (pos b) (pos a) xs ys)))
        → ((precedes (pos a) (pos b) xs ys ≡ true) × (height c a xs ≤ height c b ys)) ⊎ ((precedes (pos a) (pos b) xs ys ≡ false) × (height c b ys ≤ height c a xs))
    by_cases (inl (p, l)) = let less = height_falls c b a ys xs pb pa bc ac (sym lengths) in_y in_x l in inl (p, omega arith)
    by_cases (inr (p, inl l)) = let less = height_falls c a b xs ys pa pb ac bc lengths in_x in_y l in inr (p, omega arith)
    by_cases (inr (p, inr z)) = let same = height_same c a b xs ys pa pb lengths in_x in_y z in inr (p, omega arith)

-- ---- the comparison of two products
pub less_of : (a b d : ℤ) → d ≡ a -ℤ b → a ≢ b → Some (lt_z a b) ≡ less d
less_of a b d is apart = by_cases (by_sign d)
  where
    lt_true : (x y : ℤ) → x <ℤ y → lt_z x y ≡ true
    lt_true x y h = by_bool (lt_z x y) refl
      where
        by_bool : (t : Bool) → lt_z x y ≡ t → lt_z x y ≡ true
        by_bool true e = e
        by_bool false e = absurd (let g = lt_z_no {a = x} {b = y} (subst (λ t. T (not t)) (sym e) tt) in omega (arith, ints))

    lt_false : (x y : ℤ) → y ≤ℤ x → lt_z x y ≡ false
    lt_false x y h = by_bool (lt_z x y) refl
      where
        by_bool : (t : Bool) → lt_z x y ≡ t → lt_z x y ≡ false
        by_bool false e = e
        by_bool true e = absurd (let g = lt_z_yes {a = x} {b = y} (subst (λ t. T t) (sym e) tt) in omega (arith, ints))

    by_cases : (d <ℤ pos 0) ⊎ (d ≡ pos 0) ⊎ (pos 0 <ℤ d) → Some (lt_z a b) ≡ less d
    by_cases (inl below) = ap Some (lt_true a b (omega (arith, ints))) ∙ sym (less_below d below)
    by_cases (inr (inl none)) = absurd (apart (omega (arith, ints)))
    by_cases (inr (inr above)) = ap Some (lt_false a b (omega (arith, ints))) ∙ sym (less_above d above)
