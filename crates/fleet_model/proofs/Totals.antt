-- Sums over chosen customers, of combined and of multiplied lists.
use Rattle.std.proofs.Common.{◌≡◌, ◌∙◌, ℕ, zero, suc, ◌<◌, ◌+◌, arith, refl, sym, ap, ℤ, pos, ◌+ℤ◌, ◌-ℤ◌, ◌*ℤ◌, List, [], ◌∷◌, map, length, get_or, drop, drop-cons, add-one, append_assoc, ◌++◌, Bool, true, false, cond, nat_eq, eq-eqb, ne_eqb, unsigned_abs, ◌≤◌}
use Rattle.std.proofs.lemmas.Int.{ints}
use Rattle.fleet_model.proofs.Ring.{*ℤ-+ℤ}
use Rattle.fleet_model.specs.Equations.{total, total_from, combined}

cond_times : (t : Bool) (k x : ℤ) → cond t (k *ℤ x) (pos 0) ≡ k *ℤ cond t x (pos 0)
cond_times true k x = refl
cond_times false k x = omega (arith, ints)

cond_combined : (t : Bool) (f g x y : ℤ) → cond t (f *ℤ x -ℤ g *ℤ y) (pos 0) ≡ f *ℤ cond t x (pos 0) -ℤ g *ℤ cond t y (pos 0)
cond_combined true f g x y = refl
cond_combined false f g x y = omega (arith, ints)

total_times_from : (k : ℤ) (s : ℕ → Bool) (c : ℕ) (xs : List ℤ) → total_from s c (map (λ z. k *ℤ z) xs) ≡ k *ℤ total_from s c xs
total_times_from k s c [] = omega (arith, ints)
total_times_from k s c (x ∷ xs) =
    let here = cond_times (s c) k x in
    let rest = total_times_from k s (suc c) xs in
    let all = *ℤ-+ℤ k (cond (s c) x (pos 0)) (total_from s (suc c) xs) in
    omega (arith, ints)

pub total_times : (k : ℤ) (s : ℕ → Bool) (xs : List ℤ) → total s (map (λ z. k *ℤ z) xs) ≡ k *ℤ total s xs
total_times k s xs = total_times_from k s 0 xs

total_combined_from : (f g : ℤ) (s : ℕ → Bool) (c : ℕ) (xs ys : List ℤ) → length xs ≡ length ys → total_from s c (combined f g xs ys) ≡ f *ℤ total_from s c xs -ℤ g *ℤ total_from s c ys
total_combined_from f g s c [] [] e = omega (arith, ints)
total_combined_from f g s c [] (y ∷ ys) e = absurd (omega arith)
total_combined_from f g s c (x ∷ xs) [] e = absurd (omega arith)
total_combined_from f g s c (x ∷ xs) (y ∷ ys) e =
    let here = cond_combined (s c) f g x y in
    let rest = total_combined_from f g s (suc c) xs ys (omega arith) in
    let p = *ℤ-+ℤ f (cond (s c) x (pos 0)) (total_from s (suc c) xs) in
    let q = *ℤ-+ℤ g (cond (s c) y (pos 0)) (total_from s (suc c) ys) in
    omega (arith, ints)

pub total_combined : (f g : ℤ) (s : ℕ → Bool) (xs ys : List ℤ) → length xs ≡ length ys → total s (combined f g xs ys) ≡ f *ℤ total s xs -ℤ g *ℤ total s ys
total_combined f g s xs ys e = total_combined_from f g s 0 xs ys e

pub length-combined : (f g : ℤ) (xs ys : List ℤ) → length xs ≡ length ys → length (combined f g xs ys) ≡ length xs
length-combined f g [] ys e = refl
length-combined f g (x ∷ xs) [] e = absurd (omega arith)
length-combined f g (x ∷ xs) (y ∷ ys) e = ap suc (length-combined f g xs ys (omega arith))

pub length-times : (k : ℤ) (xs : List ℤ) → length (map (λ z. k *ℤ z) xs) ≡ length xs
length-times k [] = refl
length-times k (x ∷ xs) = ap suc (length-times k xs)

-- a list of zeros adds up to 0
cond_zero : (t : Bool) (x : ℤ) → x ≡ pos 0 → cond t x (pos 0) ≡ pos 0
cond_zero true x e = e
cond_zero false x e = refl

total_nothing_from : (s : ℕ → Bool) (i : ℕ) (xs : List ℤ) → ((c : ℕ) → get_or xs c (pos 0) ≡ pos 0) → total_from s i xs ≡ pos 0
total_nothing_from s i [] h = refl
total_nothing_from s i (x ∷ xs) h =
    let rest = total_nothing_from s (suc i) xs (λ c. h (suc c)) in
    let first = cond_zero (s i) x (h 0) in
    omega (arith, ints)

pub total_nothing : (s : ℕ → Bool) (xs : List ℤ) → ((c : ℕ) → get_or xs c (pos 0) ≡ pos 0) → total s xs ≡ pos 0
total_nothing s xs h = total_nothing_from s 0 xs h

-- the sum over one customer is the customer's number
total_past : (k c : ℕ) (xs : List ℤ) → k < c → total_from (λ x. nat_eq x k) c xs ≡ pos 0
total_past k c [] lt = refl
total_past k c (x ∷ xs) lt =
    let rest = total_past k (suc c) xs (omega arith) in
    let none : nat_eq c k ≡ false = ne_eqb c k (λ e. absurd (omega arith)) in
    let here : cond (nat_eq c k) x (pos 0) ≡ pos 0 = ap (λ t. cond t x (pos 0)) none in
    omega (arith, ints)

total_one_from : (k c : ℕ) (xs : List ℤ) → total_from (λ x. nat_eq x (c + k)) c xs ≡ get_or xs k (pos 0)
total_one_from zero c [] = refl
total_one_from (suc k) c [] = refl
total_one_from zero c (x ∷ xs) =
    let same : c ≡ c + 0 = omega arith in
    let here : cond (nat_eq c (c + 0)) x (pos 0) ≡ x = ap (λ t. cond t x (pos 0)) (eq-eqb c (c + 0) same) in
    let rest = total_past (c + 0) (suc c) xs (omega arith) in
    omega (arith, ints)
total_one_from (suc k) c (x ∷ xs) =
    let other : nat_eq c (c + suc k) ≡ false = ne_eqb c (c + suc k) (λ e. absurd (omega arith)) in
    let here : cond (nat_eq c (c + suc k)) x (pos 0) ≡ pos 0 = ap (λ t. cond t x (pos 0)) other in
    let next : suc c + k ≡ c + suc k = omega arith in
    let rest : total_from (λ x. nat_eq x (c + suc k)) (suc c) xs ≡ get_or xs k (pos 0) = ap (λ j. total_from (λ x. nat_eq x j) (suc c) xs) (sym next) ∙ total_one_from k (suc c) xs in
    omega (arith, ints)

pub total_one : (k : ℕ) (xs : List ℤ) → total (λ x. nat_eq x k) xs ≡ get_or xs k (pos 0)
total_one k xs = let e : 0 + k ≡ k = omega arith in ap (λ j. total_from (λ x. nat_eq x j) 0 xs) (sym e) ∙ total_one_from k 0 xs

-- the next number of a combination
pub combined_more : (f g : ℤ) (i : ℕ) (xs ys : List ℤ) → length xs ≡ length ys → i < length xs
    → combined f g (drop i xs) (drop i ys) ≡ (f *ℤ get_or xs i (pos 0) -ℤ g *ℤ get_or ys i (pos 0)) ∷ combined f g (drop (i + 1) xs) (drop (i + 1) ys)
combined_more f g i xs ys e lt =
    let lt_y : i < length ys = omega arith in
    let a = drop-cons xs i (pos 0) lt in
    let b = drop-cons ys i (pos 0) lt_y in
    rw (a, b, add-one i) refl

pub combined_push : (f g z : ℤ) (i : ℕ) (xs ys out : List ℤ) → length xs ≡ length ys → i < length xs → z ≡ f *ℤ get_or xs i (pos 0) -ℤ g *ℤ get_or ys i (pos 0)
    → out ++ combined f g (drop i xs) (drop i ys) ≡ combined f g xs ys → (out ++ z ∷ []) ++ combined f g (drop (i + 1) xs) (drop (i + 1) ys) ≡ combined f g xs ys
combined_push f g z i xs ys out e lt is before =
    let more = combined_more f g i xs ys e lt in
    rw append_assoc (ap (λ x. out ++ x ∷ combined f g (drop (i + 1) xs) (drop (i + 1) ys)) is ∙ ap (λ zs. out ++ zs) (sym more) ∙ before)

-- one more of the chosen numbers
pub total_step : (s : ℕ → Bool) (c : ℕ) (xs : List ℤ) (sum part all : ℤ) → c < length xs → part ≡ cond (s c) (get_or xs c (pos 0)) (pos 0)
    → sum +ℤ total_from s c (drop c xs) ≡ all → (sum +ℤ part) +ℤ total_from s (c + 1) (drop (c + 1) xs) ≡ all
total_step s c xs sum part all lt is before =
    let cut = ap (total_from s c) (drop-cons xs c (pos 0) lt) in
    let next : total_from s (suc c) (drop (suc c) xs) ≡ total_from s (c + 1) (drop (c + 1) xs) = ap (λ k. total_from s k (drop k xs)) (sym (add-one c)) in
    omega (arith, ints)

pub cond_small : (t : Bool) (x : ℤ) (m : ℕ) → unsigned_abs x ≤ m → unsigned_abs (cond t x (pos 0)) ≤ m
cond_small true x m h = h
cond_small false x m h = omega arith
