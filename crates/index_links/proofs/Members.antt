-- Items of lists.
use Rattle.std.proofs.Common.{◌≡◌, ℕ, ◌<◌, ◌≤◌, List, [], ◌∷◌, ◌++◌, ◌⊎◌, inl, inr, length, refl, sym, ◌∙◌, ap, subst, eqb, true, false, arith, Some, None}
use Rattle.std.specs.Prelude.{slice_get}
use Rattle.std.proofs.lemmas.Option.{same_Some, none-some}
use Rattle.std.specs.List.{AllByRecursion, IsDistinct, list_any}
use Rattle.std.proofs.lemmas.Map.Steps.{length-le_from_distinct_below}
use Rattle.std.proofs.lemmas.Bool.{eqb-true, ne_eqb, eq-eqb, or_cases, cases_eq}
use Rattle.index_links.specs.Lists.{IsIn, EachOnce, without, with_before}

-- std's test finds only items
in_from_any : (i : ℕ) (xs : List ℕ) → list_any (eqb i) xs ≡ true → IsIn i xs
in_from_any i [] h = absurd (cc)
in_from_any i (x ∷ xs) h =
    elim (or_cases (eqb i x) (list_any (eqb i) xs) h) [ inl e ↦ inl (eqb-true i x e) | inr r ↦ inr (in_from_any i xs r) ]

all_other : (x : ℕ) (xs : List ℕ) → (IsIn x xs → ⊥) → AllByRecursion (λ y. eqb x y ≡ false) xs
all_other x [] h = tt
all_other x (y ∷ ys) h = (ne_eqb x y (λ e. h (inl e)), all_other x ys (λ m. h (inr m)))

distinct : (xs : List ℕ) → EachOnce xs → IsDistinct eqb xs
unfolding IsDistinct
distinct [] h = tt
distinct (x ∷ xs) h = (all_other x xs h.0, distinct xs h.1)

-- numbers below n, each once, are at most n
pub length-le_once : (n : ℕ) (xs : List ℕ) → EachOnce xs → ((i : ℕ) → IsIn i xs → i < n) → length xs ≤ n
length-le_once n xs once below = length-le_from_distinct_below xs n (distinct xs once) (λ q m. below q (in_from_any q xs m))

pub in-append_left : (i : ℕ) (xs ys : List ℕ) → IsIn i xs → IsIn i (xs ++ ys)
in-append_left i [] ys m = absurd m
in-append_left i (x ∷ xs) ys m = elim m [ inl e ↦ inl e | inr r ↦ inr (in-append_left i xs ys r) ]

pub in-append_right : (i : ℕ) (xs ys : List ℕ) → IsIn i ys → IsIn i (xs ++ ys)
in-append_right i [] ys m = m
in-append_right i (x ∷ xs) ys m = inr (in-append_right i xs ys m)

pub in-append_cases : (i : ℕ) (xs ys : List ℕ) → IsIn i (xs ++ ys) → IsIn i xs ⊎ IsIn i ys
in-append_cases i [] ys m = inr m
in-append_cases i (x ∷ xs) ys m =
    elim m [ inl e ↦ inl (inl e) | inr r ↦ elim (in-append_cases i xs ys r) [ inl a ↦ inl (inr a) | inr b ↦ inr b ] ]

-- an item of a list with i put in is i or an item of the list
pub in-inserted : (i j : ℕ) (xs ys : List ℕ) → IsIn j (xs ++ i ∷ ys) → (j ≡ i) ⊎ IsIn j (xs ++ ys)
in-inserted i j [] ys m = m
in-inserted i j (x ∷ xs) ys m =
    elim m [ inl e ↦ inr (inl e) | inr r ↦ elim (in-inserted i j xs ys r) [ inl q ↦ inl q | inr n ↦ inr (inr n) ] ]

-- each item of the list is one of the list with i put in
pub in_inserted-from : (i j : ℕ) (xs ys : List ℕ) → IsIn j (xs ++ ys) → IsIn j (xs ++ i ∷ ys)
in_inserted-from i j [] ys m = inr m
in_inserted-from i j (x ∷ xs) ys m = elim m [ inl e ↦ inl e | inr r ↦ inr (in_inserted-from i j xs ys r) ]

-- a new item put in at any place
pub once-inserted : (i : ℕ) (xs ys : List ℕ) → EachOnce (xs ++ ys) → (IsIn i (xs ++ ys) → ⊥) → EachOnce (xs ++ i ∷ ys)
once-inserted i [] ys once new = (new, once)
once-inserted i (x ∷ xs) ys once new = (
  λ m. elim (in-inserted i x xs ys m) [ inl e ↦ new (inl (sym e)) | inr r ↦ once.0 r ],
  once-inserted i xs ys once.1 (λ m. new (inr m)),
)

-- an item of a list stands between what is before it and what is behind it
pub split : (i : ℕ) (xs : List ℕ) → IsIn i xs → (before : List ℕ) × (after : List ℕ) × (xs ≡ before ++ i ∷ after)
split i [] m = absurd m
split i (x ∷ xs) m =
    elim m [ inl e ↦ ([], xs, ap (λ n. n ∷ xs) (sym e)) | inr r ↦ (let s = split i xs r in (x ∷ s.0, s.1, ap (λ l. x ∷ l) s.2)) ]

-- no item stands in both of two parts
pub once-append : (i : ℕ) (xs ys : List ℕ) → EachOnce (xs ++ ys) → IsIn i xs → IsIn i ys → ⊥
once-append i [] ys once m n = m
once-append i (x ∷ xs) ys once m n =
    elim m [ inl e ↦ once.0 (in-append_right x xs ys (subst (λ j. IsIn j ys) e n)) | inr r ↦ once-append i xs ys once.1 r n ]

pub once-left : (xs ys : List ℕ) → EachOnce (xs ++ ys) → EachOnce xs
once-left [] ys once = tt
once-left (x ∷ xs) ys once = (λ m. once.0 (in-append_left x xs ys m), once-left xs ys once.1)

pub once-right : (xs ys : List ℕ) → EachOnce (xs ++ ys) → EachOnce ys
once-right [] ys once = once
once-right (x ∷ xs) ys once = once-right xs ys once.1

-- a list that has no i
pub without-none : (i : ℕ) (xs : List ℕ) → (IsIn i xs → ⊥) → without i xs ≡ xs
without-none i [] h = refl
without-none i (x ∷ xs) h =
    let e : eqb i x ≡ false = ne_eqb i x (λ e. h (inl e)) in
    rw e (ap (λ l. x ∷ l) (without-none i xs (λ m. h (inr m))))

pub without-split : (i : ℕ) (xs ys : List ℕ) → EachOnce (xs ++ i ∷ ys) → without i (xs ++ i ∷ ys) ≡ xs ++ ys
without-split i [] ys once =
    let e : eqb i i ≡ true = eq-eqb i i refl in
    rw e (without-none i ys once.0)
without-split i (x ∷ xs) ys once =
    let e : eqb i x ≡ false = ne_eqb i x (λ e. once.0 (in-append_right x xs (i ∷ ys) (inl (sym e)))) in
    rw e (ap (λ l. x ∷ l) (without-split i xs ys once.1))

-- what is left are items of the list, and not i
pub in-without : (i j : ℕ) (xs : List ℕ) → IsIn j (without i xs) → IsIn j xs × (i ≡ j → ⊥)
in-without i j [] m = absurd m
in-without i j (x ∷ xs) m =
    elim (cases_eq i x) [
      | inl e ↦ (let t : eqb i x ≡ true = eq-eqb i x e in
          let r = in-without i j xs (rw t at m) in (inr r.0, r.1))
      | inr n ↦ (let t : eqb i x ≡ false = ne_eqb i x n in
          elim (rw t at m) [ inl e ↦ (inl e, λ q. n (q ∙ e)) | inr r ↦ (let w = in-without i j xs r in (inr w.0, w.1)) ])
    ]

-- each item but i is left
pub in_without-from : (i j : ℕ) (xs : List ℕ) → IsIn j xs → (i ≡ j → ⊥) → IsIn j (without i xs)
in_without-from i j [] m n = absurd m
in_without-from i j (x ∷ xs) m n =
    elim (cases_eq i x) [
      | inl e ↦ (let t : eqb i x ≡ true = eq-eqb i x e in
          rw t (elim m [ inl q ↦ absurd (n (e ∙ sym q)) | inr r ↦ in_without-from i j xs r n ]))
      | inr d ↦ (let t : eqb i x ≡ false = ne_eqb i x d in
          rw t (elim m [ inl q ↦ inl q | inr r ↦ inr (in_without-from i j xs r n) ]))
    ]

pub once-without : (i : ℕ) (xs : List ℕ) → EachOnce xs → EachOnce (without i xs)
once-without i [] once = tt
once-without i (x ∷ xs) once =
    elim (cases_eq i x) [
      | inl e ↦ (let t : eqb i x ≡ true = eq-eqb i x e in rw t (once-without i xs once.1))
      | inr d ↦ (let t : eqb i x ≡ false = ne_eqb i x d in rw t (λ m. once.0 (in-without i x xs m).0, once-without i xs once.1))
    ]

-- a list that has no `next`
pub with_before-none : (next i : ℕ) (xs : List ℕ) → (IsIn next xs → ⊥) → with_before next i xs ≡ xs
with_before-none next i [] h = refl
with_before-none next i (x ∷ xs) h =
    let e : eqb next x ≡ false = ne_eqb next x (λ e. h (inl e)) in
    rw e (ap (λ l. x ∷ l) (with_before-none next i xs (λ m. h (inr m))))

pub with_before-split : (next i : ℕ) (xs ys : List ℕ) → (IsIn next xs → ⊥) → with_before next i (xs ++ next ∷ ys) ≡ xs ++ i ∷ next ∷ ys
with_before-split next i [] ys h = let e : eqb next next ≡ true = eq-eqb next next refl in rw e refl
with_before-split next i (x ∷ xs) ys h =
    let e : eqb next x ≡ false = ne_eqb next x (λ e. h (inl e)) in
    rw e (ap (λ l. x ∷ l) (with_before-split next i xs ys (λ m. h (inr m))))

-- with i put in before `next`, the items are i, if `next` is one, and those from before
pub in-with_before : (next i j : ℕ) (xs : List ℕ) → IsIn j (with_before next i xs) → ((j ≡ i) × IsIn next xs) ⊎ IsIn j xs
in-with_before next i j [] m = absurd m
in-with_before next i j (x ∷ xs) m =
    elim (cases_eq next x) [
      | inl e ↦ (let t : eqb next x ≡ true = eq-eqb next x e in
          elim (rw t at m) [ inl q ↦ inl (q, inl e) | inr r ↦ inr r ])
      | inr d ↦ (let t : eqb next x ≡ false = ne_eqb next x d in
          elim (rw t at m) [ inl q ↦ inr (inl q) | inr r ↦ elim (in-with_before next i j xs r) [ inl w ↦ inl (w.0, inr w.1) | inr w ↦ inr (inr w) ] ])
    ]

pub in_with_before-from : (next i j : ℕ) (xs : List ℕ) → IsIn j xs → IsIn j (with_before next i xs)
in_with_before-from next i j [] m = absurd m
in_with_before-from next i j (x ∷ xs) m =
    elim (cases_eq next x) [
      | inl e ↦ (let t : eqb next x ≡ true = eq-eqb next x e in rw t (inr m))
      | inr d ↦ (let t : eqb next x ≡ false = ne_eqb next x d in
          rw t (elim m [ inl q ↦ inl q | inr r ↦ inr (in_with_before-from next i j xs r) ]))
    ]

pub in_with_before-new : (next i : ℕ) (xs : List ℕ) → IsIn next xs → IsIn i (with_before next i xs)
in_with_before-new next i [] m = absurd m
in_with_before-new next i (x ∷ xs) m =
    elim (cases_eq next x) [
      | inl e ↦ (let t : eqb next x ≡ true = eq-eqb next x e in rw t (inl refl))
      | inr d ↦ (let t : eqb next x ≡ false = ne_eqb next x d in
          rw t (elim m [ inl q ↦ absurd (d q) | inr r ↦ inr (in_with_before-new next i xs r) ]))
    ]

pub once-with_before : (next i : ℕ) (xs : List ℕ) → EachOnce xs → (IsIn i xs → ⊥) → EachOnce (with_before next i xs)
once-with_before next i [] once new = tt
once-with_before next i (x ∷ xs) once new =
    elim (cases_eq next x) [
      | inl e ↦ (let t : eqb next x ≡ true = eq-eqb next x e in rw t (new, once))
      | inr d ↦ (let t : eqb next x ≡ false = ne_eqb next x d in
          rw t (
            λ m. elim (in-with_before next i x xs m) [ inl w ↦ new (inl (sym w.0)) | inr r ↦ once.0 r ],
            once-with_before next i xs once.1 (λ m. new (inr m)),
          ))
    ]

pub length-without-le : (i : ℕ) (xs : List ℕ) → length (without i xs) ≤ length xs
length-without-le i [] = omega arith
length-without-le i (x ∷ xs) =
    let h = length-without-le i xs in
    elim (cases_eq i x) [
      | inl e ↦ (let t : eqb i x ≡ true = eq-eqb i x e in rw t (omega arith))
      | inr d ↦ (let t : eqb i x ≡ false = ne_eqb i x d in rw t (omega arith))
    ]

pub length-without-lt : (i : ℕ) (xs : List ℕ) → IsIn i xs → length (without i xs) < length xs
length-without-lt i [] m = absurd m
length-without-lt i (x ∷ xs) m =
    elim (cases_eq i x) [
      | inl e ↦ (let t : eqb i x ≡ true = eq-eqb i x e in let h = length-without-le i xs in rw t (omega arith))
      | inr d ↦ (let t : eqb i x ≡ false = ne_eqb i x d in
          elim m [ inl q ↦ absurd (d q) | inr r ↦ (let h = length-without-lt i xs r in rw t (omega arith)) ])
    ]

-- what the first item of a list says of it
pub headed : (xs : List ℕ) (a : ℕ) → slice_get xs 0 ≡ Some a → (rest : List ℕ) × (xs ≡ a ∷ rest)
headed [] a e = absurd (none-some a e)
headed (x ∷ xs) a e = (xs, ap (λ y. y ∷ xs) (same_Some x a e))

pub head_in : (xs : List ℕ) (a : ℕ) → slice_get xs 0 ≡ Some a → IsIn a xs
head_in [] a e = absurd (none-some a e)
head_in (x ∷ xs) a e = inl (sym (same_Some x a e))

pub headless : (xs : List ℕ) → slice_get xs 0 ≡ None → xs ≡ []
headless [] e = refl
headless (x ∷ xs) e = absurd (none-some x (sym e))

-- the only item of a list
pub only_item : (xs : List ℕ) (a : ℕ) → IsIn a xs → length xs ≤ 1 → xs ≡ a ∷ []
only_item [] a m l = absurd m
only_item (x ∷ []) a m l = elim m [ inl e ↦ ap (λ y. y ∷ []) (sym e) | inr r ↦ absurd r ]
only_item (x ∷ y ∷ ys) a m l = absurd (omega arith)
