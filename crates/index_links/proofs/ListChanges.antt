-- Where items stand after the calls of `Rings`. The crates above cite these.
use Rattle.std.proofs.Common.{◌≡◌, ℕ, zero, suc, ◌-◌, ◌<◌, List, [], ◌∷◌, ◌++◌, ◌⊎◌, inl, inr, length, map, max, replicate, get_or, refl, sym, ◌∙◌, ap, subst, arith, get_or-set_same, get_or-set_other}
use Rattle.std.proofs.lemmas.Bool.{cases_eq, cases_lt}
use Rattle.std.proofs.lemmas.List.{get_or_past, length-map, get_or-map}
use Rattle.index_links.specs.Lists.{Lists, IsIn, IsLinked, EachOnce, AreDisjoint, list_at, lists_padded, lists_with_before, lists_with_last, lists_without, with_before, without}
use Rattle.index_links.proofs.Members.{in-append_left, in-append_right, in-append_cases, in-without, in_without-from, in-with_before, in_with_before-from, in_with_before-new, once-inserted, once-with_before, once-without, without-none, with_before-none}
use Rattle.std.proofs.lemmas.List.{append-nil}

-- more elements that are the default change no read
pub get_or-padded : {X : Type 0} (xs : List X) (n i : ℕ) (d : X) → get_or (xs ++ replicate n d) i d ≡ get_or xs i d
get_or-padded [] zero i d = refl
get_or-padded [] (suc n) zero d = refl
get_or-padded [] (suc n) (suc i) d = get_or-padded [] n i d
get_or-padded (x ∷ xs) n zero d = refl
get_or-padded (x ∷ xs) n (suc i) d = get_or-padded xs n i d

pub list_at-padded : (ls : List (List ℕ)) (n k : ℕ) → list_at (lists_padded ls n) k ≡ list_at ls k
list_at-padded ls n k = get_or-padded ls (n - length ls) k []

-- a change of each list, read at one of them
list_at-map : (f : List ℕ → List ℕ) (ls : List (List ℕ)) (k : ℕ) → f [] ≡ [] → list_at (map f ls) k ≡ f (list_at ls k)
list_at-map f ls k e =
    elim (cases_lt k (length ls)) [
      | inl l ↦ get_or-map f ls k [] [] l
      | inr g ↦ get_or_past (map f ls) k [] (omega (arith, length-map ls f)) ∙ sym e ∙ ap f (sym (get_or_past ls k [] g))
    ]

pub list_at-without : (ls : List (List ℕ)) (i k : ℕ) → list_at (lists_without ls i) k ≡ without i (list_at ls k)
list_at-without ls i k = list_at-map (without i) ls k refl

pub list_at-with_before : (ls : List (List ℕ)) (next i k : ℕ) → list_at (lists_with_before ls next i) k ≡ with_before next i (list_at ls k)
list_at-with_before ls next i k = list_at-map (with_before next i) ls k refl

pub list_at-with_last : (ls : List (List ℕ)) (p i : ℕ) → p < length ls → list_at (lists_with_last ls p i) p ≡ list_at ls p ++ i ∷ []
list_at-with_last ls p i l = get_or-set_same ls p (list_at ls p ++ i ∷ []) [] l

pub list_at-with_last_other : (ls : List (List ℕ)) (p i k : ℕ) → (k ≡ p → ⊥) → list_at (lists_with_last ls p i) k ≡ list_at ls k
list_at-with_last_other ls p i k n = get_or-set_other ls p k (list_at ls p ++ i ∷ []) [] n

-- the other lists, where the item stands in one
pub list_at-without_other : (ls : List (List ℕ)) (i k : ℕ) → (IsIn i (list_at ls k) → ⊥) → list_at (lists_without ls i) k ≡ list_at ls k
list_at-without_other ls i k h = list_at-without ls i k ∙ without-none i (list_at ls k) h

pub list_at-with_before_other : (ls : List (List ℕ)) (next i k : ℕ) → (IsIn next (list_at ls k) → ⊥) → list_at (lists_with_before ls next i) k ≡ list_at ls k
list_at-with_before_other ls next i k h = list_at-with_before ls next i k ∙ with_before-none next i (list_at ls k) h

-- after `link_last`: an item of list k was in it, or it is the new one
pub with_last_in : (ls : List (List ℕ)) (p i j k : ℕ) → p < length ls → IsIn j (list_at (lists_with_last ls p i) k) → IsIn j (list_at ls k) ⊎ ((k ≡ p) × (j ≡ i))
with_last_in ls p i j k l m =
    elim (cases_eq k p) [
      | inl e ↦ elim (in-append_cases j (list_at ls p) (i ∷ []) (subst (λ (l : List ℕ). IsIn j l) (list_at-with_last ls p i l) (subst (λ y. IsIn j (list_at (lists_with_last ls p i) y)) e m))) [
        | inl a ↦ inl (subst (λ y. IsIn j (list_at ls y)) (sym e) a)
        | inr b ↦ elim b [ inl q ↦ inr (e, q) | inr n ↦ absurd n ]
      ]
      | inr n ↦ inl (subst (λ (l : List ℕ). IsIn j l) (list_at-with_last_other ls p i k n) m)
    ]

pub with_last_keeps : (ls : List (List ℕ)) (p i j k : ℕ) → p < length ls → IsIn j (list_at ls k) → IsIn j (list_at (lists_with_last ls p i) k)
with_last_keeps ls p i j k l m =
    elim (cases_eq k p) [
      | inl e ↦ subst (λ y. IsIn j (list_at (lists_with_last ls p i) y)) (sym e)
          (subst (λ (l : List ℕ). IsIn j l) (sym (list_at-with_last ls p i l)) (in-append_left j (list_at ls p) (i ∷ []) (subst (λ y. IsIn j (list_at ls y)) e m)))
      | inr n ↦ subst (λ (l : List ℕ). IsIn j l) (sym (list_at-with_last_other ls p i k n)) m
    ]

pub with_last_has : (ls : List (List ℕ)) (p i : ℕ) → p < length ls → IsIn i (list_at (lists_with_last ls p i) p)
with_last_has ls p i l = subst (λ (l : List ℕ). IsIn i l) (sym (list_at-with_last ls p i l)) (in-append_right i (list_at ls p) (i ∷ []) (inl refl))

-- after `unlink`: an item of list k was in it, and is another one
pub without_in : (ls : List (List ℕ)) (i j k : ℕ) → IsIn j (list_at (lists_without ls i) k) → IsIn j (list_at ls k) × (i ≡ j → ⊥)
without_in ls i j k m = in-without i j (list_at ls k) (subst (λ (l : List ℕ). IsIn j l) (list_at-without ls i k) m)

pub without_keeps : (ls : List (List ℕ)) (i j k : ℕ) → IsIn j (list_at ls k) → (i ≡ j → ⊥) → IsIn j (list_at (lists_without ls i) k)
without_keeps ls i j k m n = subst (λ (l : List ℕ). IsIn j l) (sym (list_at-without ls i k)) (in_without-from i j (list_at ls k) m n)

-- after `link_before`: an item of list k was in it, or it is the new one in the list of `next`
pub with_before_in : (ls : List (List ℕ)) (next i j k : ℕ) → IsIn j (list_at (lists_with_before ls next i) k) → ((j ≡ i) × IsIn next (list_at ls k)) ⊎ IsIn j (list_at ls k)
with_before_in ls next i j k m = in-with_before next i j (list_at ls k) (subst (λ (l : List ℕ). IsIn j l) (list_at-with_before ls next i k) m)

pub with_before_keeps : (ls : List (List ℕ)) (next i j k : ℕ) → IsIn j (list_at ls k) → IsIn j (list_at (lists_with_before ls next i) k)
with_before_keeps ls next i j k m = subst (λ (l : List ℕ). IsIn j l) (sym (list_at-with_before ls next i k)) (in_with_before-from next i j (list_at ls k) m)

pub with_before_has : (ls : List (List ℕ)) (next i k : ℕ) → IsIn next (list_at ls k) → IsIn i (list_at (lists_with_before ls next i) k)
with_before_has ls next i k m = subst (λ (l : List ℕ). IsIn i l) (sym (list_at-with_before ls next i k)) (in_with_before-new next i (list_at ls k) m)

-- each call keeps the lists disjoint
pub disjoint-new : AreDisjoint (record { lists = []; items = 0 })
disjoint-new = record {
  once = λ k. subst (λ (l : List ℕ). EachOnce l) (sym (get_or_past [] k [] (omega arith))) tt;
  one_list = λ i j k m n. absurd (subst (λ (l : List ℕ). IsIn i l) (get_or_past [] j [] (omega arith)) m);
  in_range = λ i k m. absurd (subst (λ (l : List ℕ). IsIn i l) (get_or_past [] k [] (omega arith)) m);
}

pub disjoint-padded : (o : Lists) (lists items : ℕ) → AreDisjoint o → AreDisjoint (record { lists = lists_padded o.lists lists; items = max items o.items })
disjoint-padded o lists items d =
    let same : (k : ℕ) → list_at (lists_padded o.lists lists) k ≡ list_at o.lists k = λ k. list_at-padded o.lists lists k in
    record {
      once = λ k. subst (λ (l : List ℕ). EachOnce l) (sym (same k)) (d.once k);
      one_list = λ i j k m n. d.one_list i j k (subst (λ (l : List ℕ). IsIn i l) (same j) m) (subst (λ (l : List ℕ). IsIn i l) (same k) n);
      in_range = λ i k m. let l : i < o.items = d.in_range i k (subst (λ (l : List ℕ). IsIn i l) (same k) m) in omega arith;
    }

pub disjoint-without : (o : Lists) (i : ℕ) → AreDisjoint o → AreDisjoint (record { lists = lists_without o.lists i; items = o.items })
disjoint-without o i d = record {
  once = λ k. subst (λ (l : List ℕ). EachOnce l) (sym (list_at-without o.lists i k)) (once-without i (list_at o.lists k) (d.once k));
  one_list = λ x j k m n. d.one_list x j k (without_in o.lists i x j m).0 (without_in o.lists i x k n).0;
  in_range = λ x k m. d.in_range x k (without_in o.lists i x k m).0;
}

pub disjoint-with_last : (o : Lists) (p i : ℕ) → p < length o.lists → i < o.items → (IsLinked o.lists i → ⊥) → AreDisjoint o → AreDisjoint (record { lists = lists_with_last o.lists p i; items = o.items })
disjoint-with_last o p i l li free d = record {
  once = λ k. elim (cases_eq k p) [
    | inl e ↦ subst (λ y. EachOnce (list_at (lists_with_last o.lists p i) y)) (sym e)
        (subst (λ (l : List ℕ). EachOnce l) (sym (list_at-with_last o.lists p i l))
        (once-inserted i (list_at o.lists p) [] (subst (λ (l : List ℕ). EachOnce l) (sym (append-nil (list_at o.lists p))) (d.once p))
        (λ m. free (p, subst (λ (l : List ℕ). IsIn i l) (append-nil (list_at o.lists p)) m))))
    | inr n ↦ subst (λ (l : List ℕ). EachOnce l) (sym (list_at-with_last_other o.lists p i k n)) (d.once k)
  ];
  one_list = λ x j k m n.
      elim (with_last_in o.lists p i x j l m) [
        | inl a ↦ elim (with_last_in o.lists p i x k l n) [ inl b ↦ d.one_list x j k a b | inr b ↦ absurd (free (j, subst (λ y. IsIn y (list_at o.lists j)) b.1 a)) ]
        | inr a ↦ elim (with_last_in o.lists p i x k l n) [ inl b ↦ absurd (free (k, subst (λ y. IsIn y (list_at o.lists k)) a.1 b)) | inr b ↦ a.0 ∙ sym b.0 ]
      ];
  in_range = λ x k m. elim (with_last_in o.lists p i x k l m) [ inl a ↦ d.in_range x k a | inr b ↦ omega arith ];
}

pub disjoint-with_before : (o : Lists) (next i : ℕ) → i < o.items → (IsLinked o.lists i → ⊥) → AreDisjoint o → AreDisjoint (record { lists = lists_with_before o.lists next i; items = o.items })
disjoint-with_before o next i li free d = record {
  once = λ k. subst (λ (l : List ℕ). EachOnce l) (sym (list_at-with_before o.lists next i k)) (once-with_before next i (list_at o.lists k) (d.once k) (λ m. free (k, m)));
  one_list = λ x j k m n.
      elim (with_before_in o.lists next i x j m) [
        | inl a ↦ elim (with_before_in o.lists next i x k n) [ inl b ↦ d.one_list next j k a.1 b.1 | inr b ↦ absurd (free (k, subst (λ y. IsIn y (list_at o.lists k)) a.0 b)) ]
        | inr a ↦ elim (with_before_in o.lists next i x k n) [ inl b ↦ absurd (free (j, subst (λ y. IsIn y (list_at o.lists j)) b.0 a)) | inr b ↦ d.one_list x j k a b ]
      ];
  in_range = λ x k m. elim (with_before_in o.lists next i x k m) [ inl a ↦ omega arith | inr b ↦ d.in_range x k b ];
}
