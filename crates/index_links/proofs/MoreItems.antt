-- More lists and more items.
use Rattle.std.proofs.Common.{◌≡◌, ℕ, ◌+◌, ◌-◌, ◌≤◌, List, [], ◌++◌, inl, inr, length, max, take, replicate, refl, sym, ◌∙◌, ap, subst, arith, None}
use Rattle.std.proofs.lemmas.Bool.{cases_lt}
use Rattle.std.proofs.lemmas.List.{get_or_past, length-append, length-replicate, take_all}
use Rattle.index_links.specs.Lists.{Lists, IsIn, list_at, lists_padded}
use Rattle.index_links.specs.declared.rings.Slot.{Slot}
use Rattle.index_links.specs.declared.rings.Ends.{Ends}
use Rattle.index_links.specs.Links.{slot_at, unlinked, ends_at, no_ends, IsRing, Spells, spelled_lists}
use Rattle.index_links.proofs.Chains.{chain_frame}
use Rattle.index_links.proofs.ListChanges.{get_or-padded}
use Rattle.index_links.proofs.Calls.{IsNow, is_now, view}

module _ (es : List Ends) (s : List Slot) (ls : List (List ℕ)) (h : Spells es s ls) (m n : ℕ) where
  abbrev more_ends : List Ends
  more_ends = es ++ replicate m no_ends

  abbrev more_slots : List Slot
  more_slots = s ++ replicate n unlinked

  abbrev more_lists : List (List ℕ)
  more_lists = ls ++ replicate m []

  same_slot : (x : ℕ) → slot_at more_slots x ≡ slot_at s x
  same_slot x = get_or-padded s n x unlinked

  ring : (j : ℕ) → IsRing more_slots j (ends_at es j) (list_at ls j)
  ring j =
      elim (cases_lt j (length es)) [
        | inl l ↦ (let r : IsRing s j (ends_at es j) (list_at ls j) = h.rings j l in
            record {
              chain = chain_frame s more_slots j None (ends_at es j).first (list_at ls j) None (omega (arith, length-append s (replicate n unlinked)))
                  (λ x m. record {
                    list = ap (λ (v : Slot). v.list) (same_slot x);
                    prev = ap (λ (v : Slot). v.prev) (same_slot x);
                    next = ap (λ (v : Slot). v.next) (same_slot x);
                  })
                  r.chain;
              ending = r.ending;
              once = r.once;
            })
        | inr g ↦
            (let c : length ls ≡ length es = h.count in
            subst (λ (e : Ends). IsRing more_slots j e (list_at ls j)) (sym (get_or_past es j no_ends g))
            (subst (λ (l : List ℕ). IsRing more_slots j no_ends l) (sym (get_or_past ls j [] (omega arith))) (record { chain = refl; ending = refl; once = tt })))
      ]

  pub grow_spells : Spells more_ends more_slots more_lists
  grow_spells = record {
    count =
        length-append ls (replicate m []) ∙ ap (λ k. k + length (replicate {A = List ℕ} m [])) h.count
        ∙ ap (λ k. length es + k) (length-replicate {A = List ℕ} m [] ∙ sym (length-replicate m no_ends)) ∙ sym (length-append es (replicate m no_ends));
    rings = λ j l.
        subst (λ (e : Ends). IsRing more_slots j e (list_at more_lists j)) (sym (get_or-padded es m j no_ends))
        (subst (λ (l : List ℕ). IsRing more_slots j (ends_at es j) l) (sym (get_or-padded ls m j [])) (ring j));
    homes = λ i k e. subst (λ (l : List ℕ). IsIn i l) (sym (get_or-padded ls m k [])) (h.homes i k (sym (ap (λ (v : Slot). v.list) (same_slot i)) ∙ e));
  }

-- what `resize` leaves, where it does not shrink
pub resized : {X : Type 0} (xs ys : List X) (n : ℕ) (d : X) → length xs ≤ n → ys ≡ take n xs ++ replicate (n - length xs) d → ys ≡ xs ++ replicate (n - length xs) d
resized xs ys n d l e = e ∙ ap (λ z. z ++ replicate (n - length xs) d) (take_all n xs l)

pub grown : (es fs : List Ends) (s t : List Slot) (o : Lists) (a b m n : ℕ) → Spells es s (spelled_lists es s) → view es s ≡ o
    → m ≡ max a (length es) → n ≡ max b (length s)
    → fs ≡ take m es ++ replicate (m - length es) no_ends → t ≡ take n s ++ replicate (n - length s) unlinked
    → IsNow fs t (record { lists = lists_padded o.lists a; items = max b o.items })
grown es fs s t o a b m n h is me ne ee se =
    let old : List (List ℕ) = spelled_lists es s in
    let c : length old ≡ length es = h.count in
    let e : fs ≡ es ++ replicate (m - length es) no_ends = resized es fs m no_ends (omega arith) ee in
    let f : t ≡ s ++ replicate (n - length s) unlinked = resized s t n unlinked (omega arith) se in
    let d : m - length es ≡ a - length old = omega arith in
    let len : length (s ++ replicate (n - length s) unlinked) ≡ max b (length s) =
    length-append s (replicate (n - length s) unlinked) ∙ (let r : length (replicate (n - length s) unlinked) ≡ n - length s = length-replicate (n - length s) unlinked in omega arith) in
    subst (λ (o : Lists). IsNow fs t (record { lists = lists_padded o.lists a; items = max b o.items })) is
    (is_now fs t (lists_padded old a) (max b (length s))
    (subst (λ (z : List Ends). Spells z t (lists_padded old a)) (sym e)
    (subst (λ (z : List Slot). Spells (es ++ replicate (m - length es) no_ends) z (lists_padded old a)) (sym f)
    (subst (λ k. Spells (es ++ replicate (m - length es) no_ends) (s ++ replicate (n - length s) unlinked) (old ++ replicate k [])) d
    (grow_spells es s old h (m - length es) (n - length s)))))
    (ap length f ∙ len))
