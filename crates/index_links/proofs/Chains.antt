-- What chains of links say of their items.
use Rattle.std.proofs.Common.{◌≡◌, ℕ, zero, ◌<◌, ◌≤◌, suc, List, [], ◌∷◌, ◌++◌, inl, inr, length, refl, sym, ◌∙◌, ap, subst, arith, Option, Some, None}
use Rattle.std.proofs.lemmas.List.{ext_get_or, length-map, get_or-map, get_or_past}
use Rattle.std.proofs.lemmas.Bool.{cases_lt}
use Rattle.std.proofs.lemmas.Option.{same_Some, none-some}
use Rattle.std.specs.Prelude.{slice_get}
use Rattle.index_links.specs.Lists.{IsIn, EachOnce, list_at, AreDisjoint}
use Rattle.index_links.specs.declared.rings.Slot.{Slot}
use Rattle.index_links.specs.declared.rings.Ends.{Ends}
use Rattle.index_links.specs.Links.{slot_at, ends_at, no_ends, items_from, last_of, IsChain, IsRing, Spells, spelled_lists}
use Rattle.index_links.proofs.Members.{length-le_once, in-append_right}

-- an item of a chain is in range and knows its list
pub chain_slot : (s : List Slot) (k : ℕ) (b from : Option ℕ) (xs : List ℕ) (to : Option ℕ) (i : ℕ) → IsChain s k b from xs to → IsIn i xs → (i < length s) × ((slot_at s i).list ≡ Some k)
chain_slot s k b from [] to i h m = absurd m
chain_slot s k b from (x ∷ xs) to i h m =
    elim m [
      | inl e ↦ subst (λ j. (j < length s) × ((slot_at s j).list ≡ Some k)) (sym e) (h.1, h.2)
      | inr r ↦ chain_slot s k (Some x) (slot_at s x).next xs to i h.4 r
    ]

-- what three links say of a slot in two states
pub record SameSlot (s t : List Slot) (x : ℕ) : Type 0 where
  pub list : (slot_at t x).list ≡ (slot_at s x).list
  pub prev : (slot_at t x).prev ≡ (slot_at s x).prev
  pub next : (slot_at t x).next ≡ (slot_at s x).next

-- a chain whose slots stay
pub chain_frame : (s t : List Slot) (k : ℕ) (b from : Option ℕ) (xs : List ℕ) (to : Option ℕ) → length s ≤ length t
    → ((x : ℕ) → IsIn x xs → SameSlot s t x) → IsChain s k b from xs to → IsChain t k b from xs to
chain_frame s t k b from [] to l same h = h
chain_frame s t k b from (x ∷ xs) to l same h =
    let e = same x (inl refl) in (
      h.0,
      omega (arith, h.1),
      e.list ∙ h.2,
      e.prev ∙ h.3,
      chain_frame s t k (Some x) (slot_at t x).next xs to l (λ z m. same z (inr m)) (subst (λ f. IsChain s k (Some x) f xs to) (sym e.next) h.4),
    )

-- a chain over two parts is a chain over each
pub chain_split : (s : List Slot) (k : ℕ) (b from : Option ℕ) (xs ys : List ℕ) (to : Option ℕ) → IsChain s k b from (xs ++ ys) to
    → (between : Option ℕ) × IsChain s k b from xs between × IsChain s k (last_of b xs) between ys to
chain_split s k b from [] ys to h = (from, refl, h)
chain_split s k b from (x ∷ xs) ys to h =
    let r = chain_split s k (Some x) (slot_at s x).next xs ys to h.4 in (r.0, (h.0, h.1, h.2, h.3, r.1), r.2)

pub chain_join : (s : List Slot) (k : ℕ) (b from between : Option ℕ) (xs ys : List ℕ) (to : Option ℕ) → IsChain s k b from xs between → IsChain s k (last_of b xs) between ys to
    → IsChain s k b from (xs ++ ys) to
chain_join s k b from between [] ys to h g = subst (λ f. IsChain s k b f ys to) (sym h) g
chain_join s k b from between (x ∷ xs) ys to h g = (h.0, h.1, h.2, h.3, chain_join s k (Some x) (slot_at s x).next between xs ys to h.4 g)

-- where a whole chain begins
pub chain_head : (s : List Slot) (k : ℕ) (b from : Option ℕ) (xs : List ℕ) → IsChain s k b from xs None → from ≡ slice_get xs 0
chain_head s k b from [] h = h
chain_head s k b from (x ∷ xs) h = h.0

pub chain_first : (s : List Slot) (k : ℕ) (b from : Option ℕ) (xs : List ℕ) (z : ℕ) → IsChain s k b from xs None → from ≡ Some z → IsIn z xs
chain_first s k b from [] z h e = absurd (none-some z (sym h ∙ e))
chain_first s k b from (x ∷ xs) z h e = inl (same_Some z x (sym e ∙ h.0))

pub last_in : (b : Option ℕ) (y : ℕ) (ys : List ℕ) (z : ℕ) → last_of b (y ∷ ys) ≡ Some z → IsIn z (y ∷ ys)
last_in b y [] z h = inl (same_Some z y (sym h))
last_in b y (w ∷ ws) z h = inr (last_in (Some y) w ws z h)

pub last_found : (xs : List ℕ) (z : ℕ) → last_of None xs ≡ Some z → IsIn z xs
last_found [] z h = absurd (none-some z h)
last_found (x ∷ xs) z h = last_in None x xs z h

pub last_some : (x : ℕ) (xs : List ℕ) → (z : ℕ) × (last_of (Some x) xs ≡ Some z)
last_some x [] = (x, refl)
last_some x (y ∷ ys) = last_some y ys

pub last-append : (b : Option ℕ) (xs ys : List ℕ) → last_of b (xs ++ ys) ≡ last_of (last_of b xs) ys
last-append b [] ys = refl
last-append b (x ∷ xs) ys = last-append (Some x) xs ys

-- the forward links give the items of a chain
items_chain : (s : List Slot) (k n : ℕ) (b from : Option ℕ) (xs : List ℕ) → IsChain s k b from xs None → length xs ≤ n → items_from s n from ≡ xs
items_chain s k zero b from [] h l = refl
items_chain s k (suc n) b from [] h l = ap (items_from s (suc n)) h
items_chain s k zero b from (x ∷ xs) h l = absurd (omega arith)
items_chain s k (suc n) b from (x ∷ xs) h l =
    ap (items_from s (suc n)) h.0 ∙ ap (λ r. x ∷ r) (items_chain s k n (Some x) (slot_at s x).next xs h.4 (omega arith))

ring_length : (s : List Slot) (k : ℕ) (e : Ends) (xs : List ℕ) → IsRing s k e xs → length xs ≤ length s
ring_length s k e xs r = length-le_once (length s) xs r.once (λ i m. (chain_slot s k None e.first xs None i r.chain m).0)

-- links spell one list of lists
pub spelled_is : (es : List Ends) (s : List Slot) (ls : List (List ℕ)) → Spells es s ls → spelled_lists es s ≡ ls
spelled_is es s ls h =
    ext_get_or [] (spelled_lists es s) ls (length-map es (λ (e : Ends). items_from s (length s) e.first) ∙ sym h.count) (λ k l.
    let lk : k < length es = omega (arith, length-map es (λ (e : Ends). items_from s (length s) e.first)) in
    get_or-map (λ (e : Ends). items_from s (length s) e.first) es k no_ends [] lk
    ∙ items_chain s k (length s) None (ends_at es k).first (list_at ls k) (h.rings k lk).chain (ring_length s k (ends_at es k) (list_at ls k) (h.rings k lk)))

-- a list that has an item is one of the lists
pub linked_within : (ls : List (List ℕ)) (k i : ℕ) → IsIn i (list_at ls k) → k < length ls
linked_within ls k i m =
    elim (cases_lt k (length ls)) [ inl l ↦ l | inr g ↦ absurd (subst (λ l. IsIn i l) (get_or_past ls k [] g) m) ]

-- a linked item is in range and knows its list
pub linked_home : (es : List Ends) (s : List Slot) (ls : List (List ℕ)) → Spells es s ls → (k i : ℕ) → IsIn i (list_at ls k) → (i < length s) × ((slot_at s i).list ≡ Some k)
linked_home es s ls h k i m =
    let l : k < length ls = linked_within ls k i m in
    let c : length ls ≡ length es = h.count in
    chain_slot s k None (ends_at es k).first (list_at ls k) None i (h.rings k (omega arith)).chain m

-- what stands behind an item of a list
pub next_is : (es : List Ends) (s : List Slot) (ls : List (List ℕ)) → Spells es s ls → (k i : ℕ) (before after : List ℕ) → list_at ls k ≡ before ++ i ∷ after → (slot_at s i).next ≡ slice_get after 0
next_is es s ls h k i before after e =
    let m : IsIn i (list_at ls k) = subst (λ l. IsIn i l) (sym e) (in-append_right i before (i ∷ after) (inl refl)) in
    let l : k < length ls = linked_within ls k i m in
    let c : length ls ≡ length es = h.count in
    let g = chain_split s k None (ends_at es k).first before (i ∷ after) None (subst (λ l. IsChain s k None (ends_at es k).first l None) e (h.rings k (omega arith)).chain) in
    chain_head s k (Some i) (slot_at s i).next after g.2.4

pub first_is : (es : List Ends) (s : List Slot) (ls : List (List ℕ)) → Spells es s ls → (k : ℕ) → k < length ls → (ends_at es k).first ≡ slice_get (list_at ls k) 0
first_is es s ls h k l =
    let c : length ls ≡ length es = h.count in
    chain_head s k None (ends_at es k).first (list_at ls k) (h.rings k (omega arith)).chain

pub are_disjoint : (es : List Ends) (s : List Slot) (ls : List (List ℕ)) → Spells es s ls → AreDisjoint (record { lists = ls; items = length s })
are_disjoint es s ls h = record {
  once = λ k. elim (cases_lt k (length es)) [
    | inl l ↦ (h.rings k l).once
    | inr g ↦ (let c : length ls ≡ length es = h.count in subst (λ (l : List ℕ). EachOnce l) (sym (get_or_past ls k [] (omega arith))) tt)
  ];
  one_list = λ i j k a b. same_Some j k (sym (linked_home es s ls h j i a).1 ∙ (linked_home es s ls h k i b).1);
  in_range = λ i k m. (linked_home es s ls h k i m).0;
}
