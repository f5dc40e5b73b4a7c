-- What two writes of links and one of a slot leave.
use Rattle.std.proofs.Common.{◌≡◌, ℕ, ◌<◌, List, [], ◌∷◌, inl, inr, length, set, refl, sym, ◌∙◌, ap, subst, arith, Option, Some, None, get_or-set_same, get_or-set_other, length-set}
use Rattle.std.proofs.lemmas.Bool.{cases_eq, cases_lt}
use Rattle.std.proofs.lemmas.List.{get_or_past}
use Rattle.std.proofs.lemmas.Option.{same_Some}
use Rattle.index_links.specs.Lists.{IsIn, EachOnce, list_at}
use Rattle.index_links.specs.declared.rings.Slot.{Slot}
use Rattle.index_links.specs.declared.rings.Ends.{Ends}
use Rattle.index_links.specs.Links.{slot_at, unlinked, ends_at, no_ends, last_of, IsChain, IsRing, Spells, slots_with_next, slots_with_prev, ends_with_first, ends_with_last}
use Rattle.index_links.proofs.Chains.{chain_frame, chain_slot, last_in, last_some}

-- the forward link of p was set
pub record NextSet (s t : List Slot) (p to : Option ℕ) : Type 0 where
  pub len : length t ≡ length s
  pub list : (x : ℕ) → (slot_at t x).list ≡ (slot_at s x).list
  pub prev : (x : ℕ) → (slot_at t x).prev ≡ (slot_at s x).prev
  pub here : (x : ℕ) → x < length s → p ≡ Some x → (slot_at t x).next ≡ to
  pub there : (x : ℕ) → (p ≡ Some x → ⊥) → (slot_at t x).next ≡ (slot_at s x).next

-- the back link of n was set
pub record PrevSet (s t : List Slot) (n to : Option ℕ) : Type 0 where
  pub len : length t ≡ length s
  pub list : (x : ℕ) → (slot_at t x).list ≡ (slot_at s x).list
  pub next : (x : ℕ) → (slot_at t x).next ≡ (slot_at s x).next
  pub here : (x : ℕ) → x < length s → n ≡ Some x → (slot_at t x).prev ≡ to
  pub there : (x : ℕ) → (n ≡ Some x → ⊥) → (slot_at t x).prev ≡ (slot_at s x).prev

set_here : (s : List Slot) (i : ℕ) (v : Slot) → i < length s → slot_at (set s i v) i ≡ v
set_here s i v l = get_or-set_same s i v unlinked l

set_there : (s : List Slot) (i x : ℕ) (v : Slot) → (x ≡ i → ⊥) → slot_at (set s i v) x ≡ slot_at s x
set_there s i x v n = get_or-set_other s i x v unlinked n

-- a field that the written slot has as before
set_keeps : {X : Type 0} (f : Slot → X) (s : List Slot) (p x : ℕ) (v : Slot) → f v ≡ f (slot_at s p) → f (slot_at (set s p v) x) ≡ f (slot_at s x)
set_keeps f s p x v h =
    elim (cases_eq x p) [
      | inl e ↦ elim (cases_lt p (length s)) [
        | inl l ↦ ap (λ j. f (slot_at (set s p v) j)) e ∙ ap f (set_here s p v l) ∙ h ∙ ap (λ j. f (slot_at s j)) (sym e)
        | inr g ↦ ap f (get_or_past (set s p v) x unlinked (let k : length (set s p v) ≡ length s = length-set s p v in omega arith)) ∙ ap f (sym (get_or_past s x unlinked (omega arith)))
      ]
      | inr n ↦ ap f (set_there s p x v n)
    ]

next_written : (s : List Slot) (p to : Option ℕ) → NextSet s (slots_with_next s p to) p to
next_written s None to = record { len = refl; list = λ x. refl; prev = λ x. refl; here = λ x l e. absurd (cc); there = λ x n. refl }
next_written s (Some p) to =
    let v : Slot = record { list = (slot_at s p).list; prev = (slot_at s p).prev; next = to } in
    record {
      len = length-set s p v;
      list = λ x. set_keeps (λ (w : Slot). w.list) s p x v refl;
      prev = λ x. set_keeps (λ (w : Slot). w.prev) s p x v refl;
      here = λ x l e. let q : p ≡ x = same_Some p x e in ap (λ (j : ℕ). (slot_at (set s p v) j).next) (sym q) ∙ ap (λ (w : Slot). w.next) (set_here s p v (omega arith));
      there = λ x n. ap (λ (w : Slot). w.next) (set_there s p x v (λ e. n (ap Some (sym e))));
    }

prev_written : (s : List Slot) (n to : Option ℕ) → PrevSet s (slots_with_prev s n to) n to
prev_written s None to = record { len = refl; list = λ x. refl; next = λ x. refl; here = λ x l e. absurd (cc); there = λ x n. refl }
prev_written s (Some p) to =
    let v : Slot = record { list = (slot_at s p).list; prev = to; next = (slot_at s p).next } in
    record {
      len = length-set s p v;
      list = λ x. set_keeps (λ (w : Slot). w.list) s p x v refl;
      next = λ x. set_keeps (λ (w : Slot). w.next) s p x v refl;
      here = λ x l e. let q : p ≡ x = same_Some p x e in ap (λ (j : ℕ). (slot_at (set s p v) j).prev) (sym q) ∙ ap (λ (w : Slot). w.prev) (set_here s p v (omega arith));
      there = λ x n. ap (λ (w : Slot). w.prev) (set_there s p x v (λ e. n (ap Some (sym e))));
    }

pub next_set : (s t : List Slot) (p to : Option ℕ) → t ≡ slots_with_next s p to → NextSet s t p to
next_set s t p to e = subst (λ (z : List Slot). NextSet s z p to) (sym e) (next_written s p to)

pub prev_set : (s t : List Slot) (n to : Option ℕ) → t ≡ slots_with_prev s n to → PrevSet s t n to
prev_set s t n to e = subst (λ (z : List Slot). PrevSet s z n to) (sym e) (prev_written s n to)

-- behind p stands a now, and before n stands b; the slot of i is v
pub record Rewired (s t : List Slot) (i : ℕ) (v : Slot) (p n a b : Option ℕ) : Type 0 where
  pub len : length t ≡ length s
  pub own : i < length s → slot_at t i ≡ v
  pub list : (x : ℕ) → (x ≡ i → ⊥) → (slot_at t x).list ≡ (slot_at s x).list
  pub next : (x : ℕ) → (x ≡ i → ⊥) → (p ≡ Some x → ⊥) → (slot_at t x).next ≡ (slot_at s x).next
  pub next_here : (x : ℕ) → (x ≡ i → ⊥) → x < length s → p ≡ Some x → (slot_at t x).next ≡ a
  pub prev : (x : ℕ) → (x ≡ i → ⊥) → (n ≡ Some x → ⊥) → (slot_at t x).prev ≡ (slot_at s x).prev
  pub prev_here : (x : ℕ) → (x ≡ i → ⊥) → x < length s → n ≡ Some x → (slot_at t x).prev ≡ b

pub rewired : (s t u : List Slot) (i : ℕ) (v : Slot) (p n a b : Option ℕ) → NextSet s t p a → PrevSet t u n b → Rewired s (set u i v) i v p n a b
rewired s t u i v p n a b f g =
    let len_t : length t ≡ length s = f.len in
    let len_u : length u ≡ length t = g.len in
    record {
      len = length-set u i v ∙ g.len ∙ f.len;
      own = λ l. set_here u i v (omega arith);
      list = λ x d. ap (λ (w : Slot). w.list) (set_there u i x v d) ∙ g.list x ∙ f.list x;
      next = λ x d e. ap (λ (w : Slot). w.next) (set_there u i x v d) ∙ g.next x ∙ f.there x e;
      next_here = λ x d l e. ap (λ (w : Slot). w.next) (set_there u i x v d) ∙ g.next x ∙ f.here x l e;
      prev = λ x d e. ap (λ (w : Slot). w.prev) (set_there u i x v d) ∙ g.there x e ∙ f.prev x;
      prev_here = λ x d l e. ap (λ (w : Slot). w.prev) (set_there u i x v d) ∙ g.here x (omega arith) e;
    }

-- the old end where an item stands there, and the new one where none does
abbrev pub end_after : Option ℕ → Option ℕ → Option ℕ → Option ℕ
end_after None old new = new
end_after (Some x) old new = old

-- the ends of list k are e now
pub record EndsSet (es fs : List Ends) (k : ℕ) (e : Ends) : Type 0 where
  pub len : length fs ≡ length es
  pub here : ends_at fs k ≡ e
  pub there : (j : ℕ) → (j ≡ k → ⊥) → ends_at fs j ≡ ends_at es j

first_written : (es : List Ends) (k : ℕ) (p a : Option ℕ) → k < length es
    → EndsSet es (ends_with_first es k p a) k (record { first = end_after p (ends_at es k).first a; last = (ends_at es k).last })
first_written es k None a l =
    let v : Ends = record { first = a; last = (ends_at es k).last } in
    record { len = length-set es k v; here = get_or-set_same es k v no_ends l; there = λ j d. get_or-set_other es k j v no_ends d }
first_written es k (Some p) a l = record { len = refl; here = refl; there = λ j d. refl }

last_written : (es : List Ends) (k : ℕ) (n b : Option ℕ) → k < length es
    → EndsSet es (ends_with_last es k n b) k (record { first = (ends_at es k).first; last = end_after n (ends_at es k).last b })
last_written es k None b l =
    let v : Ends = record { first = (ends_at es k).first; last = b } in
    record { len = length-set es k v; here = get_or-set_same es k v no_ends l; there = λ j d. get_or-set_other es k j v no_ends d }
last_written es k (Some n) b l = record { len = refl; here = refl; there = λ j d. refl }

-- the ends of a list after both writes
abbrev pub ends_between : Ends → Option ℕ → Option ℕ → Option ℕ → Option ℕ → Ends
ends_between e p n a b = record { first = end_after p e.first a; last = end_after n e.last b }

pub ends_set : (es fs gs : List Ends) (k : ℕ) (p n a b : Option ℕ) → k < length es → fs ≡ ends_with_first es k p a → gs ≡ ends_with_last fs k n b
    → EndsSet es gs k (ends_between (ends_at es k) p n a b)
ends_set es fs gs k p n a b l fe ge =
    let old : Ends = ends_at es k in
    let mid : Ends = record { first = end_after p old.first a; last = old.last } in
    let f : EndsSet es fs k mid = subst (λ (z : List Ends). EndsSet es z k mid) (sym fe) (first_written es k p a l) in
    let len_f : length fs ≡ length es = f.len in
    let m : Ends = ends_at fs k in
    let g : EndsSet fs gs k (record { first = m.first; last = end_after n m.last b }) =
    subst (λ (z : List Ends). EndsSet fs z k (record { first = (ends_at fs k).first; last = end_after n (ends_at fs k).last b })) (sym ge) (last_written fs k n b (omega arith)) in
    record {
      len = g.len ∙ f.len;
      here = g.here ∙ ap (λ (e : Ends). record { first = e.first; last = end_after n e.last b }) f.here;
      there = λ j d. g.there j d ∙ f.there j d;
    }

-- where a chain over xs that led from `from` begins, when it leads to a now
abbrev pub first_from : List ℕ → Option ℕ → Option ℕ → Option ℕ
first_from [] from a = a
first_from (x ∷ xs) from a = from

module _ (s t : List Slot) (i : ℕ) (v : Slot) (p n a b : Option ℕ) (r : Rewired s t i v p n a b) (k : ℕ) where
  -- the link from the first item of a front part
  front_link : (x : ℕ) (xs : List ℕ) (m : Option ℕ) → EachOnce (x ∷ xs) → (x ≡ i → ⊥) → x < length s → p ≡ last_of (Some x) xs
      → IsChain s k (Some x) (slot_at s x).next xs m → first_from xs (slot_at s x).next a ≡ (slot_at t x).next
  front_link x [] m once d l e h = sym (r.next_here x d l e)
  front_link x (y ∷ ys) m once d l e h = sym (r.next x d (λ q. once.0 (last_in (Some x) y ys x (sym e ∙ q))))

  -- the part that ends at p leads to a now
  pub front : (c from m : Option ℕ) (xs : List ℕ) → EachOnce xs → ((x : ℕ) → IsIn x xs → (x ≡ i → ⊥) × (n ≡ Some x → ⊥)) → p ≡ last_of c xs
      → IsChain s k c from xs m → IsChain t k c (first_from xs from a) xs a
  front c from m [] once far e h = refl
  front c from m (x ∷ xs) once far e h =
      let l : length t ≡ length s = r.len in
      let f = far x (inl refl) in (
        h.0,
        omega (arith, h.1),
        r.list x f.0 ∙ h.2,
        r.prev x f.0 f.1 ∙ h.3,
        subst (λ z. IsChain t k (Some x) z xs a) (front_link x xs m once f.0 h.1 e h.4)
            (front (Some x) (slot_at s x).next m xs once.1 (λ z w. far z (inr w)) e h.4),
      )

  -- the part that begins at n stands behind b now
  pub back : (c : Option ℕ) (ys : List ℕ) (to : Option ℕ) → EachOnce ys → ((y : ℕ) → IsIn y ys → (y ≡ i → ⊥) × (p ≡ Some y → ⊥))
      → IsChain s k c n ys to → IsChain t k b n ys to
  back c [] to once far h = h
  back c (y ∷ ys) to once far h =
      let l : length t ≡ length s = r.len in
      let f = far y (inl refl) in (
        h.0,
        omega (arith, h.1),
        r.list y f.0 ∙ h.2,
        r.prev_here y f.0 h.1 h.0,
        chain_frame s t k (Some y) (slot_at t y).next ys to (omega arith)
            (λ z m. record {
              list = r.list z (far z (inr m)).0;
              prev = r.prev z (far z (inr m)).0 (λ e. once.0 (subst (λ w. IsIn w ys) (same_Some z y (sym e ∙ h.0)) m));
              next = r.next z (far z (inr m)).0 (far z (inr m)).1;
            })
            (subst (λ z. IsChain s k (Some y) z ys to) (sym (r.next y f.0 f.1)) h.4),
      )

pub first_from-end_after : (xs : List ℕ) (from a : Option ℕ) → end_after (last_of None xs) from a ≡ first_from xs from a
first_from-end_after [] from a = refl
first_from-end_after (x ∷ xs) from a = ap (λ p. end_after p from a) (last_some x xs).1

-- a change of list k alone
pub record Change (es fs : List Ends) (s t : List Slot) (ls ms : List (List ℕ)) (k i : ℕ) (v : Slot) (p n a b : Option ℕ) (e : Ends) (xs : List ℕ) : Type 0 where
  pub slots : Rewired s t i v p n a b
  pub ends : EndsSet es fs k e
  pub count : length ms ≡ length ls
  pub here : list_at ms k ≡ xs
  pub there : (j : ℕ) → (j ≡ k → ⊥) → list_at ms j ≡ list_at ls j
  pub ring : IsRing t k e xs
  pub prev_in : (x : ℕ) → p ≡ Some x → IsIn x (list_at ls k)
  pub next_in : (x : ℕ) → n ≡ Some x → IsIn x (list_at ls k)
  pub only_here : (j : ℕ) → IsIn i (list_at ls j) → j ≡ k
  pub home : (j : ℕ) → v.list ≡ Some j → (j ≡ k) × IsIn i xs
  pub within : i < length s
  pub keeps : (x : ℕ) → (x ≡ i → ⊥) → IsIn x (list_at ls k) → IsIn x xs

module _ (es fs : List Ends) (s t : List Slot) (ls ms : List (List ℕ)) (k i : ℕ) (v : Slot) (p n a b : Option ℕ) (e : Ends) (xs : List ℕ)
    (h : Spells es s ls) (lk : k < length es) (c : Change es fs s t ls ms k i v p n a b e xs) where
  -- an item of another list is not one of this one
  other_list : (j x : ℕ) → j < length es → (j ≡ k → ⊥) → IsIn x (list_at ls j) → IsIn x (list_at ls k) → ⊥
  other_list j x lj d m q =
      let u : (slot_at s x).list ≡ Some k = (chain_slot s k None (ends_at es k).first (list_at ls k) None x (h.rings k lk).chain q).1 in
      let w : (slot_at s x).list ≡ Some j = (chain_slot s j None (ends_at es j).first (list_at ls j) None x (h.rings j lj).chain m).1 in
      d (same_Some j k (sym w ∙ u))

  other_item : (j x : ℕ) → (j ≡ k → ⊥) → IsIn x (list_at ls j) → x ≡ i → ⊥
  other_item j x d m q = d (c.only_here j (subst (λ y. IsIn y (list_at ls j)) q m))

  other_ring : (j : ℕ) → j < length es → (j ≡ k → ⊥) → IsRing t j (ends_at es j) (list_at ls j)
  other_ring j lj d =
      let r : IsRing s j (ends_at es j) (list_at ls j) = h.rings j lj in
      let l : length t ≡ length s = c.slots.len in
      record {
        chain = chain_frame s t j None (ends_at es j).first (list_at ls j) None (omega arith)
            (λ x m. record {
              list = c.slots.list x (other_item j x d m);
              prev = c.slots.prev x (other_item j x d m) (λ q. other_list j x lj d m (c.next_in x q));
              next = c.slots.next x (other_item j x d m) (λ q. other_list j x lj d m (c.prev_in x q));
            })
            r.chain;
        ending = r.ending;
        once = r.once;
      }

  -- the new links spell the new lists
  pub change_spells : Spells fs t ms
  change_spells = record {
    count = c.count ∙ h.count ∙ sym c.ends.len;
    rings = λ j lj.
        let len : length fs ≡ length es = c.ends.len in
        elim (cases_eq j k) [
          | inl q ↦ subst (λ y. IsRing t y (ends_at fs y) (list_at ms y)) (sym q)
              (subst (λ (w : Ends). IsRing t k w (list_at ms k)) (sym c.ends.here)
              (subst (λ (w : List ℕ). IsRing t k e w) (sym c.here) c.ring))
          | inr d ↦ subst (λ (w : Ends). IsRing t j w (list_at ms j)) (sym (c.ends.there j d))
              (subst (λ (w : List ℕ). IsRing t j (ends_at es j) w) (sym (c.there j d)) (other_ring j (omega arith) d))
        ];
    homes = λ x j q.
        elim (cases_eq x i) [
          | inl w ↦
              (let at : v.list ≡ Some j = ap (λ (z : Slot). z.list) (sym (ap (λ y. slot_at t y) w ∙ c.slots.own c.within)) ∙ q in
              let g = c.home j at in
              subst (λ y. IsIn x (list_at ms y)) (sym g.0) (subst (λ (z : List ℕ). IsIn x z) (sym c.here) (subst (λ y. IsIn y xs) (sym w) g.1)))
          | inr d ↦
              (let m : IsIn x (list_at ls j) = h.homes x j (sym (c.slots.list x d) ∙ q) in
              elim (cases_eq j k) [
                | inl w ↦ subst (λ y. IsIn x (list_at ms y)) (sym w)
                    (subst (λ (z : List ℕ). IsIn x z) (sym c.here) (c.keeps x d (subst (λ y. IsIn x (list_at ls y)) w m)))
                | inr z ↦ subst (λ (y : List ℕ). IsIn x y) (sym (c.there j z)) m
              ])
        ];
  }
