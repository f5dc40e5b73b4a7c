-- The queue as one tree of its items.
use Rattle.std.proofs.Common.{◌≡◌, ℕ, zero, suc, ◌<◌, ◌+◌, ◌-◌, List, [], ◌++◌, ◌⊎◌, inl, inr, length, max, replicate, set, refl, sym, ◌∙◌, ap, subst, arith, length-set, get_or-set_same, get_or-set_other, Option, Some, None}
use Rattle.std.specs.Prelude.{true, false, is_some}
use Rattle.std.proofs.lemmas.Bool.{cases_eq, cases_lt}
use Rattle.std.proofs.lemmas.List.{length-append, length-replicate}
use Rattle.std.proofs.lemmas.Option.{same_Some, none-some}
use Rattle.index_links.specs.Lists.{Lists, IsIn, IsLinked, list_at, lists_padded, lists_with_last, lists_without}
use Rattle.index_links.specs.Queue.{key_at, HasPair, IsLeast, Precedes}
use Rattle.index_links.specs.Forest.{IsAbove, IsForest, IsHeap, IsCut}
use Rattle.index_links.proofs.ListChanges.{get_or-padded, with_last_in, with_last_keeps, with_last_has, without_in, without_keeps}
use Rattle.index_links.proofs.QueueChanges.{key_at-removed}
use Rattle.index_links.proofs.Forest.{held_within, above_first, above_second, above_apart, above_chain, forest_link, forest_unlink, with_lists}

-- a value that is there, and one that is not
pub some_of : (v : Option ℕ) → is_some v ≡ true → (k : ℕ) × (v ≡ Some k)
some_of None e = absurd (cc)
some_of (Some k) e = (k, refl)

pub none_of : (v : Option ℕ) → is_some v ≡ false → v ≡ None
none_of None e = refl
none_of (Some k) e = absurd (cc)

unheld : (v : Option ℕ) → ((k : ℕ) → v ≡ Some k → ⊥) → v ≡ None
unheld None h = refl
unheld (Some k) h = absurd (h k refl)

comes : (a b c d r s j : ℕ) → a ≡ b → c ≡ d → r ≡ s → Precedes a r c j → Precedes b s d j
comes a b c d r s j e f g l = elim l [ inl x ↦ inl (omega arith) | inr x ↦ inr (omega arith, omega arith) ]

module _ (keys : List (Option ℕ)) (o : Lists) (root : Option ℕ) (h : IsHeap keys o root) where
  abbrev Reached : ℕ → Type 0
  Reached i = (r : ℕ) × (root ≡ Some r) × ((i ≡ r) ⊎ IsAbove keys r i)

  -- an item is the root, or has a parent that comes before it
  above : (i k : ℕ) → HasPair keys k i → (root ≡ Some i) ⊎ ((p : ℕ) × IsAbove keys p i)
  above i k e = elim (h.rooted i k e) [ inl q ↦ inl q | inr m ↦ inr (m.0, h.forest.ordered m.0 i m.1) ]

  step_up : (i p : ℕ) → IsAbove keys p i → Reached p → Reached i
  step_up i p l g = (g.0, g.1, elim g.2 [ inl q ↦ inr (subst (λ y. IsAbove keys y i) q l) | inr m ↦ inr (above_chain keys g.0 p i m l) ])

  inner : (b : ℕ) → ((i k : ℕ) → k < b → HasPair keys k i → Reached i) → (n i : ℕ) → i < n → HasPair keys b i → Reached i
  inner b less zero i l e = absurd (omega arith)
  inner b less (suc n) i l e =
      elim (above i b e) [
        | inl q ↦ (i, q, inl refl)
        | inr p ↦
            (let c : IsAbove keys p.0 i = p.1 in
            let ko : c.other ≡ b = same_Some c.other b (sym c.other_held ∙ e) in
            step_up i p.0 c (elim c.before [
              | inl x ↦ less p.0 c.key (omega arith) c.held
              | inr x ↦ inner b less n p.0 (omega arith) (c.held ∙ ap Some (x.0 ∙ ko))
            ]))
      ]

  outer : (b i k : ℕ) → k < b → HasPair keys k i → Reached i
  outer zero i k l e = absurd (omega arith)
  outer (suc b) i k l e =
      elim (cases_lt k b) [
        | inl m ↦ outer b i k m e
        | inr g ↦ (let q : k ≡ b = omega arith in inner b (outer b) (suc i) i (omega arith) (e ∙ ap Some q))
      ]

  -- every item comes after the root
  pub reach : (i k : ℕ) → HasPair keys k i → Reached i
  reach i k e = outer (suc k) i k (omega arith) e

  pub none_held : root ≡ None → (i : ℕ) → key_at keys i ≡ None
  none_held e i = unheld (key_at keys i) (λ k q. none-some _ (sym e ∙ (reach i k q).1))

  pub root_least : (r : ℕ) → root ≡ Some r → (k : ℕ) × IsLeast keys k r
  root_least r e =
      let t = (h.top r e).0 in (
        t.0,
        record {
          held = t.1;
          least = λ m j q.
              let g = reach j m q in
              let s : g.0 ≡ r = same_Some g.0 r (sym g.1 ∙ e) in
              elim g.2 [
                | inl x ↦ inl (x ∙ s)
                | inr l ↦ inr (comes l.key t.0 l.other m g.0 r j (same_Some l.key t.0 (sym l.held ∙ ap (key_at keys) s ∙ t.1)) (same_Some l.other m (sym l.other_held ∙ q)) s l.before)
              ];
        },
      )

pub above_set : (keys : List (Option ℕ)) (i p c : ℕ) (v : Option ℕ) → (p ≡ i → ⊥) → (c ≡ i → ⊥) → IsAbove keys p c → IsAbove (set keys i v) p c
above_set keys i p c v np nc l = record {
  key = l.key;
  other = l.other;
  held = get_or-set_other keys i p v None np ∙ l.held;
  other_held = get_or-set_other keys i c v None nc ∙ l.other_held;
  before = l.before;
}

-- a new item
module _ (keys : List (Option ℕ)) (o : Lists) (root : Option ℕ) (h : IsHeap keys o root) (i k : ℕ) (w : i < length keys) (free : key_at keys i ≡ None) where
  abbrev more : List (Option ℕ)
  more = set keys i (Some k)

  not_held : (p v : ℕ) → HasPair keys v p → p ≡ i → ⊥
  not_held p v e q = none-some v (sym free ∙ ap (key_at keys) (sym q) ∙ e)

  pub new_held : HasPair more k i
  new_held = get_or-set_same keys i (Some k) None w

  pub still_held : (p v : ℕ) → HasPair keys v p → HasPair more v p
  still_held p v e = get_or-set_other keys i p (Some k) None (not_held p v e) ∙ e

  pub new_free : IsLinked o.lists i → ⊥
  new_free m = let l = h.forest.ordered m.0 i m.1 in not_held i l.other l.other_held refl

  more_forest : IsForest more o
  more_forest = record {
    items = h.forest.items ∙ sym (length-set keys i (Some k));
    lists = h.forest.lists ∙ sym (length-set keys i (Some k));
    ordered = λ p c m. let l = h.forest.ordered p c m in above_set keys i p c (Some k) (not_held p l.key l.held) (not_held c l.other l.other_held) l;
  }

  was_held : (p v : ℕ) → (p ≡ i → ⊥) → HasPair more v p → HasPair keys v p
  was_held p v n e = sym (get_or-set_other keys i p (Some k) None n) ∙ e

  pub put_first : root ≡ None → IsHeap more o (Some i)
  put_first e = record {
    forest = more_forest;
    rooted = λ p v q. elim (cases_eq p i) [ inl s ↦ inl (ap Some (sym s)) | inr n ↦ absurd (none-some v (sym (none_held keys o root h e p) ∙ was_held p v n q)) ];
    top = λ r q. (subst (λ y. (v : ℕ) × (HasPair more v y)) (same_Some i r q) (k, new_held), λ m. new_free (subst (λ y. IsLinked o.lists y) (sym (same_Some i r q)) m));
  }

  pub put_above : (r : ℕ) → root ≡ Some r → IsAbove more i r → IsHeap more (with_lists o (lists_with_last o.lists i r)) (Some i)
  put_above r e l =
      let n : length o.lists ≡ length keys = h.forest.lists in
      let wi : i < length o.lists = omega arith in
      record {
        forest = forest_link more o i r more_forest l;
        rooted = λ p v q. elim (cases_eq p i) [
          | inl s ↦ inl (ap Some (sym s))
          | inr d ↦ elim (h.rooted p v (was_held p v d q)) [
            | inl x ↦ inr (i, subst (λ y. IsIn y (list_at (lists_with_last o.lists i r) i)) (same_Some r p (sym e ∙ x)) (with_last_has o.lists i r wi))
            | inr m ↦ inr (m.0, with_last_keeps o.lists i r p m.0 wi m.1)
          ]
        ];
        top = λ t q.
            let s : i ≡ t = same_Some i t q in (
              subst (λ y. (v : ℕ) × (HasPair more v y)) s (k, new_held),
              λ m. elim (with_last_in o.lists i r t m.0 wi m.1) [
                | inl a ↦ new_free (m.0, subst (λ y. IsIn y (list_at o.lists m.0)) (sym s) a)
                | inr b ↦ above_apart more i r l (s ∙ b.1)
              ],
            );
      }

  pub put_below : (r : ℕ) → root ≡ Some r → IsAbove more r i → IsHeap more (with_lists o (lists_with_last o.lists r i)) root
  put_below r e l =
      let n : length o.lists ≡ length keys = h.forest.lists in
      let wr : r < length keys = (let t = (h.top r e).0 in held_within keys r t.0 t.1) in
      let wl : r < length o.lists = omega arith in
      record {
        forest = forest_link more o r i more_forest l;
        rooted = λ p v q. elim (cases_eq p i) [
          | inl s ↦ inr (r, subst (λ y. IsIn y (list_at (lists_with_last o.lists r i) r)) (sym s) (with_last_has o.lists r i wl))
          | inr d ↦ elim (h.rooted p v (was_held p v d q)) [ inl x ↦ inl x | inr m ↦ inr (m.0, with_last_keeps o.lists r i p m.0 wl m.1) ]
        ];
        top = λ t q.
            let s : r ≡ t = same_Some r t (sym e ∙ q) in (
              let g = (h.top t q).0 in (g.0, still_held t g.0 g.1),
              λ m. elim (with_last_in o.lists r i t m.0 wl m.1) [
                | inl a ↦ (h.top t q).1 (m.0, a)
                | inr b ↦ above_apart more r i l (s ∙ b.1)
              ],
            );
      }

-- an item with its trees cut off
module _ (keys : List (Option ℕ)) (o n : Lists) (root : Option ℕ) (h : IsHeap keys o root) (i : ℕ) (c : Option ℕ) (f : IsForest keys n) (cut : IsCut keys o.lists n.lists i c) where
  abbrev fewer : List (Option ℕ)
  fewer = set keys i None

  left_held : (p v : ℕ) → HasPair fewer v p → (p ≡ i → ⊥) × (HasPair keys v p)
  left_held p v e =
      elim (cases_eq p i) [
        | inl q ↦ absurd (none-some v (sym (key_at-removed keys i) ∙ ap (key_at fewer) (sym q) ∙ e))
        | inr d ↦ (d, sym (get_or-set_other keys i p None None d) ∙ e)
      ]

  still : (p v : ℕ) → (p ≡ i → ⊥) → HasPair keys v p → HasPair fewer v p
  still p v d e = get_or-set_other keys i p None None d ∙ e

  -- no link leads from i, and where none leads to it either, it can go
  forest_without : (ls : List (List ℕ)) → IsForest keys (with_lists n ls) → ((j : ℕ) → IsIn j (list_at ls i) → ⊥) → (IsLinked ls i → ⊥) → IsForest fewer (with_lists n ls)
  forest_without ls g bare free = record {
    items = g.items ∙ sym (length-set keys i None);
    lists = g.lists ∙ sym (length-set keys i None);
    ordered = λ p q m. above_set keys i p q None (λ e. bare q (subst (λ y. IsIn q (list_at ls y)) e m)) (λ e. free (subst (λ y. IsLinked ls y) e (p, m))) (g.ordered p q m);
  }

  pub take_root : root ≡ Some i → IsHeap fewer n c
  take_root e =
      let free : IsLinked n.lists i → ⊥ = λ m. (h.top i e).1 (cut.was i m) in
      record {
        forest = forest_without n.lists f cut.bare free;
        rooted = λ p v q.
            let d = left_held p v q in
            elim (h.rooted p v d.1) [ inl x ↦ absurd (d.0 (same_Some p i (sym x ∙ e))) | inr m ↦ cut.stays p m ];
        top = λ r q.
            let l = cut.below r q in
            ((l.other, still r l.other (λ s. above_apart keys i r l (sym s)) l.other_held), cut.loose r q);
      }

  module _ (r : ℕ) (at : root ≡ Some r) (apart : r ≡ i → ⊥) (k : ℕ) (held : HasPair keys k i) where
    pub i_linked : IsLinked n.lists i
    i_linked = elim (h.rooted i k held) [
      | inl q ↦ absurd (apart (same_Some r i (sym at ∙ q)))
      | inr m ↦ elim (cut.stays i m) [ inl q ↦ absurd (above_apart keys i i (cut.below i q) refl) | inr l ↦ l ]
    ]

    root_over : IsAbove keys r i
    root_over =
        let g = reach keys o root h i k held in
        let s : g.0 ≡ r = same_Some g.0 r (sym g.1 ∙ at) in
        elim g.2 [ inl q ↦ absurd (apart (sym (q ∙ s))) | inr l ↦ subst (λ y. IsAbove keys y i) s l ]

    abbrev rest : List (List ℕ)
    rest = lists_without n.lists i

    rest_forest : IsForest fewer (with_lists n rest)
    rest_forest = forest_without rest (forest_unlink keys n i f) (λ j m. cut.bare j (without_in n.lists i j i m).0) (λ m. (without_in n.lists i i m.0 m.1).1 refl)

    root_free : IsLinked rest r → ⊥
    root_free m = (h.top r at).1 (cut.was r (m.0, (without_in n.lists i r m.0 m.1).0))

    root_held : (t : ℕ) → root ≡ Some t → (v : ℕ) × (HasPair fewer v t)
    root_held t q =
        let g = (h.top t q).0 in
        (g.0, still t g.0 (λ e. apart (same_Some r t (sym at ∙ q) ∙ e)) g.1)

    pub remove_none : c ≡ None → IsHeap fewer (with_lists n rest) root
    remove_none z = record {
      forest = rest_forest;
      rooted = λ p v q.
          let d = left_held p v q in
          elim (h.rooted p v d.1) [
            | inl x ↦ inl x
            | inr m ↦ elim (cut.stays p m) [ inl y ↦ absurd (none-some p (sym z ∙ y)) | inr l ↦ inr (l.0, without_keeps n.lists i p l.0 l.1 (λ e. d.0 (sym e))) ]
          ];
      top = λ t q. (root_held t q, λ m. root_free (subst (λ y. IsLinked rest y) (sym (same_Some r t (sym at ∙ q))) m));
    }

    module _ (x : ℕ) (is : c ≡ Some x) where
      pub child_free : IsLinked rest x → ⊥
      child_free m = cut.loose x is (m.0, (without_in n.lists i x m.0 m.1).0)

      pub child_within : x < n.items
      child_within = let l : x < length keys = above_second keys i x (cut.below x is) in let e : n.items ≡ length keys = f.items in omega arith

      root_over_child : IsAbove fewer r x
      root_over_child =
          let l = cut.below x is in
          above_set keys i r x None apart (λ e. above_apart keys i x l (sym e)) (above_chain keys r i x root_over l)

      within : r < length rest
      within = let l : r < length fewer = above_first fewer r x root_over_child in let e : length rest ≡ length fewer = rest_forest.lists in omega arith

      pub remove_some : IsHeap fewer (with_lists n (lists_with_last rest r x)) root
      remove_some = record {
        forest = forest_link fewer (with_lists n rest) r x rest_forest root_over_child;
        rooted = λ p v q.
            let d = left_held p v q in
            elim (h.rooted p v d.1) [
              | inl y ↦ inl y
              | inr m ↦ elim (cut.stays p m) [
                | inl y ↦ inr (r, subst (λ z. IsIn z (list_at (lists_with_last rest r x) r)) (same_Some x p (sym is ∙ y)) (with_last_has rest r x within))
                | inr l ↦ inr (l.0, with_last_keeps rest r x p l.0 within (without_keeps n.lists i p l.0 l.1 (λ e. d.0 (sym e))))
              ]
            ];
        top = λ t q.
            let s : r ≡ t = same_Some r t (sym at ∙ q) in (
              root_held t q,
              λ m. elim (with_last_in rest r x t m.0 within m.1) [
                | inl a ↦ root_free (m.0, subst (λ y. IsIn y (list_at rest m.0)) (sym s) a)
                | inr b ↦ above_apart fewer r x root_over_child (s ∙ b.1)
              ],
            );
      }

-- more room
pub grow_heap : (keys more : List (Option ℕ)) (o : Lists) (root : Option ℕ) (n : ℕ) → IsHeap keys o root → more ≡ keys ++ replicate (n - length keys) None
    → IsHeap more (record { lists = lists_padded o.lists n; items = max n o.items }) root
grow_heap keys more o root n h e =
    let same : (i : ℕ) → key_at more i ≡ key_at keys i = λ i. ap (λ (l : List (Option ℕ)). key_at l i) e ∙ get_or-padded keys (n - length keys) i None in
    let lists : (k : ℕ) → list_at (lists_padded o.lists n) k ≡ list_at o.lists k = λ k. get_or-padded o.lists (n - length o.lists) k [] in
    let a : o.items ≡ length keys = h.forest.items in
    let b : length o.lists ≡ length keys = h.forest.lists in
    let len : length more ≡ length keys + (n - length keys) = ap length e ∙ length-append keys (replicate (n - length keys) None) ∙ ap (λ z. length keys + z) (length-replicate {A = Option ℕ} (n - length keys) None) in
    let padded_len : length (lists_padded o.lists n) ≡ length o.lists + (n - length o.lists) = length-append o.lists (replicate (n - length o.lists) []) ∙ ap (λ z. length o.lists + z) (length-replicate {A = List ℕ} (n - length o.lists) []) in
    record {
      forest = record {
        items = omega arith;
        lists = omega arith;
        ordered = λ p c m.
            let l = h.forest.ordered p c (subst (λ (z : List ℕ). IsIn c z) (lists p) m) in
            record { key = l.key; other = l.other; held = same p ∙ l.held; other_held = same c ∙ l.other_held; before = l.before };
      };
      rooted = λ i k q. elim (h.rooted i k (sym (same i) ∙ q)) [ inl x ↦ inl x | inr m ↦ inr (m.0, subst (λ (z : List ℕ). IsIn i z) (sym (lists m.0)) m.1) ];
      top = λ r q. let g = h.top r q in ((g.0.0, same r ∙ g.0.1), λ m. g.1 (m.0, subst (λ (z : List ℕ). IsIn r z) (lists m.0) m.1));
    }

-- a new item melded with the root
pub put_melded : (keys : List (Option ℕ)) (o : Lists) (root : Option ℕ) (h : IsHeap keys o root) (i key : ℕ) → i < length keys → key_at keys i ≡ None
    → (r w l : ℕ) → root ≡ Some r → ((w ≡ i) × (l ≡ r)) ⊎ ((w ≡ r) × (l ≡ i)) → IsAbove (set keys i (Some key)) w l
    → IsHeap (set keys i (Some key)) (with_lists o (lists_with_last o.lists w l)) (Some w)
put_melded keys o root h i key within free r w l e both above =
    elim both [
      | inl q ↦
          (let a : IsAbove (set keys i (Some key)) i r = subst (λ y. IsAbove (set keys i (Some key)) y r) q.0 (subst (λ y. IsAbove (set keys i (Some key)) w y) q.1 above) in
          subst (λ y. IsHeap (set keys i (Some key)) (with_lists o (lists_with_last o.lists y l)) (Some y)) (sym q.0)
          (subst (λ y. IsHeap (set keys i (Some key)) (with_lists o (lists_with_last o.lists i y)) (Some i)) (sym q.1) (put_above keys o root h i key within free r e a)))
      | inr q ↦
          (let a : IsAbove (set keys i (Some key)) r i = subst (λ y. IsAbove (set keys i (Some key)) y i) q.0 (subst (λ y. IsAbove (set keys i (Some key)) w y) q.1 above) in
          subst (λ y. IsHeap (set keys i (Some key)) (with_lists o (lists_with_last o.lists y l)) (Some y)) (sym q.0)
          (subst (λ y. IsHeap (set keys i (Some key)) (with_lists o (lists_with_last o.lists r y)) (Some r)) (sym q.1)
          (subst (λ z. IsHeap (set keys i (Some key)) (with_lists o (lists_with_last o.lists r i)) z) e (put_below keys o root h i key within free r e a))))
    ]

-- the loser of a new item and the root has no parent
pub put_free : (keys : List (Option ℕ)) (o : Lists) (root : Option ℕ) (h : IsHeap keys o root) (i key : ℕ) → i < length keys → key_at keys i ≡ None
    → (r w l : ℕ) → root ≡ Some r → ((w ≡ i) × (l ≡ r)) ⊎ ((w ≡ r) × (l ≡ i)) → IsLinked o.lists l → ⊥
put_free keys o root h i key within free r w l e both m =
    elim both [
      | inl q ↦ (h.top r e).1 (subst (λ y. IsLinked o.lists y) q.1 m)
      | inr q ↦ new_free keys o root h i key within free (subst (λ y. IsLinked o.lists y) q.1 m)
    ]
