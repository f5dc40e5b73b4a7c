-- What the calls of `Rings` leave, from the equations of their steps.
use Rattle.std.proofs.Common.{◌≡◌, ℕ, ◌<◌, List, [], ◌∷◌, ◌++◌, inl, inr, length, set, get_or, refl, sym, ◌∙◌, ap, subst, arith, Option, Some, None, length-set, get_or-set_same, get_or-set_other}
use Rattle.std.proofs.lemmas.List.{append-nil, get_or_default, length-map}
use Rattle.std.specs.Prelude.{slice_get, IfSome, is_some, Bool, true}
use Rattle.index_links.specs.Lists.{Lists, IsIn, EachOnce, IsLinked, AreDisjoint, list_at, lists_with_before, lists_with_last, lists_without, with_before, without}
use Rattle.index_links.specs.declared.rings.Slot.{Slot}
use Rattle.index_links.specs.declared.rings.Ends.{Ends}
use Rattle.index_links.specs.Links.{slot_at, unlinked, ends_at, last_of, IsChain, Spells, spelled_lists, slots_with_next, slots_with_prev, ends_with_first, ends_with_last}
use Rattle.index_links.proofs.Members.{head_in, in-append_left, in-append_right, once-append, split, with_before-none, with_before-split, without-none, without-split}
use Rattle.index_links.proofs.Chains.{are_disjoint, chain_head, chain_split, last_found, linked_home, linked_within, spelled_is}
use Rattle.index_links.proofs.ListChanges.{list_at-with_before, list_at-without}
use Rattle.index_links.proofs.LinkWrites.{ends_set, next_set, prev_set}
use Rattle.index_links.proofs.ListEdits.{insert_spells, remove_spells}

abbrev pub view : List Ends → List Slot → Lists
view es s = record { lists = spelled_lists es s; items = length s }

-- the links are sound, and seen as o
abbrev pub IsNow : List Ends → List Slot → Lists → Type 0
IsNow es s o = Spells es s (spelled_lists es s) × (view es s ≡ o)

pub is_now : (es : List Ends) (s : List Slot) (ls : List (List ℕ)) (n : ℕ) → Spells es s ls → length s ≡ n → IsNow es s (record { lists = ls; items = n })
is_now es s ls n h l =
    let e : spelled_lists es s ≡ ls = spelled_is es s ls h in
    (subst (λ l. Spells es s l) (sym e) h, cc)

-- an item between what stands before it and what stands behind it in its list
pub record Place (es : List Ends) (s : List Slot) (ls : List (List ℕ)) (k i : ℕ) : Type 0 where
  pub list : k < length es
  pub item : i < length s
  pub before : List ℕ
  pub after : List ℕ
  pub shape : list_at ls k ≡ before ++ i ∷ after
  pub prev : (slot_at s i).prev ≡ last_of None before
  pub next : (slot_at s i).next ≡ slice_get after 0

pub place_of : (es : List Ends) (s : List Slot) (ls : List (List ℕ)) → Spells es s ls → (k i : ℕ) → (slot_at s i).list ≡ Some k → Place es s ls k i
place_of es s ls h k i e =
    let m : IsIn i (list_at ls k) = h.homes i k e in
    let l : k < length ls = linked_within ls k i m in
    let c : length ls ≡ length es = h.count in
    let lk : k < length es = omega arith in
    let p = split i (list_at ls k) m in
    let g = chain_split s k None (ends_at es k).first p.0 (i ∷ p.1) None (subst (λ l. IsChain s k None (ends_at es k).first l None) p.2 (h.rings k lk).chain) in
    record {
      list = lk;
      item = (linked_home es s ls h k i m).0;
      before = p.0;
      after = p.1;
      shape = p.2;
      prev = g.2.3;
      next = chain_head s k (Some i) (slot_at s i).next p.1 g.2.4;
    }

-- an item that stands in list k stands in no other
only_list : (es : List Ends) (s : List Slot) (ls : List (List ℕ)) → Spells es s ls → (k j i : ℕ) → IsIn i (list_at ls k) → (j ≡ k → ⊥) → IsIn i (list_at ls j) → ⊥
only_list es s ls h k j i m d q = d ((are_disjoint es s ls h).one_list i j k q m)

module _ (es fs gs : List Ends) (s t u : List Slot) (ls : List (List ℕ)) (h : Spells es s ls) (k i : ℕ) (p n : Option ℕ) where
  -- the item at the end of list k
  last_spells : k < length es → i < length s → (IsLinked ls i → ⊥) → p ≡ (ends_at es k).last
      → fs ≡ ends_with_first es k p (Some i) → t ≡ slots_with_next s p (Some i) → gs ≡ ends_with_last fs k None (Some i) → u ≡ slots_with_prev t None (Some i)
      → Spells gs (set u i (record { list = Some k; prev = p; next = None })) (lists_with_last ls k i)
  last_spells lk li free pe fe te ge ue =
      let c : length ls ≡ length es = h.count in
      insert_spells es gs s t u ls (lists_with_last ls k i) h k i lk li (list_at ls k) [] (sym (append-nil (list_at ls k))) free p None (pe ∙ (h.rings k lk).ending) refl
      (next_set s t p (Some i) te) (prev_set t u None (Some i) ue) (ends_set es fs gs k p None (Some i) (Some i) lk fe ge)
      (length-set ls k (list_at ls k ++ i ∷ [])) (get_or-set_same ls k (list_at ls k ++ i ∷ []) [] (omega arith)) (λ j d. get_or-set_other ls k j (list_at ls k ++ i ∷ []) [] d)

  -- the item i before the item `next` of list k
  before_spells : (next : ℕ) → (slot_at s next).list ≡ Some k → i < length s → (IsLinked ls i → ⊥) → p ≡ (slot_at s next).prev
      → fs ≡ ends_with_first es k p (Some i) → t ≡ slots_with_next s p (Some i) → gs ≡ ends_with_last fs k (Some next) (Some i) → u ≡ slots_with_prev t (Some next) (Some i)
      → Spells gs (set u i (record { list = Some k; prev = p; next = Some next })) (lists_with_before ls next i)
  before_spells next le li free pe fe te ge ue =
      let w = place_of es s ls h k next le in
      let m : IsIn next (list_at ls k) = h.homes next k le in
      let o = subst (λ (l : List ℕ). EachOnce l) w.shape (h.rings k w.list).once in
      insert_spells es gs s t u ls (lists_with_before ls next i) h k i w.list li w.before (next ∷ w.after) w.shape free p (Some next) (pe ∙ w.prev) refl
      (next_set s t p (Some i) te) (prev_set t u (Some next) (Some i) ue) (ends_set es fs gs k p (Some next) (Some i) (Some i) w.list fe ge)
      (length-map ls (with_before next i))
      (list_at-with_before ls next i k ∙ ap (with_before next i) w.shape ∙ with_before-split next i w.before w.after (λ q. once-append next w.before (next ∷ w.after) o q (inl refl)))
      (λ j d. list_at-with_before ls next i j ∙ with_before-none next i (list_at ls j) (only_list es s ls h k j next m d))

  -- the item taken out of list k
  without_spells : (slot_at s i).list ≡ Some k → p ≡ (slot_at s i).prev → n ≡ (slot_at s i).next
      → fs ≡ ends_with_first es k p n → t ≡ slots_with_next s p n → gs ≡ ends_with_last fs k n p → u ≡ slots_with_prev t n p
      → Spells gs (set u i unlinked) (lists_without ls i)
  without_spells le pe ne fe te ge ue =
      let w = place_of es s ls h k i le in
      let m : IsIn i (list_at ls k) = h.homes i k le in
      let o = subst (λ (l : List ℕ). EachOnce l) w.shape (h.rings k w.list).once in
      remove_spells es gs s t u ls (lists_without ls i) h k i w.list w.before w.after w.shape p n (pe ∙ w.prev) (ne ∙ w.next)
      (next_set s t p n te) (prev_set t u n p ue) (ends_set es fs gs k p n n p w.list fe ge)
      (length-map ls (without i))
      (list_at-without ls i k ∙ ap (without i) w.shape ∙ without-split i w.before w.after o)
      (λ j d. list_at-without ls i j ∙ without-none i (list_at ls j) (only_list es s ls h k j i m d))

  -- no step changes the number of slots
  pub same_length : (a b : Option ℕ) (v : Slot) → t ≡ slots_with_next s p a → u ≡ slots_with_prev t n b → length (set u i v) ≡ length s
  same_length a b v te ue = length-set u i v ∙ (prev_set t u n b ue).len ∙ (next_set s t p a te).len

module _ (es fs gs : List Ends) (s t u : List Slot) (o : Lists) (h : Spells es s (spelled_lists es s)) (is : view es s ≡ o) (k i : ℕ) (p : Option ℕ) where
  pub link_last_done : k < length o.lists → i < o.items → (IsLinked o.lists i → ⊥) → p ≡ (ends_at es k).last
      → fs ≡ ends_with_first es k p (Some i) → t ≡ slots_with_next s p (Some i) → gs ≡ ends_with_last fs k None (Some i) → u ≡ slots_with_prev t None (Some i)
      → IsNow gs (set u i (record { list = Some k; prev = p; next = None })) (record { lists = lists_with_last o.lists k i; items = o.items })
  link_last_done lk li free pe fe te ge ue =
      let c : length (spelled_lists es s) ≡ length es = h.count in
      let v : Slot = record { list = Some k; prev = p; next = None } in
      let P : Lists → Type 0 =
      λ o. k < length o.lists → i < o.items → (IsLinked o.lists i → ⊥) → IsNow gs (set u i v) (record { lists = lists_with_last o.lists k i; items = o.items }) in
      subst P is (λ lk li free. is_now gs (set u i v) _ (length s) (last_spells es fs gs s t u (spelled_lists es s) h k i p None (omega arith) li free pe fe te ge ue)
      (same_length es fs gs s t u (spelled_lists es s) h k i p None (Some i) (Some i) v te ue)) lk li free

  pub link_before_done : (next : ℕ) → (slot_at s next).list ≡ Some k → i < o.items → (IsLinked o.lists i → ⊥) → p ≡ (slot_at s next).prev
      → fs ≡ ends_with_first es k p (Some i) → t ≡ slots_with_next s p (Some i) → gs ≡ ends_with_last fs k (Some next) (Some i) → u ≡ slots_with_prev t (Some next) (Some i)
      → IsNow gs (set u i (record { list = Some k; prev = p; next = Some next })) (record { lists = lists_with_before o.lists next i; items = o.items })
  link_before_done next le li free pe fe te ge ue =
      let v : Slot = record { list = Some k; prev = p; next = Some next } in
      let P : Lists → Type 0 =
      λ o. i < o.items → (IsLinked o.lists i → ⊥) → IsNow gs (set u i v) (record { lists = lists_with_before o.lists next i; items = o.items }) in
      subst P is (λ li free. is_now gs (set u i v) _ (length s) (before_spells es fs gs s t u (spelled_lists es s) h k i p None next le li free pe fe te ge ue)
      (same_length es fs gs s t u (spelled_lists es s) h k i p (Some next) (Some i) (Some i) v te ue)) li free

  pub unlink_done : (n : Option ℕ) → (slot_at s i).list ≡ Some k → p ≡ (slot_at s i).prev → n ≡ (slot_at s i).next
      → fs ≡ ends_with_first es k p n → t ≡ slots_with_next s p n → gs ≡ ends_with_last fs k n p → u ≡ slots_with_prev t n p
      → IsNow gs (set u i unlinked) (record { lists = lists_without o.lists i; items = o.items })
  unlink_done n le pe ne fe te ge ue =
      subst (λ (o : Lists). IsNow gs (set u i unlinked) (record { lists = lists_without o.lists i; items = o.items })) is
      (is_now gs (set u i unlinked) _ (length s) (without_spells es fs gs s t u (spelled_lists es s) h k i p n le pe ne fe te ge ue)
      (same_length es fs gs s t u (spelled_lists es s) h k i p n n p unlinked te ue))

within_some : (s : List Slot) (p : Option ℕ) → ((x : ℕ) → p ≡ Some x → x < length s) → IfSome p (λ x. x < length s)
within_some s None h = tt
within_some s (Some x) h = h x refl

-- the last item of a list is in range
pub last_within : (es : List Ends) (s : List Slot) (ls : List (List ℕ)) → Spells es s ls → (k : ℕ) → k < length es → (p : Option ℕ) → p ≡ (ends_at es k).last → IfSome p (λ x. x < length s)
last_within es s ls h k lk p pe =
    within_some s p (λ x e. (linked_home es s ls h k x (last_found (list_at ls k) x (sym (h.rings k lk).ending ∙ sym pe ∙ e))).0)

-- what a call may rest on, of a linked item's slot v
pub record Linked (es : List Ends) (s : List Slot) (i k : ℕ) (v : Slot) : Type 0 where
  pub list : k < length es
  pub item : i < length s
  pub prev : IfSome v.prev (λ x. x < length s)
  pub next : IfSome v.next (λ x. x < length s)

pub linked_slot : (es : List Ends) (s : List Slot) (ls : List (List ℕ)) → Spells es s ls → (i k : ℕ) (v : Slot) → v ≡ slot_at s i → v.list ≡ Some k → Linked es s i k v
linked_slot es s ls h i k v ve le =
    let w = place_of es s ls h k i (ap (λ (v : Slot). v.list) (sym ve) ∙ le) in
    let in_list : (x : ℕ) → IsIn x (w.before ++ i ∷ w.after) → x < length s = λ x m. (linked_home es s ls h k x (subst (λ (l : List ℕ). IsIn x l) (sym w.shape) m)).0 in
    record {
      list = w.list;
      item = w.item;
      prev = within_some s v.prev (λ x e. in_list x (in-append_left x w.before (i ∷ w.after) (last_found w.before x (sym (ap (λ (v : Slot). v.prev) ve ∙ w.prev) ∙ e))));
      next = within_some s v.next (λ x e. in_list x (in-append_right x w.before (i ∷ w.after) (inr (head_in w.after x (sym (ap (λ (v : Slot). v.next) ve ∙ w.next) ∙ e)))));
    }

-- an item that callers know to be linked is in range and knows its list
pub linked_now : (es : List Ends) (s : List Slot) (i : ℕ) (o : Lists) → Spells es s (spelled_lists es s) → view es s ≡ o → IsLinked o.lists i → (i < length s) × (k : ℕ) × ((slot_at s i).list ≡ Some k)
linked_now es s i o h is m =
    let l : IsLinked (spelled_lists es s) i = subst (λ (o : Lists). IsLinked o.lists i) (sym is) m in
    let r = linked_home es s (spelled_lists es s) h l.0 i l.1 in
    (r.0, l.0, r.1)

-- the slot that was read at a linked item
pub slot_read : (es : List Ends) (s : List Slot) (i : ℕ) (v : Slot) (o : Lists) → Spells es s (spelled_lists es s) → view es s ≡ o → IsLinked o.lists i → v ≡ get_or s i v → v ≡ slot_at s i
slot_read es s i v o h is m e = e ∙ get_or_default s i v unlinked (linked_now es s i o h is m).0

some_of : (h : Option ℕ) → is_some h ≡ true → (k : ℕ) × (h ≡ Some k)
some_of None e = absurd (cc)
some_of (Some k) e = (k, refl)

pub linked_iff : (es : List Ends) (s : List Slot) (i : ℕ) (v : Slot) (b : Bool) (o : Lists) → Spells es s (spelled_lists es s) → view es s ≡ o → v ≡ slot_at s i → b ≡ is_some v.list
    → (b ≡ true → IsLinked o.lists i) × (IsLinked o.lists i → b ≡ true)
linked_iff es s i v b o h is ve be = (
  λ t. let r = some_of v.list (sym be ∙ t) in
      subst (λ (o : Lists). IsLinked o.lists i) is (r.0, h.homes i r.0 (ap (λ (v : Slot). v.list) (sym ve) ∙ r.1)),
  λ m. be ∙ ap (λ (v : Slot). is_some v.list) ve ∙ ap is_some (linked_now es s i o h is m).2,
)

pub disjoint_now : (es : List Ends) (s : List Slot) (o : Lists) → Spells es s (spelled_lists es s) → view es s ≡ o → AreDisjoint o
disjoint_now es s o h is = subst (λ (o : Lists). AreDisjoint o) is (are_disjoint es s (spelled_lists es s) h)

-- what `first` and `next` answer stands in a list
pub first_linked : (o : Lists) (k : ℕ) (r : Option ℕ) → r ≡ slice_get (list_at o.lists k) 0 → IfSome r (IsLinked o.lists)
first_linked o k None e = tt
first_linked o k (Some x) e = (k, head_in (list_at o.lists k) x (sym e))

pub next_linked : (o : Lists) (i : ℕ) (r : Option ℕ) → IsLinked o.lists i → ((k : ℕ) (before after : List ℕ) → list_at o.lists k ≡ before ++ i ∷ after → r ≡ slice_get after 0) → IfSome r (IsLinked o.lists)
next_linked o i None m says = tt
next_linked o i (Some x) m says =
    let p = split i (list_at o.lists m.0) m.1 in
    (m.0, subst (λ (l : List ℕ). IsIn x l) (sym p.2) (in-append_right x p.0 (i ∷ p.1) (inr (head_in p.1 x (sym (says m.0 p.0 p.1 p.2))))))
