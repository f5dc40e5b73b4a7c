-- An item put into a list, and one taken out, between what stands before it and what stands behind it.
use Rattle.std.proofs.Common.{◌≡◌, ℕ, ◌<◌, List, [], ◌∷◌, ◌++◌, inl, inr, length, set, refl, sym, ◌∙◌, ap, subst, arith, Option, Some, None}
use Rattle.std.proofs.lemmas.Option.{same_Some, none-some}
use Rattle.std.specs.Prelude.{slice_get}
use Rattle.index_links.specs.Lists.{IsIn, EachOnce, IsLinked, list_at}
use Rattle.index_links.specs.declared.rings.Slot.{Slot}
use Rattle.index_links.specs.declared.rings.Ends.{Ends}
use Rattle.index_links.specs.Links.{slot_at, unlinked, ends_at, last_of, IsChain, IsRing, Spells}
use Rattle.index_links.proofs.Members.{head_in, in-append_left, in-append_right, in_inserted-from, in-inserted, once-append, once-left, once-right, once-inserted, once-without, without-split}
use Rattle.index_links.proofs.Chains.{chain_head, chain_join, chain_split, last-append, last_found, linked_home}
use Rattle.index_links.proofs.LinkWrites.{NextSet, PrevSet, EndsSet, Rewired, rewired, front, back, end_after, ends_between, first_from-end_after, Change, change_spells}

-- the last item where d stands before ys now, and c stood there
last_kept : (n old b c d : Option ℕ) (ys : List ℕ) → n ≡ slice_get ys 0 → old ≡ last_of c ys → b ≡ d → end_after n old b ≡ last_of d ys
last_kept n old b c d [] ne oe be = ap (λ m. end_after m old b) ne ∙ be
last_kept n old b c d (y ∷ ys) ne oe be = ap (λ m. end_after m old b) ne ∙ oe

-- the list k of links that spell ls, with the item i put in between xs and ys
module _ (es gs : List Ends) (s t u : List Slot) (ls ms : List (List ℕ)) (h : Spells es s ls) (k i : ℕ) (lk : k < length es) (li : i < length s) (xs ys : List ℕ)
    (at : list_at ls k ≡ xs ++ ys) (free : IsLinked ls i → ⊥) (p n : Option ℕ) (pe : p ≡ last_of None xs) (ne : n ≡ slice_get ys 0)
    (tn : NextSet s t p (Some i)) (up : PrevSet t u n (Some i)) (ge : EndsSet es gs k (ends_between (ends_at es k) p n (Some i) (Some i)))
    (count : length ms ≡ length ls) (here : list_at ms k ≡ xs ++ i ∷ ys) (there : (j : ℕ) → (j ≡ k → ⊥) → list_at ms j ≡ list_at ls j) where
  abbrev in_slot : Slot
  in_slot = record { list = Some k; prev = p; next = n }

  abbrev in_slots : List Slot
  in_slots = set u i in_slot

  in_rewired : Rewired s in_slots i in_slot p n (Some i) (Some i)
  in_rewired = rewired s t u i in_slot p n (Some i) (Some i) tn up

  in_old : IsRing s k (ends_at es k) (xs ++ ys)
  in_old = subst (λ (l : List ℕ). IsRing s k (ends_at es k) l) at (h.rings k lk)

  in_parts : (between : Option ℕ) × IsChain s k None (ends_at es k).first xs between × IsChain s k (last_of None xs) between ys None
  in_parts = chain_split s k None (ends_at es k).first xs ys None in_old.chain

  in_behind : IsChain s k (last_of None xs) n ys None
  in_behind = subst (λ m. IsChain s k (last_of None xs) m ys None) (chain_head s k (last_of None xs) in_parts.0 ys in_parts.2 ∙ sym ne) in_parts.2

  in_new : (x : ℕ) → IsIn x (xs ++ ys) → x ≡ i → ⊥
  in_new x m e = free (k, subst (λ (l : List ℕ). IsIn i l) (sym at) (subst (λ y. IsIn y (xs ++ ys)) e m))

  in_front : (x : ℕ) → IsIn x xs → (x ≡ i → ⊥) × (n ≡ Some x → ⊥)
  in_front x m = (in_new x (in-append_left x xs ys m), λ e. once-append x xs ys in_old.once m (head_in ys x (sym ne ∙ e)))

  in_back : (y : ℕ) → IsIn y ys → (y ≡ i → ⊥) × (p ≡ Some y → ⊥)
  in_back y m = (in_new y (in-append_right y xs ys m), λ e. once-append y xs ys in_old.once (last_found xs y (sym pe ∙ e)) m)

  in_chain : IsChain in_slots k None (end_after p (ends_at es k).first (Some i)) (xs ++ i ∷ ys) None
  in_chain =
      let len : length in_slots ≡ length s = in_rewired.len in
      let own : slot_at in_slots i ≡ in_slot = in_rewired.own li in
      let ahead = front s in_slots i in_slot p n (Some i) (Some i) in_rewired k None (ends_at es k).first in_parts.0 xs (once-left xs ys in_old.once) in_front pe in_parts.1 in
      let behind = back s in_slots i in_slot p n (Some i) (Some i) in_rewired k (last_of None xs) ys None (once-right xs ys in_old.once) in_back in_behind in
      subst (λ f. IsChain in_slots k None f (xs ++ i ∷ ys) None) (sym (ap (λ q. end_after q (ends_at es k).first (Some i)) pe ∙ first_from-end_after xs (ends_at es k).first (Some i)))
      (chain_join in_slots k None _ (Some i) xs (i ∷ ys) None ahead (
        refl,
        omega arith,
        ap (λ (w : Slot). w.list) own,
        ap (λ (w : Slot). w.prev) own ∙ pe,
        subst (λ f. IsChain in_slots k (Some i) f ys None) (sym (ap (λ (w : Slot). w.next) own)) behind,
      ))

  in_ending : end_after n (ends_at es k).last (Some i) ≡ last_of None (xs ++ i ∷ ys)
  in_ending = last_kept n (ends_at es k).last (Some i) (last_of None xs) (Some i) ys ne (in_old.ending ∙ last-append None xs ys) refl ∙ sym (last-append None xs (i ∷ ys))

  in_change : Change es gs s in_slots ls ms k i in_slot p n (Some i) (Some i) (ends_between (ends_at es k) p n (Some i) (Some i)) (xs ++ i ∷ ys)
  in_change = record {
    slots = in_rewired;
    ends = ge;
    count = count;
    here = here;
    there = there;
    ring = record { chain = in_chain; ending = in_ending; once = once-inserted i xs ys in_old.once (λ m. in_new i m refl) };
    prev_in = λ x e. subst (λ (l : List ℕ). IsIn x l) (sym at) (in-append_left x xs ys (last_found xs x (sym pe ∙ e)));
    next_in = λ x e. subst (λ (l : List ℕ). IsIn x l) (sym at) (in-append_right x xs ys (head_in ys x (sym ne ∙ e)));
    only_here = λ j m. absurd (free (j, m));
    home = λ j e. (sym (same_Some k j e), in-append_right i xs (i ∷ ys) (inl refl));
    within = li;
    keeps = λ x d m. in_inserted-from i x xs ys (subst (λ (l : List ℕ). IsIn x l) at m);
  }

  pub insert_spells : Spells gs in_slots ms
  insert_spells = change_spells es gs s in_slots ls ms k i in_slot p n (Some i) (Some i) (ends_between (ends_at es k) p n (Some i) (Some i)) (xs ++ i ∷ ys) h lk in_change

-- the list k of links that spell ls, with the item i taken out from between xs and ys
module _ (es gs : List Ends) (s t u : List Slot) (ls ms : List (List ℕ)) (h : Spells es s ls) (k i : ℕ) (lk : k < length es) (xs ys : List ℕ)
    (at : list_at ls k ≡ xs ++ i ∷ ys) (p n : Option ℕ) (pe : p ≡ last_of None xs) (ne : n ≡ slice_get ys 0)
    (tn : NextSet s t p n) (up : PrevSet t u n p) (ge : EndsSet es gs k (ends_between (ends_at es k) p n n p))
    (count : length ms ≡ length ls) (here : list_at ms k ≡ xs ++ ys) (there : (j : ℕ) → (j ≡ k → ⊥) → list_at ms j ≡ list_at ls j) where
  abbrev out_slots : List Slot
  out_slots = set u i unlinked

  out_rewired : Rewired s out_slots i unlinked p n n p
  out_rewired = rewired s t u i unlinked p n n p tn up

  out_old : IsRing s k (ends_at es k) (xs ++ i ∷ ys)
  out_old = subst (λ (l : List ℕ). IsRing s k (ends_at es k) l) at (h.rings k lk)

  out_parts : (between : Option ℕ) × IsChain s k None (ends_at es k).first xs between × IsChain s k (last_of None xs) between (i ∷ ys) None
  out_parts = chain_split s k None (ends_at es k).first xs (i ∷ ys) None out_old.chain

  out_behind : IsChain s k (Some i) n ys None
  out_behind = subst (λ m. IsChain s k (Some i) m ys None) (chain_head s k (Some i) (slot_at s i).next ys out_parts.2.4 ∙ sym ne) out_parts.2.4

  out_in : IsIn i (list_at ls k)
  out_in = subst (λ (l : List ℕ). IsIn i l) (sym at) (in-append_right i xs (i ∷ ys) (inl refl))

  out_front : (x : ℕ) → IsIn x xs → (x ≡ i → ⊥) × (n ≡ Some x → ⊥)
  out_front x m = (
    λ e. once-append x xs (i ∷ ys) out_old.once m (inl e),
    λ e. once-append x xs (i ∷ ys) out_old.once m (inr (head_in ys x (sym ne ∙ e))),
  )

  out_back : (y : ℕ) → IsIn y ys → (y ≡ i → ⊥) × (p ≡ Some y → ⊥)
  out_back y m = (
    λ e. (once-right xs (i ∷ ys) out_old.once).0 (subst (λ z. IsIn z ys) e m),
    λ e. once-append y xs (i ∷ ys) out_old.once (last_found xs y (sym pe ∙ e)) (inr m),
  )

  out_chain : IsChain out_slots k None (end_after p (ends_at es k).first n) (xs ++ ys) None
  out_chain =
      let ahead = front s out_slots i unlinked p n n p out_rewired k None (ends_at es k).first out_parts.0 xs (once-left xs (i ∷ ys) out_old.once) out_front pe out_parts.1 in
      let behind = back s out_slots i unlinked p n n p out_rewired k (Some i) ys None (once-right xs (i ∷ ys) out_old.once).1 out_back out_behind in
      subst (λ f. IsChain out_slots k None f (xs ++ ys) None) (sym (ap (λ q. end_after q (ends_at es k).first n) pe ∙ first_from-end_after xs (ends_at es k).first n))
      (chain_join out_slots k None _ n xs ys None ahead (subst (λ q. IsChain out_slots k q n ys None) pe behind))

  out_ending : end_after n (ends_at es k).last p ≡ last_of None (xs ++ ys)
  out_ending = last_kept n (ends_at es k).last p (Some i) (last_of None xs) ys ne (out_old.ending ∙ last-append None xs (i ∷ ys)) pe ∙ sym (last-append None xs ys)

  out_change : Change es gs s out_slots ls ms k i unlinked p n n p (ends_between (ends_at es k) p n n p) (xs ++ ys)
  out_change = record {
    slots = out_rewired;
    ends = ge;
    count = count;
    here = here;
    there = there;
    ring = record {
      chain = out_chain;
      ending = out_ending;
      once = subst (λ l. EachOnce l) (without-split i xs ys out_old.once) (once-without i (xs ++ i ∷ ys) out_old.once);
    };
    prev_in = λ x e. subst (λ (l : List ℕ). IsIn x l) (sym at) (in-append_left x xs (i ∷ ys) (last_found xs x (sym pe ∙ e)));
    next_in = λ x e. subst (λ (l : List ℕ). IsIn x l) (sym at) (in-append_right x xs (i ∷ ys) (inr (head_in ys x (sym ne ∙ e))));
    only_here = λ j m. same_Some j k (sym (linked_home es s ls h j i m).1 ∙ (linked_home es s ls h k i out_in).1);
    home = λ j e. absurd (none-some j e);
    within = (linked_home es s ls h k i out_in).0;
    keeps = λ x d m. elim (in-inserted i x xs ys (subst (λ (l : List ℕ). IsIn x l) at m)) [ inl e ↦ absurd (d e) | inr r ↦ r ];
  }

  pub remove_spells : Spells gs out_slots ms
  remove_spells = change_spells es gs s out_slots ls ms k i unlinked p n n p (ends_between (ends_at es k) p n n p) (xs ++ ys) h lk out_change
