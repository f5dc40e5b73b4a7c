-- A walk along a list by `first` and `next`, which may take out items on its way. The crates above cite
-- these: a loop's invariant has an `IsAt` or an `IsWalk` of some `before` and `rest`, and its measure is
-- `left_at`. `next` is asked for the item behind before the item itself is taken out.
use Rattle.std.proofs.Common.{◌≡◌, ℕ, suc, List, [], ◌∷◌, ◌++◌, inl, length, refl, sym, ◌∙◌, ap, subst, cond, eqb, Option, Some, None}
use Rattle.std.specs.Prelude.{Bool, true, false, filter, slice_get}
use Rattle.std.proofs.lemmas.Bool.{eq-eqb, ne_eqb}
use Rattle.std.proofs.lemmas.List.{append-nil, append_assoc, length-map}
use Rattle.index_links.specs.Lists.{Lists, IsIn, EachOnce, AreDisjoint, list_at, lists_without, without}
use Rattle.index_links.proofs.Members.{headed, headless, in-append_right, without-split}
use Rattle.index_links.proofs.ListChanges.{disjoint-without, list_at-without, list_at-without_other}

-- the lists without one item
abbrev pub rings_without : Lists → ℕ → Lists
rings_without o i = record { lists = lists_without o.lists i; items = o.items }

-- the walk along the list has left `before` behind, and `at` begins what is left
pub record IsAt (o : Lists) (list : ℕ) (at : Option ℕ) (before rest : List ℕ) : Type 0 where
  pub disjoint : AreDisjoint o
  pub shape : list_at o.lists list ≡ before ++ rest
  pub head : at ≡ slice_get rest 0

-- at `first`
pub at_start : (o : Lists) (list : ℕ) (at : Option ℕ) → AreDisjoint o → at ≡ slice_get (list_at o.lists list) 0 → IsAt o list at [] (list_at o.lists list)
at_start o list at d e = record { disjoint = d; shape = refl; head = e }

-- at an item, which stands in the list
pub at_item : (o : Lists) (list i : ℕ) (before rest : List ℕ) → IsAt o list (Some i) before rest → (after : List ℕ) × (rest ≡ i ∷ after) × IsIn i (list_at o.lists list)
at_item o list i before rest w =
    let h = headed rest i (sym w.head) in
    (h.0, h.1, subst (λ (l : List ℕ). IsIn i l) (sym w.shape) (in-append_right i before rest (subst (λ (l : List ℕ). IsIn i l) (sym h.1) (inl refl))))

-- behind the last item
pub at_end : (o : Lists) (list : ℕ) (before rest : List ℕ) → IsAt o list None before rest → (rest ≡ []) × (list_at o.lists list ≡ before)
at_end o list before rest w =
    let e : rest ≡ [] = headless rest (sym w.head) in
    (e, w.shape ∙ ap (λ (r : List ℕ). before ++ r) e ∙ append-nil before)

-- past an item that stays, to what `next` answers
pub at_next : (o : Lists) (list i : ℕ) (next : Option ℕ) (before after : List ℕ) → IsAt o list (Some i) before (i ∷ after) → next ≡ slice_get after 0 → IsAt o list next (before ++ i ∷ []) after
at_next o list i next before after w e = record { disjoint = w.disjoint; shape = w.shape ∙ sym (append_assoc before (i ∷ []) after); head = e }

-- past an item that is taken out
pub at_unlinked : (o : Lists) (list i : ℕ) (next : Option ℕ) (before after : List ℕ) → IsAt o list (Some i) before (i ∷ after) → next ≡ slice_get after 0 → IsAt (rings_without o i) list next before after
at_unlinked o list i next before after w e = record {
  disjoint = disjoint-without o i w.disjoint;
  shape = list_at-without o.lists i list ∙ ap (without i) w.shape ∙ without-split i before after (subst (λ (l : List ℕ). EachOnce l) w.shape (w.disjoint.once list));
  head = e;
}

-- the other lists stay, since the item stands in none of them
pub others_stay : (o : Lists) (list i k : ℕ) → AreDisjoint o → IsIn i (list_at o.lists list) → (k ≡ list → ⊥) → list_at (lists_without o.lists i) k ≡ list_at o.lists k
others_stay o list i k d m n = list_at-without_other o.lists i k (λ q. n (d.one_list i k list q m))

-- how many items of the list are left from the given one on
abbrev pub left_at : Option ℕ → List ℕ → ℕ
left_at None xs = 0
left_at (Some i) [] = 0
left_at (Some i) (x ∷ xs) = cond (eqb i x) (suc (length xs)) (left_at (Some i) xs)

left_some : (i : ℕ) (before after : List ℕ) → EachOnce (before ++ i ∷ after) → left_at (Some i) (before ++ i ∷ after) ≡ suc (length after)
left_some i [] after once = let e : eqb i i ≡ true = eq-eqb i i refl in rw e refl
left_some i (x ∷ xs) after once =
    let e : eqb i x ≡ false = ne_eqb i x (λ q. once.0 (in-append_right x xs (i ∷ after) (inl (sym q)))) in
    rw e (left_some i xs after once.1)

pub left_is : (o : Lists) (list : ℕ) (at : Option ℕ) (before rest : List ℕ) → IsAt o list at before rest → left_at at (list_at o.lists list) ≡ length rest
left_is o list at before [] w = ap (λ z. left_at z (list_at o.lists list)) w.head
left_is o list at before (x ∷ xs) w =
    ap (λ z. left_at z (list_at o.lists list)) w.head ∙ ap (left_at (Some x)) w.shape ∙ left_some x before xs (subst (λ (l : List ℕ). EachOnce l) w.shape (w.disjoint.once list))

-- a walk that takes out each item that does not pass the test: so far from `old` to `now`
pub record IsWalk (test : ℕ → Bool) (old now : Lists) (list : ℕ) (at : Option ℕ) (before rest : List ℕ) : Type 0 where
  pub place : IsAt now list at before rest
  pub items : now.items ≡ old.items
  pub count : length now.lists ≡ length old.lists
  pub kept : before ++ filter test rest ≡ filter test (list_at old.lists list)
  pub others : (k : ℕ) → (k ≡ list → ⊥) → list_at now.lists k ≡ list_at old.lists k

pub walk_start : (test : ℕ → Bool) (o : Lists) (list : ℕ) (at : Option ℕ) → AreDisjoint o → at ≡ slice_get (list_at o.lists list) 0 → IsWalk test o o list at [] (list_at o.lists list)
walk_start test o list at d e = record { place = at_start o list at d e; items = refl; count = refl; kept = refl; others = λ k n. refl }

pub walk_keeps : (test : ℕ → Bool) (old now : Lists) (list i : ℕ) (next : Option ℕ) (before after : List ℕ) → IsWalk test old now list (Some i) before (i ∷ after) → next ≡ slice_get after 0 → test i ≡ true
    → IsWalk test old now list next (before ++ i ∷ []) after
walk_keeps test old now list i next before after w e t =
    let f : filter test (i ∷ after) ≡ i ∷ filter test after = rw t refl in
    record {
      place = at_next now list i next before after w.place e;
      items = w.items;
      count = w.count;
      kept = append_assoc before (i ∷ []) (filter test after) ∙ ap (λ l. before ++ l) (sym f) ∙ w.kept;
      others = w.others;
    }

pub walk_unlinks : (test : ℕ → Bool) (old now : Lists) (list i : ℕ) (next : Option ℕ) (before after : List ℕ) → IsWalk test old now list (Some i) before (i ∷ after) → next ≡ slice_get after 0 → test i ≡ false
    → IsWalk test old (rings_without now i) list next before after
walk_unlinks test old now list i next before after w e t =
    let f : filter test (i ∷ after) ≡ filter test after = rw t refl in
    let m : IsIn i (list_at now.lists list) = subst (λ (l : List ℕ). IsIn i l) (sym w.place.shape) (in-append_right i before (i ∷ after) (inl refl)) in
    record {
      place = at_unlinked now list i next before after w.place e;
      items = w.items;
      count = length-map now.lists (without i) ∙ w.count;
      kept = ap (λ l. before ++ l) (sym f) ∙ w.kept;
      others = λ k n. others_stay now list i k w.place.disjoint m n ∙ w.others k n;
    }

-- at the end the items that pass the test are left
pub walk_end : (test : ℕ → Bool) (old now : Lists) (list : ℕ) (before rest : List ℕ) → IsWalk test old now list None before rest → list_at now.lists list ≡ filter test (list_at old.lists list)
walk_end test old now list before rest w =
    let e = at_end now list before rest w.place in
    e.1 ∙ sym (append-nil before) ∙ ap (λ (r : List ℕ). before ++ filter test r) (sym e.0) ∙ w.kept
