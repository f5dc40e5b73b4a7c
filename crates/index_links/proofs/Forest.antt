-- The trees under one item melded into one.
use Rattle.std.proofs.Common.{◌≡◌, ℕ, ◌<◌, ◌≤◌, List, [], ◌∷◌, ◌++◌, ◌⊎◌, inl, inr, length, refl, sym, ◌∙◌, ap, subst, arith, length-set, Option, Some, None}
use Rattle.std.specs.Prelude.{slice_get, unwrap_or}
use Rattle.std.proofs.lemmas.Bool.{cases_eq, cases_lt}
use Rattle.std.proofs.lemmas.List.{get_or_past, length-map}
use Rattle.std.proofs.lemmas.Option.{same_Some, none-some}
use Rattle.index_links.specs.Lists.{Lists, IsIn, EachOnce, IsLinked, AreDisjoint, list_at, without, lists_with_last, lists_without}
use Rattle.index_links.specs.Queue.{key_at, HasPair, Precedes}
use Rattle.index_links.specs.Forest.{IsAbove, IsForest, SameLinked, IsCut}
use Rattle.index_links.proofs.Members.{split, in-append_right, once-right, head_in, headed, headless, length-without-lt}
use Rattle.index_links.proofs.ListChanges.{list_at-with_last_other, list_at-without, with_last_has, with_last_in, with_last_keeps, without_in, without_keeps}

pub held_within : (keys : List (Option ℕ)) (i key : ℕ) → HasPair keys key i → i < length keys
held_within keys i key h = elim (cases_lt i (length keys)) [ inl l ↦ l | inr g ↦ absurd (none-some key (sym (get_or_past keys i None g) ∙ h)) ]

pub above_first : (keys : List (Option ℕ)) (i j : ℕ) → IsAbove keys i j → i < length keys
above_first keys i j l = held_within keys i l.key l.held

pub above_second : (keys : List (Option ℕ)) (i j : ℕ) → IsAbove keys i j → j < length keys
above_second keys i j l = held_within keys j l.other l.other_held

pub above_apart : (keys : List (Option ℕ)) (i j : ℕ) → IsAbove keys i j → i ≡ j → ⊥
above_apart keys i j l e =
    let k : l.key ≡ l.other = same_Some l.key l.other (sym l.held ∙ ap (key_at keys) e ∙ l.other_held) in
    elim l.before [ inl a ↦ omega arith | inr b ↦ omega arith ]

pub above_chain : (keys : List (Option ℕ)) (i j m : ℕ) → IsAbove keys i j → IsAbove keys j m → IsAbove keys i m
above_chain keys i j m a b =
    let k : a.other ≡ b.key = same_Some a.other b.key (sym a.other_held ∙ b.held) in
    let s : Precedes a.key i b.other m =
    elim a.before [
      | inl x ↦ elim b.before [ inl y ↦ inl (omega arith) | inr y ↦ inl (omega arith) ]
      | inr x ↦ elim b.before [ inl y ↦ inl (omega arith) | inr y ↦ inr (omega arith, omega arith) ]
    ] in
    record { key = a.key; other = b.other; held = a.held; other_held = b.other_held; before = s }

abbrev pub with_lists : Lists → List (List ℕ) → Lists
with_lists o ls = record { lists = ls; items = o.items }

pub forest_link : (keys : List (Option ℕ)) (o : Lists) (p i : ℕ) → IsForest keys o → IsAbove keys p i → IsForest keys (with_lists o (lists_with_last o.lists p i))
forest_link keys o p i f l =
    let n : length o.lists ≡ length keys = f.lists in
    let w : p < length keys = above_first keys p i l in
    record {
      items = f.items;
      lists = length-set o.lists p (list_at o.lists p ++ i ∷ []) ∙ f.lists;
      ordered = λ q c m. elim (with_last_in o.lists p i c q (omega arith) m) [
        | inl a ↦ f.ordered q c a
        | inr e ↦ subst (λ y. IsAbove keys y c) (sym e.0) (subst (λ y. IsAbove keys p y) (sym e.1) l)
      ];
    }

pub forest_unlink : (keys : List (Option ℕ)) (o : Lists) (i : ℕ) → IsForest keys o → IsForest keys (with_lists o (lists_without o.lists i))
forest_unlink keys o i f = record {
  items = f.items;
  lists = length-map o.lists (without i) ∙ f.lists;
  ordered = λ q c m. f.ordered q c (without_in o.lists i c q m).0;
}

-- the item that stands behind i in a list
pub behind : (ls : List (List ℕ)) (k i n : ℕ) (next : Option ℕ) → EachOnce (list_at ls k) → IsIn i (list_at ls k)
    → ((k : ℕ) (before after : List ℕ) → list_at ls k ≡ before ++ i ∷ after → next ≡ slice_get after 0) → next ≡ Some n → IsIn n (list_at ls k) × (i ≡ n → ⊥)
behind ls k i n next once m says e =
    let p = split i (list_at ls k) m in
    let h : IsIn n p.1 = head_in p.1 n (sym (says k p.0 p.1 p.2) ∙ e) in
    let o : EachOnce (p.0 ++ i ∷ p.1) = subst (λ (l : List ℕ). EachOnce l) p.2 once in (
      subst (λ (l : List ℕ). IsIn n l) (sym p.2) (in-append_right n p.0 (i ∷ p.1) (inr h)),
      λ q. (once-right p.0 (i ∷ p.1) o).0 (subst (λ z. IsIn z p.1) (sym q) h),
    )

-- a list with nothing behind its first item
pub only_one : (ls : List (List ℕ)) (k a : ℕ) (next : Option ℕ) → slice_get (list_at ls k) 0 ≡ Some a
    → ((k : ℕ) (before after : List ℕ) → list_at ls k ≡ before ++ a ∷ after → next ≡ slice_get after 0) → next ≡ None → length (list_at ls k) ≤ 1
only_one ls k a next e says q =
    let h = headed (list_at ls k) a e in
    let z : h.0 ≡ [] = headless h.0 (sym (says k [] h.0 h.1) ∙ q) in
    let l : length (list_at ls k) ≡ 1 = ap length (h.1 ∙ ap (λ l. a ∷ l) z) in
    omega arith

-- no item is a first one
pub no_item : (ls : List (List ℕ)) (k : ℕ) → slice_get (list_at ls k) 0 ≡ None → length (list_at ls k) ≤ 1
no_item ls k e = let z : length (list_at ls k) ≡ 0 = ap length (headless (list_at ls k) e) in omega arith

-- the lists where the loser was put under the winner
abbrev pub melded : List (List ℕ) → ℕ → ℕ → List (List ℕ)
melded ls w l = lists_with_last (lists_without ls l) w l

module _ (keys : List (Option ℕ)) (o : Lists) (parent a b w l : ℕ) (f : IsForest keys o) (d : AreDisjoint o) (ma : IsIn a (list_at o.lists parent)) (mb : IsIn b (list_at o.lists parent))
    (both : ((w ≡ a) × (l ≡ b)) ⊎ ((w ≡ b) × (l ≡ a))) (above : IsAbove keys w l) where
  winner_in : IsIn w (list_at o.lists parent)
  winner_in = elim both [ inl h ↦ subst (λ z. IsIn z (list_at o.lists parent)) (sym h.0) ma | inr h ↦ subst (λ z. IsIn z (list_at o.lists parent)) (sym h.0) mb ]

  pub loser_in : IsIn l (list_at o.lists parent)
  loser_in = elim both [ inl h ↦ subst (λ z. IsIn z (list_at o.lists parent)) (sym h.1) mb | inr h ↦ subst (λ z. IsIn z (list_at o.lists parent)) (sym h.1) ma ]

  over : IsAbove keys parent w
  over = f.ordered parent w winner_in

  apart : l ≡ w → ⊥
  apart e = above_apart keys w l above (sym e)

  pub winner_within : w < length (lists_without o.lists l)
  winner_within =
      let n : length (lists_without o.lists l) ≡ length keys = length-map o.lists (without l) ∙ f.lists in
      let h : w < length keys = above_first keys w l above in
      omega arith

  pub loser_within : l < o.items
  loser_within = d.in_range l parent loser_in

  pub loser_free : IsLinked (lists_without o.lists l) l → ⊥
  loser_free m = (without_in o.lists l l m.0 m.1).1 refl

  pub meld_forest : IsForest keys (with_lists o (melded o.lists w l))
  meld_forest = forest_link keys (with_lists o (lists_without o.lists l)) w l (forest_unlink keys o l f) above

  pub meld_same : SameLinked o.lists (melded o.lists w l)
  meld_same j = (
    λ m. elim (with_last_in (lists_without o.lists l) w l j m.0 winner_within m.1) [
      | inl x ↦ (m.0, (without_in o.lists l j m.0 x).0)
      | inr x ↦ (parent, subst (λ z. IsIn z (list_at o.lists parent)) (sym x.1) loser_in)
    ],
    λ m. elim (cases_eq l j) [
      | inl q ↦ (w, subst (λ z. IsIn z (list_at (melded o.lists w l) w)) q (with_last_has (lists_without o.lists l) w l winner_within))
      | inr n ↦ (m.0, with_last_keeps (lists_without o.lists l) w l j m.0 winner_within (without_keeps o.lists l j m.0 m.1 n))
    ],
  )

  pub meld_shorter : length (list_at (melded o.lists w l) parent) < length (list_at o.lists parent)
  meld_shorter =
      let e : length (list_at (melded o.lists w l) parent) ≡ length (without l (list_at o.lists parent)) =
      ap length (list_at-with_last_other (lists_without o.lists l) w l parent (above_apart keys parent w over) ∙ list_at-without o.lists l parent) in
      let h = length-without-lt l (list_at o.lists parent) loser_in in
      omega arith

  pub meld_winner : IsIn w (list_at (melded o.lists w l) parent)
  meld_winner = with_last_keeps (lists_without o.lists l) w l w parent winner_within (without_keeps o.lists l w parent winner_in apart)

-- the last tree taken off
pub same_refl : (ls : List (List ℕ)) → SameLinked ls ls
same_refl ls j = (λ m. m, λ m. m)

pub same_chain : (a b c : List (List ℕ)) → SameLinked a b → SameLinked b c → SameLinked a c
same_chain a b c p q j = (λ m. (p j).0 ((q j).0 m), λ m. (q j).1 ((p j).1 m))

pub cut_none : (keys : List (Option ℕ)) (ls : List (List ℕ)) (i : ℕ) → slice_get (list_at ls i) 0 ≡ None → IsCut keys ls ls i None
cut_none keys ls i e =
    let z : list_at ls i ≡ [] = headless (list_at ls i) e in
    record {
      bare = λ j m. subst (λ (l : List ℕ). IsIn j l) z m;
      stays = λ j m. inr m;
      was = λ j m. m;
      below = λ j q. absurd (none-some j q);
      loose = λ j q. absurd (none-some j q);
    }

pub cut_some : (keys : List (Option ℕ)) (old : List (List ℕ)) (o : Lists) (i c : ℕ) → IsForest keys o → SameLinked old o.lists → list_at o.lists i ≡ c ∷ [] → IsCut keys old (lists_without o.lists c) i (Some c)
cut_some keys old o i c f same z = record {
  bare = λ j m.
      let x = without_in o.lists c j i m in
      elim (subst (λ (l : List ℕ). IsIn j l) z x.0) [ inl q ↦ x.1 (sym q) | inr n ↦ n ];
  stays = λ j m.
      let x = (same j).1 m in
      elim (cases_eq c j) [ inl q ↦ inl (ap Some q) | inr n ↦ inr (x.0, without_keeps o.lists c j x.0 x.1 n) ];
  was = λ j m. (same j).0 (m.0, (without_in o.lists c j m.0 m.1).0);
  below = λ j q. subst (λ y. IsAbove keys i y) (same_Some c j q) (f.ordered i c (subst (λ (l : List ℕ). IsIn c l) (sym z) (inl refl)));
  loose = λ j q m. (without_in o.lists c j m.0 m.1).1 (same_Some c j q);
}

-- where the passes go on: behind the winner, or at it where it is the last
pub goes_on : (ls : List (List ℕ)) (k w : ℕ) (next : Option ℕ) (at : ℕ) → EachOnce (list_at ls k) → IsIn w (list_at ls k)
    → ((k : ℕ) (before after : List ℕ) → list_at ls k ≡ before ++ w ∷ after → next ≡ slice_get after 0) → at ≡ unwrap_or next w → IsIn at (list_at ls k)
goes_on ls k w None at once m says e = subst (λ z. IsIn z (list_at ls k)) (sym e) m
goes_on ls k w (Some n) at once m says e = subst (λ z. IsIn z (list_at ls k)) (sym e) (behind ls k w n (Some n) once m says refl).0
