-- Entries of labels, made one by one and put in order.
use Rattle.std.proofs.Common.{◌≡◌, ◌∙◌, ℕ, zero, suc, ◌+◌, ◌-◌, ◌<◌, ◌≤◌, List, [], ◌∷◌, ◌++◌, length, sym, ap, subst, arith, inl, inr}
use Rattle.std.specs.List.Sorted.{IsNonDecreasingBy}
use Rattle.std.specs.Prelude.{slice_index, slice_index_or}
use Rattle.std.proofs.lemmas.Bool.{cases_eq}
use Rattle.std.proofs.lemmas.List.{get_or_append_left, get_or_default, length-append}
use Rattle.std.proofs.Math.Seq.{get_or-append_right}
use Rattle.dominance.specs.LevelTimes.{IsLevel, IsValue, LevelTimes, time_at}
use Rattle.piece_fn.specs.PieceFn.{level_times}
use Rattle.label_index.specs.Entries.{AreInOrder, HasEntries, IsEntry, IsEntryOf}
use Rattle.label_index.specs.declared.entry.Entry.{Entry}

-- a higher level takes no less time
pub later_time : (v : LevelTimes) → IsValue v → (low high : ℕ) → IsLevel v low → IsLevel v high → low ≤ high → time_at v low ≤ time_at v high
later_time v is low high at to up = is.rising (low - v.first) (high - v.first) 0 (omega (arith, up)) (omega (arith, to.0, to.1))

-- no level has an earlier time than the first
pub least_time : (v : LevelTimes) → IsValue v → (level : ℕ) → IsLevel v level → time_at v v.first ≤ time_at v level
least_time v is level at =
    let none : v.first - v.first ≡ 0 = omega arith in
    let rises = is.rising 0 (level - v.first) 0 (omega arith) (omega (arith, at.0, at.1)) in
    omega (arith, rises, ap (slice_index v.times) none)

-- the entry of a label
pub entry_of : {L T : Type 0} (key_of : L → ℕ) (value_of : L → List (ℕ × ℕ)) (keeps : L → T → Type 0) (labels : List L) (e : Entry T) (l : L) → e.number < length labels → l ≡ slice_index_or labels e.number l → e.key ≡ key_of l → keeps l e.rest
    → IsValue (level_times (value_of l)) → e.time ≡ time_at (level_times (value_of l)) (level_times (value_of l)).first → IsEntry key_of value_of keeps labels e
entry_of key_of value_of keeps labels e l less is key rest value time = record {
  known = less;
  told = λ d.
      let here : l ≡ slice_index_or labels e.number d = is ∙ get_or_default labels e.number l d less in
      let mine : IsEntryOf (key_of l) (level_times (value_of l)) (keeps l) e = record {
        key = key;
        rest = rest;
        earliest = λ level at. (let least = least_time (level_times (value_of l)) value level at in omega (arith, least, time));
      } in
      subst (λ k. IsEntryOf (key_of k) (level_times (value_of k)) (keeps k) e) here mine;
}

-- one more label has an entry
pub every_more : {T : Type 0} (n : ℕ) (entries : List (Entry T)) (e : Entry T) → HasEntries n entries → e.number ≡ n → HasEntries (n + 1) (entries ++ e ∷ [])
every_more n entries e have is i less = elim (cases_eq i n) [
  | inl here ↦
      let past : length entries - length entries ≡ 0 = omega arith in
      let value : slice_index_or (entries ++ e ∷ []) (length entries) e ≡ e = get_or-append_right entries (e ∷ []) (length entries) e (omega arith) ∙ ap (λ k. slice_index_or (e ∷ []) k e) past in
      let more = length-append entries (e ∷ []) in
      (e, (length entries, omega (arith, more), value), is ∙ sym here)
  | inr other ↦
      let old = have i (omega (arith, less, other)) in
      let more = length-append entries (e ∷ []) in
      let inside = old.1.1 in
      (old.0, (old.1.0, omega (arith, more, inside), get_or_append_left entries (e ∷ []) old.0 old.1.0 inside ∙ old.1.2), old.2)
]

module _ {T : Type 0} (entries : List (Entry T)) (keys : IsNonDecreasingBy (λ (e : Entry T). e.key) entries) (ties : (k : ℕ) (d : Entry T) → k + 1 < length entries → (slice_index_or entries k d).key ≡ (slice_index_or entries (k + 1) d).key → (slice_index_or entries k d).time ≤ (slice_index_or entries (k + 1) d).time) where
  far : (i n : ℕ) (d : Entry T) → i + n < length entries → (slice_index_or entries i d).key ≡ (slice_index_or entries (i + n) d).key → (slice_index_or entries i d).time ≤ (slice_index_or entries (i + n) d).time
  far i zero d less same =
      let here : i + 0 ≡ i = omega arith in
      omega (arith, ap (λ k. (slice_index_or entries k d).time) here)
  far i (suc n) d less same =
      let next : i + suc n ≡ i + n + 1 = omega arith in
      let key : (slice_index_or entries (i + suc n) d).key ≡ (slice_index_or entries (i + n + 1) d).key = ap (λ k. (slice_index_or entries k d).key) next in
      let time : (slice_index_or entries (i + suc n) d).time ≡ (slice_index_or entries (i + n + 1) d).time = ap (λ k. (slice_index_or entries k d).time) next in
      let up = keys i (i + n) d (omega arith) (omega (arith, less)) in
      let last = keys (i + n) (i + n + 1) d (omega arith) (omega (arith, less)) in
      let before = far i n d (omega (arith, less)) (omega (arith, up, last, same, key)) in
      let behind = ties (i + n) d (omega (arith, less)) (omega (arith, up, last, same, key)) in
      omega (arith, before, behind, time)

  pub ordered : AreInOrder entries
  ordered = record {
    keys = keys;
    times = λ i j d up less same.
        let at : i + (j - i) ≡ j = omega (arith, up) in
        let key : (slice_index_or entries (i + (j - i)) d).key ≡ (slice_index_or entries j d).key = ap (λ k. (slice_index_or entries k d).key) at in
        let time : (slice_index_or entries (i + (j - i)) d).time ≡ (slice_index_or entries j d).time = ap (λ k. (slice_index_or entries k d).time) at in
        let is = far i (j - i) d (omega (arith, at, less)) (same ∙ sym key) in
        omega (arith, is, time);
  }
