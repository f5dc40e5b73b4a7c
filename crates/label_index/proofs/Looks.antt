-- Entries with a key that are looked at one after another, until one is too late: none is left out.
use Rattle.std.proofs.Common.{◌≡◌, ◌≢◌, ◌∙◌, ℕ, ◌+◌, ◌<◌, ◌≤◌, List, length, sym, ap, subst, arith, inl, inr, false}
use Rattle.std.specs.List.{Contains}
use Rattle.std.specs.Prelude.{slice_index_or}
use Rattle.std.proofs.lemmas.Bool.{cases_eq, cases_lt}
use Rattle.std.proofs.lemmas.List.{get_or_default}
use Rattle.label_index.specs.Entries.{AreEntries, IsEntry, TellsTime}
use Rattle.label_index.specs.declared.entry.Entry.{Entry}

-- the entries from a place on are left to be looked at: each one before it misses
pub record IsLeft {T : Type 0} (misses : Entry T → Type 0) (entries : List (Entry T)) (begin at : ℕ) : Type 0 where
  pub from : begin ≤ at
  pub within : at ≤ length entries
  pub passed : (i : ℕ) (d : Entry T) → i < at → misses (slice_index_or entries i d)

module _ {L T : Type 0} (key_of : L → ℕ) (value_of : L → List (ℕ × ℕ)) (keeps : L → T → Type 0) (labels : List L) (misses : Entry T → Type 0) (key time : ℕ)
    (other_key : (e : Entry T) → IsEntry key_of value_of keeps labels e → e.key ≢ key → misses e) (too_late : (e : Entry T) → IsEntry key_of value_of keeps labels e → time < e.time → misses e) (entries : List (Entry T)) (are : AreEntries key_of value_of keeps labels entries) where
  pub left_first : (begin : ℕ) → begin ≤ length entries → ((i : ℕ) (d : Entry T) → i < begin → (slice_index_or entries i d).key < key) → IsLeft misses entries begin begin
  left_first begin within before = record {
    from = omega arith;
    within = within;
    passed = λ i d less.
        let low = before i d less in
        other_key (slice_index_or entries i d) (are.each i d (omega (arith, less, within))) (λ same. omega (arith, low, same));
  }

  pub left_next : (begin at : ℕ) (e : Entry T) → at < length entries → misses (slice_index_or entries at e) → IsLeft misses entries begin at → IsLeft misses entries begin (at + 1)
  left_next begin at e less missed left = record {
    from = omega (arith, left.from);
    within = omega (arith, less);
    passed = λ i d low. elim (cases_eq i at) [
      | inl same ↦
          let value : slice_index_or entries at e ≡ slice_index_or entries i d = get_or_default entries at e d less ∙ ap (λ k. slice_index_or entries k d) (sym same) in
          subst misses value missed
      | inr other ↦ left.passed i d (omega (arith, low, other))
    ];
  }

  -- once no entry is left that has the key and is in time, the entry of each label misses
  pub left_nothing : (begin at : ℕ) → ((i : ℕ) (d : Entry T) → begin ≤ i → i < length entries → key ≤ (slice_index_or entries i d).key) → TellsTime entries at key time false → IsLeft misses entries begin at → (e : Entry T) → Contains entries e → misses e
  left_nothing begin at behind ends left e has =
      let less = has.1 in
      let value : slice_index_or entries has.0 e ≡ e = has.2 in
      let known : IsEntry key_of value_of keeps labels e = subst (λ (f : Entry T). IsEntry key_of value_of keeps labels f) value (are.each has.0 e less) in
      elim (cases_lt has.0 at) [
        | inl before ↦ subst misses value (left.passed has.0 e before)
        | inr after ↦ elim (cases_eq e.key key) [
          | inl same ↦
              let inside : at < length entries = omega (arith, after, less) in
              let low = behind at e left.from inside in
              let up = are.order.keys at has.0 e after less in
              let its : (slice_index_or entries has.0 e).key ≡ e.key = ap (λ (f : Entry T). f.key) value in
              let when : (slice_index_or entries has.0 e).time ≡ e.time = ap (λ (f : Entry T). f.time) value in
              let here : (slice_index_or entries at e).key ≡ key = omega (arith, low, up, its, same) in
              let late = ends e inside here in
              let times = are.order.times at has.0 e after less (omega (arith, here, its, same)) in
              too_late e known (omega (arith, late, times, when))
          | inr other ↦ other_key e known other
        ]
      ]
