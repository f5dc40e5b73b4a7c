-- The label that a turn of the search takes.
use Rattle.std.proofs.Common.{◌≡◌, ℕ, ◌+◌, ◌-◌, ◌^◌, ◌<◌, ◌≤◌, inl, inr, List, length, sym, ◌∙◌, ap, subst, arith, true, Option, Some}
use Rattle.std.specs.Prelude.{IfSome, slice_get}
use Rattle.std.proofs.lemmas.Option.{slice_get_within}
use Rattle.std.proofs.lemmas.Bool.{cases_eq}
use Rattle.label_pool.specs.Labels.{Labels}
use Rattle.label_pool.specs.declared.label.Label.{Label}
use Rattle.label_pool.proofs.Elements.{set_here}
use Rattle.frvcp_labels.specs.Answers.{IsHome, IsTaken}
use Rattle.frvcp_labels.specs.Charged.{AreCharged, charged_by}
use Rattle.frvcp_labels.specs.Full.{AreFull}
use Rattle.frvcp_labels.specs.Search.{AreSound, IsGrown, IsSoundPool, IsSpread, Reached, Spreads, settled_count}
use Rattle.route_steps.specs.Trips.{Journey}
use Rattle.route_steps.specs.Ways.{begin}
use Rattle.route_steps.specs.declared.state.State.{State}
use Rattle.frvcp_labels.proofs.FullBattery.{full_grown}
use Rattle.frvcp_labels.proofs.SearchTurns.{count_most, falls, least_home, now_count, now_reached, now_sound, settled_now, turn, was_reached}

pub is_taken : (old now : Labels State) (o : Option ℕ) (i : ℕ) → o ≡ Some i → IfSome o (λ n. IsTaken old now n) → IsTaken old now i
is_taken old now o i is told = subst (λ (x : Option ℕ). IfSome x (λ n. IsTaken old now n)) is told

-- a key that is below a bar
pub is_below : (old : Labels State) (bar : ℕ) (o : Option ℕ) (i : ℕ) → o ≡ Some i → IfSome o (λ n. (label : Label State) → slice_get old.labels n ≡ Some label → label.key < bar)
    → (label : Label State) → slice_get old.labels i ≡ Some label → label.key < bar
is_below old bar o i is told = subst (λ (x : Option ℕ). IfSome x (λ n. (label : Label State) → slice_get old.labels n ≡ Some label → label.key < bar)) is told

module _ (t : Journey) (old now : Labels State) (i : ℕ) (taken : IsTaken old now i) where
  pub labels_are : now.labels ≡ settled_now t old.labels i taken.label taken.next.here taken.next.waits
  labels_are = ap (λ (p : Labels State). p.labels) taken.is

  pub here_now : slice_get now.labels i ≡ Some (record taken.label { settled = true })
  here_now = ap (λ ls. slice_get ls i) labels_are ∙ set_here old.labels i (record taken.label { settled = true }) taken.label taken.next.here

  pub taken_inside : i < length now.labels
  taken_inside = slice_get_within now.labels i (record taken.label { settled = true }) here_now

  pub taken_sound : IsSoundPool t old → IsSoundPool t now
  taken_sound sound = record {
    trip = sound.trip;
    labels = subst (λ (ls : List (Label State)). AreSound t ls) (sym labels_are) (now_sound t old.labels i taken.label taken.next.here taken.next.waits sound.labels);
    buckets = ap (λ (p : Labels State). p.buckets) taken.is ∙ sound.buckets;
    few = sound.few;
  }

  pub taken_full : (full : List (Option ℕ)) → AreFull t old.labels full → AreFull t now.labels full
  taken_full full is = full_grown t old.labels now.labels full
      (λ v r. subst (λ (ls : List (Label State)). Reached ls v) (sym labels_are) (now_reached t old.labels i taken.label taken.next.here taken.next.waits v r)) is

  pub taken_charged : AreCharged t old.labels → AreCharged t now.labels
  taken_charged is v added r other may =
      let was = was_reached t old.labels i taken.label taken.next.here taken.next.waits v (subst (λ (ls : List (Label State)). Reached ls v) labels_are r) in
      subst (λ (ls : List (Label State)). Reached ls (charged_by t.network v added)) (sym labels_are)
      (now_reached t old.labels i taken.label taken.next.here taken.next.waits (charged_by t.network v added) (is v added was other may))

  -- short of the end there is a next node
  pub taken_on_way : (state : State) (end : ℕ) → IsSoundPool t old → end ≡ length t.route - 1 → (state.passed ≡ end → ⊥) → ((label : Label State) → slice_get now.labels i ≡ Some label → state ≡ label.value)
      → (label : Label State) → slice_get now.labels i ≡ Some label → label.value.passed + 1 < length t.route
  taken_on_way state end sound is other told label there =
      let inside : label.value.passed < length t.route = ((taken_sound sound).labels i label there).state.passed in
      let same : state.passed ≡ label.value.passed = ap (λ (s : State). s.passed) (told label there) in
      let two = sound.trip.two in
      elim (cases_eq label.value.passed (length t.route - 1)) [
        | inl at ↦ absurd (other (same ∙ at ∙ sym is))
        | inr short ↦ omega (arith, inside, two, short)
      ]

  pub taken_turn : (later : Labels State) (bar : Option ℕ) → IsSpread t old.labels bar (begin t.start) → IsGrown now.labels later.labels → ((label : Label State) → slice_get now.labels i ≡ Some label → label.value.passed + 1 < length t.route)
      → ((label : Label State) → slice_get now.labels i ≡ Some label → Spreads t later.labels bar label.value) → IsSpread t later.labels bar (begin t.start)
  taken_turn later bar spread grown before spreads =
      let short : taken.label.value.passed + 1 < length t.route = before (record taken.label { settled = true }) here_now in
      turn t old.labels i taken.label taken.next.here taken.next.waits (begin t.start) later.labels bar spread (subst (λ (ls : List (Label State)). IsGrown ls later.labels) labels_are grown) (omega (arith, short))
      (spreads (record taken.label { settled = true }) here_now)

  pub taken_falls : (later : Labels State) → IsGrown now.labels later.labels → length now.labels < 2 ^ 63 → 2 ^ 63 - settled_count later.labels < 2 ^ 63 - settled_count old.labels
  taken_falls later grown small =
      let most : settled_count now.labels ≤ length now.labels = count_most now.labels in
      let count = grown.count in
      falls (settled_count old.labels) (settled_count later.labels) (length now.labels)
      (grown.count ∙ ap settled_count labels_are ∙ now_count t old.labels i taken.label taken.next.here taken.next.waits) (omega (arith, most, count)) small

  -- at the end no way home takes less time
  pub taken_home : (state : State) (end bar : ℕ) → IsSoundPool t old → IsSpread t old.labels (Some bar) (begin t.start) → end ≡ length t.route - 1 → state.passed ≡ end → ((label : Label State) → slice_get now.labels i ≡ Some label → state ≡ label.value)
      → ((label : Label State) → slice_get old.labels i ≡ Some label → label.key < bar) → IsHome t now.labels bar i
  taken_home state end bar sound spread is at told below = record {
    label = record taken.label { settled = true };
    here = here_now;
    home = ap (λ (s : State). s.passed) (sym (told (record taken.label { settled = true }) here_now)) ∙ at ∙ is;
    below = below taken.label taken.next.here;
    least = λ stops rest. least_home t old.labels bar spread i taken.label sound.labels taken.next (below taken.label taken.next.here) stops rest;
  }
