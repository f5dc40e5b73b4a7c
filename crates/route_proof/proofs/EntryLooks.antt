-- Entries that were looked at, one after another, for a label that covers a vehicle.
use Rattle.std.proofs.Common.{◌≡◌, ◌≢◌, ◌∙◌, ℕ, ◌<◌, ◌≤◌, List, Some, length, refl, sym, ap, subst, arith, false}
use Rattle.std.specs.Prelude.{slice_get, slice_index_or}
use Rattle.std.proofs.lemmas.Option.{get_or_from_slice_get, slice_get_read}
use Rattle.charge_curve.specs.Points.{ArePoints, last_level}
use Rattle.dominance.specs.LevelTimes.{IsLevel, time_at}
use Rattle.label_steps.specs.Covering.{IsCoveredTo}
use Rattle.piece_fn.specs.PieceFn.{IsReach, level_times}
use Rattle.piece_fn.proofs.Levels.{first_is_least, is_level, is_value, level_is}
use Rattle.route_steps.specs.Ways.{Leaving}
use Rattle.route_steps.specs.declared.state.Place.{Place}
use Rattle.route_proof.specs.Covered.{Covers, IsCovered}
use Rattle.route_proof.specs.declared.proof.RouteLabel.{RouteLabel}
use Rattle.route_proof.proofs.Rules.{label_at}
use Rattle.route_proof.specs.Asking.{covers}
use Rattle.route_proof.specs.Links.{AreEntries, IsEntry, keeps_nothing, key_of, label_key, points_of}
use Rattle.route_proof.specs.Questions.{Question}
use Rattle.label_index.specs.Entries.{IsEntryOf, TellsTime}
use Rattle.label_index.specs.declared.entry.Entry.{Entry}
use Rattle.label_index.proofs.EntryLists.{later_time}
use Rattle.label_index.proofs.Looks.{IsLeft as IsLeftBy, left_first as left_first_by, left_nothing as left_nothing_by}

-- the vehicles of the value up to a level are covered by a label that reaches so far
pub reach_covers : (q : Question) (p : Place) (value : List (ℕ × ℕ)) (n : ℕ) (l : RouteLabel) (level to : ℕ) → slice_get q.labels n ≡ Some l → l.passed ≡ p.passed → l.node ≡ p.node → IsReach (level_times l.value) (level_times value) 0 level to
    → IsCoveredTo (covers q p) (level_times value) level to
reach_covers q p value n l level to here passed node reach = record {
  up = reach.up;
  ends = reach.ends;
  covered = λ y low high below. (l, label_at q.labels n l here, record { passed = passed; node = node; reaches = reach.reached y low high });
}

-- where the value is at the bar or past it, no higher level is below
pub past_bar : (q : Question) (p : Place) (value : List (ℕ × ℕ)) (level last : ℕ) → ArePoints value → IsLevel (level_times value) level → last ≡ last_level value → q.bar ≤ time_at (level_times value) level → IsCoveredTo (covers q p) (level_times value) level last
past_bar q p value level last are is same past =
    let inside = level_is value level are is in
    let first = first_is_least value are in
    record {
      up = omega (arith, inside.1, same);
      ends = is_level value last are (omega (arith, first, same)) (omega (arith, same));
      covered = λ y low high below.
          let there = is_level value y are (omega (arith, inside.0, low)) (omega (arith, high, same)) in
          let later = later_time (level_times value) (is_value value are) level y is there low in
          absurd (omega (arith, later, past, below));
    }

-- the label of an entry does not cover the vehicle
abbrev pub Misses : List RouteLabel → Leaving → Entry (Unit {0}) → Type 0
Misses labels v e = (l : RouteLabel) → slice_get labels e.number ≡ Some l → Covers l v → ⊥

-- what an entry tells of its label
tells : (nodes : ℕ) (labels : List RouteLabel) (e : Entry (Unit {0})) (l : RouteLabel) → IsEntry nodes labels e → slice_get labels e.number ≡ Some l → IsEntryOf (label_key nodes l) (level_times l.value) (keeps_nothing l) e
tells nodes labels e l is here = subst (λ (k : RouteLabel). IsEntryOf (label_key nodes k) (level_times (points_of k)) (keeps_nothing k) e) (get_or_from_slice_get labels e.number l l here) (is.told l)

-- the entries from a place on are left to be looked at: none of the labels of the others covers the vehicle
abbrev pub IsLeft : List RouteLabel → Leaving → List (Entry (Unit {0})) → ℕ → ℕ → Type 0
IsLeft labels v = IsLeftBy (Misses labels v)

module _ (nodes : ℕ) (labels : List RouteLabel) (v : Leaving) (key : ℕ) (is : key ≡ key_of nodes v.passed v.node) where
  -- the label of an entry with another key is at another place
  other_key : (e : Entry (Unit {0})) → IsEntry nodes labels e → e.key ≢ key → Misses labels v e
  other_key e known apart l here covers =
      let passed : l.passed ≡ v.passed = covers.passed in
      let node : l.node ≡ v.node = covers.node in
      let same : key_of nodes l.passed l.node ≡ key_of nodes v.passed v.node = ap (λ k. key_of nodes k l.node) passed ∙ ap (λ k. key_of nodes v.passed k) node in
      apart ((tells nodes labels e l known here).key ∙ same ∙ sym is)

  -- the label of an entry whose time is later than the vehicle's covers nothing so early
  too_late : (e : Entry (Unit {0})) → IsEntry nodes labels e → v.time < e.time → Misses labels v e
  too_late e known late l here covers =
      let r = covers.reaches in
      let first = (tells nodes labels e l known here).earliest r.0 r.1 in
      omega (arith, first, late, r.2.1)

  module _ (entries : List (Entry (Unit {0}))) (are : AreEntries nodes labels entries) where
    pub left_first : (begin : ℕ) → begin ≤ length entries → ((i : ℕ) (d : Entry (Unit {0})) → i < begin → (slice_index_or entries i d).key < key) → IsLeft labels v entries begin begin
    left_first = left_first_by (label_key nodes) points_of keeps_nothing labels (Misses labels v) key v.time other_key too_late entries are

    pub left_nothing : (begin at : ℕ) → ((i : ℕ) (d : Entry (Unit {0})) → begin ≤ i → i < length entries → key ≤ (slice_index_or entries i d).key) → TellsTime entries at key v.time false → IsLeft labels v entries begin at → IsCovered labels v → ⊥
    left_nothing begin at behind ends left covered =
        let l = covered.0 in
        let has = are.every covered.1.0 covered.1.1 in
        let number : slice_get labels has.0.number ≡ Some l = ap (λ k. slice_get labels k) has.2 ∙ slice_get_read labels (length labels) covered.1.0 l refl covered.1.1 (sym covered.1.2) in
        left_nothing_by (label_key nodes) points_of keeps_nothing labels (Misses labels v) key v.time other_key too_late entries are begin at behind ends left has.0 has.1 l number covered.2
