-- What a label covers, and what labels cover together that are found by their entries.
use Rattle.std.proofs.Common.{◌≡◌, ◌≢◌, ◌∙◌, ℕ, ◌+◌, ◌-◌, ◌*◌, ◌<◌, ◌≤◌, ◌^◌, List, length, refl, sym, ap, subst, arith, false, pos, ◌+ℤ◌, ◌≤ℤ◌}
use Rattle.std.specs.List.{Contains}
use Rattle.std.specs.Prelude.{slice_index, slice_index_or}
use Rattle.std.proofs.lemmas.List.{get_or_default}
use Rattle.customer_sets.specs.CustSet.{IsWithin}
use Rattle.dominance.specs.Coverage.{Reaches}
use Rattle.dominance.specs.LevelTimes.{time_at}
use Rattle.fleet_model.specs.Margins.{CoversBy, IsMargin}
use Rattle.fleet_model.proofs.Margins.{covers_by_margin, earlier}
use Rattle.piece_fn.specs.PieceFn.{IsReach, level_times}
use Rattle.label_steps.specs.Covering.{IsCoveredTo}
use Rattle.near_proof.specs.Covered.{CoversNear, IsNearCovered}
use Rattle.near_proof.specs.States.{label_of, NearState}
use Rattle.near_proof.specs.declared.proof.NearLabel.{NearLabel}
use Rattle.near_proof.specs.Links.{AreEntries, IsEntry, keeps_nothing, node_of, points_of}
use Rattle.near_proof.specs.Targets.{Asking, covers, covers_by, state_at}
use Rattle.near_proof.specs.declared.coverage.Target.{Target}
use Rattle.label_index.specs.Entries.{TellsTime}
use Rattle.label_index.specs.declared.entry.Entry.{Entry}
use Rattle.label_index.proofs.Looks.{IsLeft as IsLeftBy, left_first as left_first_by, left_next as left_next_by, left_nothing as left_nothing_by}

module _ (w : ℕ) (l : NearLabel) (t : Target) (level time : ℕ) where
  by_reach : (extra : ℕ) → l.node ≡ t.node → IsWithin l.memory t.memory → Reaches (level_times l.value) extra level time → CoversBy extra (label_of l) (state_at t level time).state
  by_reach extra node within reach = record {
    last = refl;
    node = node;
    served = within;
    reaches = reach;
  }

  pub margin_covers : (extra : ℕ) → l.node ≡ t.node → l.count ≤ t.count → IsWithin l.memory t.memory → IsMargin w (pos l.earned) (pos t.earned) extra → Reaches (level_times l.value) extra level time → covers_by w l t level time
  margin_covers extra node fewer within margin reach =
      (fewer, (covers_by_margin w extra (label_of l) (state_at t level time).state margin).1 (by_reach extra node within reach))

  -- where the label does not reach the level with the margin, it does not cover the state
  pub reaches_not : (extra : ℕ) → IsMargin w (pos l.earned) (pos t.earned) extra → (Reaches (level_times l.value) extra level time → ⊥) → covers_by w l t level time → ⊥
  reaches_not extra margin none covers =
      let by = (covers_by_margin w extra (label_of l) (state_at t level time).state margin).0 covers.1 in
      none by.reaches

  -- nor where no margin is small enough
  pub pays_not : ((other : ℕ) → pos t.earned ≤ℤ (pos l.earned +ℤ pos (other * w)) → 2 ^ 64 ≤ other) → time < 2 ^ 64 → covers_by w l t level time → ⊥
  pays_not none small covers =
      let own = slice_index (level_times l.value).times (covers.1.0 - (level_times l.value).first) in
      let good = covers.1.2 in
      let past = none (time - own) (earlier w own time (pos l.earned) (pos t.earned) good.time good.cost) in
      omega (arith, past, small)

-- the states of the value up to a level are covered by a label that reaches so far
pub reach_covers : (w : ℕ) (l : NearLabel) (t : Target) (value : List (ℕ × ℕ)) (extra level to : ℕ) → l.node ≡ t.node → l.count ≤ t.count → IsWithin l.memory t.memory
    → IsMargin w (pos l.earned) (pos t.earned) extra → IsReach (level_times l.value) (level_times value) extra level to → IsCoveredTo (covers_by w l t) (level_times value) level to
reach_covers w l t value extra level to node fewer within margin reach = record {
  up = reach.up;
  ends = reach.ends;
  covered = λ y low high. margin_covers w l t y (time_at (level_times value) y) extra node fewer within margin (reach.reached y low high);
}

-- what one of the labels covers is covered
pub covered_by_one : (a : Asking) (l : NearLabel) (value : List (ℕ × ℕ)) (level to : ℕ) → Contains a.labels l → IsCoveredTo (covers_by a.weight l a.target) (level_times value) level to → IsCoveredTo (covers a) (level_times value) level to
covered_by_one a l value level to inside one = record {
  up = one.up;
  ends = one.ends;
  covered = λ y low high. (l, inside, one.covered y low high);
}

-- the label of an entry doesn't cover the state
abbrev pub Misses : ℕ → List NearLabel → NearState → Entry (Unit {0}) → Type 0
Misses w labels b e = (d : NearLabel) → CoversNear w (slice_index_or labels e.number d) b → ⊥

-- the entries from a place on are left to be looked at: none of the labels of the others covers the state
abbrev pub IsLeft : ℕ → List NearLabel → NearState → List (Entry (Unit {0})) → ℕ → ℕ → Type 0
IsLeft w labels b = IsLeftBy (Misses w labels b)

module _ (w : ℕ) (labels : List NearLabel) (b : NearState) where
  other_node : (e : Entry (Unit {0})) → IsEntry labels e → e.key ≢ b.state.node → Misses w labels b e
  other_node e is apart d covers =
      let node : (slice_index_or labels e.number d).node ≡ b.state.node = covers.1.2.node in
      apart ((is.told d).key ∙ node)

  -- the label of an entry whose time is later than the state's covers nothing so early
  too_late : (e : Entry (Unit {0})) → IsEntry labels e → b.state.time < e.time → Misses w labels b e
  too_late e is late d covers =
      let first = (is.told d).earliest covers.1.0 covers.1.1 in
      let good = covers.1.2.time in
      omega (arith, first, good, late)

  module _ (entries : List (Entry (Unit {0}))) (are : AreEntries labels entries) where
    pub left_first : (begin : ℕ) → begin ≤ length entries → ((i : ℕ) (d : Entry (Unit {0})) → i < begin → (slice_index_or entries i d).key < b.state.node) → IsLeft w labels b entries begin begin
    left_first = left_first_by node_of points_of keeps_nothing labels (Misses w labels b) b.state.node b.state.time other_node too_late entries are

    pub misses_of : (at : ℕ) (e : Entry (Unit {0})) (l : NearLabel) → at < length entries → l ≡ slice_index_or labels (slice_index_or entries at e).number l → (CoversNear w l b → ⊥) → Misses w labels b (slice_index_or entries at e)
    misses_of at e l less is none d covers =
        let n = (slice_index_or entries at e).number in
        let same : slice_index_or labels n d ≡ l = get_or_default labels n d l (are.each at e less).known ∙ sym is in
        none (subst (λ (m : NearLabel). CoversNear w m b) same covers)

    pub left_next : (begin at : ℕ) (e : Entry (Unit {0})) → at < length entries → Misses w labels b (slice_index_or entries at e) → IsLeft w labels b entries begin at → IsLeft w labels b entries begin (at + 1)
    left_next = left_next_by node_of points_of keeps_nothing labels (Misses w labels b) b.state.node b.state.time other_node too_late entries are

    pub left_nothing : (begin at : ℕ) → ((i : ℕ) (d : Entry (Unit {0})) → begin ≤ i → i < length entries → b.state.node ≤ (slice_index_or entries i d).key) → TellsTime entries at b.state.node b.state.time false → IsLeft w labels b entries begin at → IsNearCovered w labels b → ⊥
    left_nothing begin at behind ends left covered =
        let has = are.every covered.1.0 covered.1.1 in
        let its : slice_index_or labels has.0.number covered.0 ≡ covered.0 = ap (λ k. slice_index_or labels k covered.0) has.2 ∙ covered.1.2 in
        let covers : CoversNear w (slice_index_or labels has.0.number covered.0) b = subst (λ (m : NearLabel). CoversNear w m b) (sym its) covered.2 in
        left_nothing_by node_of points_of keeps_nothing labels (Misses w labels b) b.state.node b.state.time other_node too_late entries are begin at behind ends left has.0 has.1 covered.0 covers

-- the label of an entry is one of the labels
pub contains_of : (labels : List NearLabel) (entries : List (Entry (Unit {0}))) → AreEntries labels entries → (at : ℕ) (e : Entry (Unit {0})) (l : NearLabel) → at < length entries → l ≡ slice_index_or labels (slice_index_or entries at e).number l → Contains labels l
contains_of labels entries are at e l less is = ((slice_index_or entries at e).number, (are.each at e less).known, sym is)
