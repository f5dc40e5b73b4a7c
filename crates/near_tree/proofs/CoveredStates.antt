-- What a label covers, and what labels cover together that are found by their entries.
use Rattle.std.proofs.Common.{◌≡◌, ◌≢◌, ◌∙◌, ℕ, ◌+◌, ◌-◌, ◌*◌, ◌<◌, ◌≤◌, ◌^◌, List, [], length, map, refl, sym, ap, subst, arith, false, pos, ◌+ℤ◌, ◌≤ℤ◌}
use Rattle.std.specs.List.{Contains}
use Rattle.std.specs.Prelude.{slice_index, slice_index_or}
use Rattle.std.proofs.lemmas.List.{get_or_default, get_or-map, length-map}
use Rattle.certificate_parts.specs.Ranges.{customer_count}
use Rattle.customer_sets.specs.CustSet.{IsWithin}
use Rattle.dominance.specs.Coverage.{Reaches}
use Rattle.dominance.specs.LevelTimes.{time_at}
use Rattle.ev_model.specs.Network.{Network}
use Rattle.fleet_model.specs.Margins.{CoversBy, IsMargin}
use Rattle.fleet_model.proofs.Margins.{covers_by_margin, earlier}
use Rattle.piece_fn.specs.PieceFn.{IsReach, level_times}
use Rattle.label_steps.specs.Covering.{IsCoveredTo}
use Rattle.near_tree.specs.Covered.{CoversAtLeaf}
use Rattle.near_tree.specs.Follows.{StandsFor}
use Rattle.near_tree.specs.Lasts.{last_at}
use Rattle.near_tree.specs.Links.{AreEntries, IsEntry, keeps_nothing, label_node, points_of}
use Rattle.near_tree.specs.Preorder.{last_of, leaf_label}
use Rattle.near_tree.specs.Rules.{Leaf}
use Rattle.near_tree.specs.Sections.{LeafLabel, LeafState}
use Rattle.near_tree.specs.Targets.{covers_at, covers_by, IsStateCovered, state_at}
use Rattle.near_tree.specs.declared.coverage.Target.{Target}
use Rattle.near_tree.specs.declared.proof.LastServed.TheVariants.{Nobody}
use Rattle.near_tree.specs.declared.proof.SectionLabel.{SectionLabel}
use Rattle.label_index.specs.Entries.{TellsTime}
use Rattle.label_index.specs.declared.entry.Entry.{Entry}
use Rattle.label_index.proofs.Looks.{IsLeft as IsLeftBy, left_first as left_first_by, left_next as left_next_by, left_nothing as left_nothing_by}

module _ (g : Network) (f : Leaf) (l : SectionLabel) (t : Target) (level time : ℕ) where
  by_reach : (extra : ℕ) → l.node ≡ t.node → IsWithin l.memory t.memory → Reaches (level_times l.value) extra level time → CoversBy extra (leaf_label l).label (state_at (customer_count g) t level time).state
  by_reach extra node within reach = record {
    last = refl;
    node = node;
    served = within;
    reaches = reach;
  }

  pub margin_covers : (extra : ℕ) → l.node ≡ t.node → StandsFor g f.branch f.section (last_of l.last) (last_at (customer_count g) t.last) → IsWithin l.memory t.memory → IsMargin f.section.weight l.earned t.earned extra → Reaches (level_times l.value) extra level time → covers_by g f l t level time
  margin_covers extra node stands within margin reach = record {
    last = stands;
    state = (covers_by_margin f.section.weight extra (leaf_label l).label (state_at (customer_count g) t level time).state margin).1 (by_reach extra node within reach);
  }

  -- where the label does not reach the level with the margin, it does not cover the state
  pub reaches_not : (extra : ℕ) → IsMargin f.section.weight l.earned t.earned extra → (Reaches (level_times l.value) extra level time → ⊥) → covers_by g f l t level time → ⊥
  reaches_not extra margin none covered =
      let by = (covers_by_margin f.section.weight extra (leaf_label l).label (state_at (customer_count g) t level time).state margin).0 covered.state in
      none by.reaches

  -- nor where no margin is small enough
  pub pays_not : ((other : ℕ) → t.earned ≤ℤ (l.earned +ℤ pos (other * f.section.weight)) → 2 ^ 64 ≤ other) → time < 2 ^ 64 → covers_by g f l t level time → ⊥
  pays_not none small covered =
      let own = slice_index (level_times l.value).times (covered.state.0 - (level_times l.value).first) in
      let good = covered.state.2 in
      let past = none (time - own) (earlier f.section.weight own time l.earned t.earned good.time good.cost) in
      omega (arith, past, small)

-- the states of the value up to a level are covered by a label that reaches so far
pub reach_covers : (g : Network) (f : Leaf) (l : SectionLabel) (t : Target) (value : List (ℕ × ℕ)) (extra level to : ℕ) → l.node ≡ t.node → StandsFor g f.branch f.section (last_of l.last) (last_at (customer_count g) t.last) → IsWithin l.memory t.memory
    → IsMargin f.section.weight l.earned t.earned extra → IsReach (level_times l.value) (level_times value) extra level to → IsCoveredTo (covers_by g f l t) (level_times value) level to
reach_covers g f l t value extra level to node stands within margin reach = record {
  up = reach.up;
  ends = reach.ends;
  covered = λ y low high. margin_covers g f l t y (time_at (level_times value) y) extra node stands within margin (reach.reached y low high);
}

-- a label of the section is one of the leaf
pub contains_as : (labels : List SectionLabel) (l : SectionLabel) → Contains labels l → Contains (map leaf_label labels) (leaf_label l)
contains_as labels l there =
    let less : there.0 < length (map leaf_label labels) = (let same = length-map labels leaf_label in omega (arith, there.1, same)) in
    (there.0, less, get_or-map leaf_label labels there.0 l (leaf_label l) there.1 ∙ ap leaf_label there.2)

-- what one of the labels covers is covered
pub covered_by_one : (g : Network) (f : Leaf) (labels : List SectionLabel) (t : Target) (l : SectionLabel) (value : List (ℕ × ℕ)) (level to : ℕ) → f.section.labels ≡ map leaf_label labels → Contains labels l → IsCoveredTo (covers_by g f l t) (level_times value) level to → IsCoveredTo (covers_at g f t) (level_times value) level to
covered_by_one g f labels t l value level to are inside one =
    let there : Contains f.section.labels (leaf_label l) = subst (λ (ls : List LeafLabel). Contains ls (leaf_label l)) (sym are) (contains_as labels l inside) in
    record {
      up = one.up;
      ends = one.ends;
      covered = λ y low high. (leaf_label l, there, one.covered y low high);
    }

-- the label of an entry doesn't cover the state
abbrev pub Misses : Network → Leaf → List SectionLabel → LeafState → Entry (Unit {0}) → Type 0
Misses g f labels a e = (d : SectionLabel) → CoversAtLeaf g f.branch f.section (leaf_label (slice_index_or labels e.number d)) a → ⊥

-- the entries from a place on are left to be looked at: none of the labels of the others covers the state
abbrev pub IsLeft : Network → Leaf → List SectionLabel → LeafState → List (Entry (Unit {0})) → ℕ → ℕ → Type 0
IsLeft g f labels a = IsLeftBy (Misses g f labels a)

some_label : SectionLabel
some_label = record { node = 0; last = Nobody; memory = []; earned = pos 0; value = [] }

module _ (g : Network) (f : Leaf) (labels : List SectionLabel) (a : LeafState) where
  other_node : (e : Entry (Unit {0})) → IsEntry labels e → e.key ≢ a.state.node → Misses g f labels a e
  other_node e is apart d covered =
      let node : (slice_index_or labels e.number d).node ≡ a.state.node = covered.state.2.node in
      apart ((is.told d).key ∙ node)

  -- the label of an entry whose time is later than the state's covers nothing so early
  too_late : (e : Entry (Unit {0})) → IsEntry labels e → a.state.time < e.time → Misses g f labels a e
  too_late e is late d covered =
      let first = (is.told d).earliest covered.state.0 covered.state.1 in
      let good = covered.state.2.time in
      omega (arith, first, good, late)

  module _ (entries : List (Entry (Unit {0}))) (are : AreEntries labels entries) where
    pub left_first : (begin : ℕ) → begin ≤ length entries → ((i : ℕ) (d : Entry (Unit {0})) → i < begin → (slice_index_or entries i d).key < a.state.node) → IsLeft g f labels a entries begin begin
    left_first = left_first_by label_node points_of keeps_nothing labels (Misses g f labels a) a.state.node a.state.time other_node too_late entries are

    pub misses_of : (at : ℕ) (e : Entry (Unit {0})) (l : SectionLabel) → at < length entries → l ≡ slice_index_or labels (slice_index_or entries at e).number l → (CoversAtLeaf g f.branch f.section (leaf_label l) a → ⊥) → Misses g f labels a (slice_index_or entries at e)
    misses_of at e l less is none d covered =
        let n = (slice_index_or entries at e).number in
        let same : slice_index_or labels n d ≡ l = get_or_default labels n d l (are.each at e less).known ∙ sym is in
        none (subst (λ (m : SectionLabel). CoversAtLeaf g f.branch f.section (leaf_label m) a) same covered)

    pub left_next : (begin at : ℕ) (e : Entry (Unit {0})) → at < length entries → Misses g f labels a (slice_index_or entries at e) → IsLeft g f labels a entries begin at → IsLeft g f labels a entries begin (at + 1)
    left_next = left_next_by label_node points_of keeps_nothing labels (Misses g f labels a) a.state.node a.state.time other_node too_late entries are

    pub left_nothing : (begin at : ℕ) → f.section.labels ≡ map leaf_label labels → ((i : ℕ) (d : Entry (Unit {0})) → begin ≤ i → i < length entries → a.state.node ≤ (slice_index_or entries i d).key) → TellsTime entries at a.state.node a.state.time false → IsLeft g f labels a entries begin at → IsStateCovered g f a → ⊥
    left_nothing begin at same behind ends left covered =
        let there : Contains (map leaf_label labels) covered.0 = subst (λ (ls : List LeafLabel). Contains ls covered.0) same covered.1 in
        let less : there.0 < length labels = (let count = length-map labels leaf_label in omega (arith, there.1, count)) in
        let has = are.every there.0 less in
        let own : leaf_label (slice_index_or labels there.0 some_label) ≡ covered.0 = sym (get_or-map leaf_label labels there.0 some_label covered.0 less) ∙ there.2 in
        let its : leaf_label (slice_index_or labels has.0.number some_label) ≡ covered.0 = ap (λ k. leaf_label (slice_index_or labels k some_label)) has.2 ∙ own in
        let covers : CoversAtLeaf g f.branch f.section (leaf_label (slice_index_or labels has.0.number some_label)) a = subst (λ (m : LeafLabel). CoversAtLeaf g f.branch f.section m a) (sym its) covered.2 in
        left_nothing_by label_node points_of keeps_nothing labels (Misses g f labels a) a.state.node a.state.time other_node too_late entries are begin at behind ends left has.0 has.1 some_label covers

-- the label of an entry is one of the labels
pub contains_of : (labels : List SectionLabel) (entries : List (Entry (Unit {0}))) → AreEntries labels entries → (at : ℕ) (e : Entry (Unit {0})) (l : SectionLabel) → at < length entries → l ≡ slice_index_or labels (slice_index_or entries at e).number l → Contains labels l
contains_of labels entries are at e l less is = ((slice_index_or entries at e).number, (are.each at e less).known, sym is)
