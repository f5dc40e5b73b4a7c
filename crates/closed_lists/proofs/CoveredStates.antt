-- What a label covers, and what the labels of a section cover together.
use Rattle.std.proofs.Common.{◌≡◌, ◌≢◌, ◌∙◌, ℕ, ◌+◌, ◌-◌, ◌*◌, ◌/◌, ◌<◌, ◌≤◌, ◌^◌, List, [], ◌∷◌, length, sym, ap, subst, arith, true, unsigned_abs, pos, ◌+ℤ◌, ◌-ℤ◌, ◌<ℤ◌, ◌≤ℤ◌, false}
use Rattle.std.specs.List.{All, Contains}
use Rattle.std.specs.Prelude.{slice_index, slice_index_or}
use Rattle.std.proofs.lemmas.Int.{ints}
use Rattle.std.proofs.lemmas.List.{get_or-map, length-map}
use Rattle.std.proofs.Math.Nat.{mul-add-div_right, mul_comm, mul-le-mul_left, div-eq_of_lt}
use Rattle.customer_sets.specs.CustSet.{IsWithin}
use Rattle.dominance.specs.Coverage.{Reaches}
use Rattle.dominance.specs.LevelTimes.{time_at}
use Rattle.ev_model.specs.Network.{node_count}
use Rattle.fleet_model.specs.Coverage.{IsCovered}
use Rattle.fleet_model.specs.Labels.{Label as PaidLabel, State}
use Rattle.fleet_model.specs.Margins.{Covers, CoversBy, IsMargin}
use Rattle.fleet_model.specs.Prices.{price_sum}
use Rattle.fleet_model.proofs.Margins.{covers_by_margin, earlier}
use Rattle.piece_fn.specs.PieceFn.{IsReach, level_times}
use Rattle.piece_fn.specs.declared.label.Label.{Label}
use Rattle.closed_lists.specs.Links.{AreEntries, IsEntry, IsEntryOf, IsKept, label_key, points_of}
use Rattle.closed_lists.specs.Looking.{Misses}
use Rattle.closed_lists.specs.declared.links.Kept.{Kept}
use Rattle.label_index.specs.Entries.{TellsTime}
use Rattle.label_index.specs.declared.entry.Entry.{Entry}
use Rattle.label_index.proofs.Looks.{IsLeft as IsLeftBy, left_first as left_first_by, left_next as left_next_by, left_nothing as left_nothing_by}
use Rattle.closed_lists.specs.Questions.{Question, section}
use Rattle.closed_lists.specs.Sections.{IsLabelOf, paid_label}
use Rattle.label_steps.specs.Covering.{IsCoveredTo}
use Rattle.closed_lists.specs.Asking.{covers}
use Rattle.closed_lists.specs.Targets.{state_of}
use Rattle.closed_lists.specs.declared.coverage.Target.{Target}

-- one of some labels
some_of : (labels : List Label) (n : ℕ) → n < length labels → Label
some_of [] n less = absurd (omega (arith, less))
some_of (l ∷ ls) n less = l

-- the labels of a section by number
pub in_section : (q : Question) (number : ℕ) (d : Label) → number < length q.labels → Contains (section q).labels (paid_label q.prices (slice_index_or q.labels number d))
in_section q number d less = (number, omega (arith, less, length-map q.labels (paid_label q.prices)), get_or-map (paid_label q.prices) q.labels number d (paid_label q.prices (slice_index_or q.labels number d)) less)

pub from_section : (q : Question) (l : PaidLabel) → Contains (section q).labels l → (number : ℕ) × (number < length q.labels) × ((d : Label) → paid_label q.prices (slice_index_or q.labels number d) ≡ l)
from_section q l inside =
    let less : inside.0 < length q.labels = omega (arith, inside.1, length-map q.labels (paid_label q.prices)) in
    (inside.0, less, λ d. sym (get_or-map (paid_label q.prices) q.labels inside.0 d l less) ∙ inside.2)

module _ (q : Question) (t : Target) (value : List (ℕ × ℕ)) (l : Label) (level : ℕ) where
  by_reach : (extra : ℕ) → l.last ≡ t.last → l.node ≡ t.node → IsWithin l.set t.set → Reaches (level_times l.value) extra level (time_at (level_times value) level) → CoversBy extra (paid_label q.prices l) (state_of t value level)
  by_reach extra last node within reach = record {
    last = last;
    node = node;
    served = within;
    reaches = reach;
  }

  -- where the label does not reach the level with the margin, it does not cover the state
  pub reaches_not : (extra : ℕ) → IsMargin q.weight (price_sum q.prices l.set) t.paid extra → (Reaches (level_times l.value) extra level (time_at (level_times value) level) → ⊥) → Covers q.weight (paid_label q.prices l) (state_of t value level) → ⊥
  reaches_not extra margin none covers =
      let by = (covers_by_margin q.weight extra (paid_label q.prices l) (state_of t value level) margin).0 covers in
      none by.reaches

  -- nor where no margin is small enough
  pub pays_not : ((other : ℕ) → t.paid ≤ℤ (price_sum q.prices l.set +ℤ pos (other * q.weight)) → 2 ^ 64 ≤ other) → time_at (level_times value) level < 2 ^ 64 → Covers q.weight (paid_label q.prices l) (state_of t value level) → ⊥
  pays_not none small covers =
      let own = slice_index (level_times l.value).times (covers.0 - (level_times l.value).first) in
      let time = time_at (level_times value) level in
      let good = covers.2 in
      let past = none (time - own) (earlier q.weight own time (price_sum q.prices l.set) t.paid good.time good.cost) in
      omega (arith, past, small)

-- the states of the value up to a level are covered by a label that reaches so far
pub reach_covers : (q : Question) (t : Target) (value : List (ℕ × ℕ)) (l : Label) (extra level to : ℕ) → Contains (section q).labels (paid_label q.prices l) → l.last ≡ t.last → l.node ≡ t.node → IsWithin l.set t.set
    → IsMargin q.weight (price_sum q.prices l.set) t.paid extra → IsReach (level_times l.value) (level_times value) extra level to → IsCoveredTo (covers (record { question = q; target = t })) (level_times value) level to
reach_covers q t value l extra level to inside last node within margin reach = record {
  up = reach.up;
  ends = reach.ends;
  covered = λ y low high. (
    paid_label q.prices l,
    inside,
    (covers_by_margin q.weight extra (paid_label q.prices l) (state_of t value y) margin).1 (by_reach q t value l y extra last node within (reach.reached y low high)),
  );
}

-- a key tells both nodes
pub key_tells : (nodes a b x y : ℕ) → b < nodes → y < nodes → a * nodes + b ≡ x * nodes + y → (a ≡ x) × (b ≡ y)
key_tells nodes a b x y b_in y_in same =
    let some : 0 < nodes = omega (arith, b_in) in
    let left : (a * nodes + b) / nodes ≡ a = mul-add-div_right some a b ∙ ap (λ r. a + r) (div-eq_of_lt b_in) ∙ omega arith in
    let right : (x * nodes + y) / nodes ≡ x = mul-add-div_right some x y ∙ ap (λ r. x + r) (div-eq_of_lt y_in) ∙ omega arith in
    let first : a ≡ x = sym left ∙ ap (λ k. k / nodes) same ∙ right in
    (first, omega (arith, same, ap (λ k. k * nodes) first))

-- the label of an entry with the key of two nodes is at these
pub at_nodes : (q : Question) (e : Entry Kept) (last node : ℕ) → All (IsLabelOf q.network) q.labels → IsEntry (node_count q.network) q.prices q.labels e → e.key ≡ last * node_count q.network + node → node < node_count q.network
    → (d : Label) → ((slice_index_or q.labels e.number d).last ≡ last) × ((slice_index_or q.labels e.number d).node ≡ node)
at_nodes q e last node all is key inside d =
    let l = slice_index_or q.labels e.number d in
    let known = all e.number d is.known in
    key_tells (node_count q.network) l.last l.node last node known.node inside (sym (is.told d).key ∙ key)

-- what an entry tells of its label
pub entry_tells : (q : Question) (nodes : ℕ) (e : Entry Kept) (l : Label) → IsEntry nodes q.prices q.labels e → ((d : Label) → l ≡ slice_index_or q.labels e.number d) → IsEntryOf nodes q.prices l e
entry_tells q nodes e l is at = subst (λ (k : Label). IsEntryOf nodes q.prices k e) (sym (at l)) (is.told l)

-- an entry with the key of two nodes and a time that is no later than one: its label is at these
pub record IsCandidate (q : Question) (last node : ℕ) (e : Entry Kept) : Type 0 where
  pub known : IsEntry (node_count q.network) q.prices q.labels e
  pub at : (d : Label) → ((slice_index_or q.labels e.number d).last ≡ last) × ((slice_index_or q.labels e.number d).node ≡ node)
  pub small : unsigned_abs e.rest.paid ≤ 2 ^ 91

pub candidate : (q : Question) (last node key place time : ℕ) (entries : List (Entry Kept)) (e : Entry Kept) → All (IsLabelOf q.network) q.labels → AreEntries (node_count q.network) q.prices q.labels entries → key ≡ last * node_count q.network + node → node < node_count q.network
    → TellsTime entries place key time true → e ≡ slice_index_or entries place e → IsCandidate q last node e
candidate q last node key place time entries e all are is inside tells here =
    let known : IsEntry (node_count q.network) q.prices q.labels e = subst (λ (f : Entry Kept). IsEntry (node_count q.network) q.prices q.labels f) (sym here) (are.each place e tells.0) in
    let its : e.key ≡ key = ap (λ (f : Entry Kept). f.key) here ∙ (tells.1 e).0 in
    record {
      known = known;
      at = at_nodes q e last node all known (its ∙ is) inside;
      small = (known.told (some_of q.labels e.number known.known)).rest.small;
    }

-- the label of an entry with another key is not at the state's nodes
other_key : (q : Question) (nodes : ℕ) (b : State) (e : Entry Kept) → IsEntry nodes q.prices q.labels e → e.key ≢ b.last * nodes + b.node → Misses q b e
other_key q nodes b e is apart d covers =
    let l = slice_index_or q.labels e.number d in
    let last : l.last ≡ b.last = covers.2.last in
    let node : l.node ≡ b.node = covers.2.node in
    let same : l.last * nodes + l.node ≡ b.last * nodes + b.node = ap (λ k. k * nodes + l.node) last ∙ ap (λ k. b.last * nodes + k) node in
    apart ((is.told d).key ∙ same)

-- the label of an entry whose time is later than the state's covers nothing so early
too_late : (q : Question) (nodes : ℕ) (b : State) (e : Entry Kept) → IsEntry nodes q.prices q.labels e → b.time < e.time → Misses q b e
too_late q nodes b e is late d covers =
    let first = (is.told d).earliest covers.0 covers.1 in
    let good = covers.2.time in
    omega (arith, first, good, late)

-- a label that would have to be earlier than its first time to make up for what it has paid less
pub too_dear : (q : Question) (nodes : ℕ) (b : State) (e : Entry Kept) → IsEntry nodes q.prices q.labels e → pos (q.weight * (b.time - e.time)) <ℤ (b.paid -ℤ e.rest.paid) → Misses q b e
too_dear q nodes b e is dear d covers =
    let l = slice_index_or q.labels e.number d in
    let own = slice_index (level_times l.value).times (covers.0 - (level_times l.value).first) in
    let good = covers.2 in
    let first : e.time ≤ own = (is.told d).earliest covers.0 covers.1 in
    let paid : e.rest.paid ≡ price_sum q.prices l.set = (is.told d).rest.paid in
    let enough : b.paid ≤ℤ (price_sum q.prices l.set +ℤ pos ((b.time - own) * q.weight)) = earlier q.weight own b.time (price_sum q.prices l.set) b.paid good.time good.cost in
    let fewer : b.time - own ≤ b.time - e.time = omega (arith, first) in
    let scaled : q.weight * (b.time - own) ≤ q.weight * (b.time - e.time) = mul-le-mul_left q.weight fewer in
    let turned : (b.time - own) * q.weight ≡ q.weight * (b.time - own) = mul_comm (b.time - own) q.weight in
    omega (arith, ints, dear, enough, paid, scaled, turned)

-- the entries from a place on are left to be looked at: none of the labels of the others covers the state
abbrev pub IsLeft : Question → State → List (Entry Kept) → ℕ → ℕ → Type 0
IsLeft q b = IsLeftBy (Misses q b)

module _ (q : Question) (nodes : ℕ) (b : State) (entries : List (Entry Kept)) (are : AreEntries nodes q.prices q.labels entries) (key : ℕ) (is : key ≡ b.last * nodes + b.node) where
  not_there : (e : Entry Kept) → IsEntry nodes q.prices q.labels e → e.key ≢ key → Misses q b e
  not_there e known apart = other_key q nodes b e known (λ same. apart (same ∙ sym is))

  pub left_first : (begin : ℕ) → begin ≤ length entries → ((i : ℕ) (d : Entry Kept) → i < begin → (slice_index_or entries i d).key < key) → IsLeft q b entries begin begin
  left_first = left_first_by (label_key nodes) points_of (IsKept q.prices) q.labels (Misses q b) key b.time not_there (too_late q nodes b) entries are

  pub left_next : (begin at : ℕ) (e : Entry Kept) → at < length entries → e ≡ slice_index_or entries at e → Misses q b e → IsLeft q b entries begin at → IsLeft q b entries begin (at + 1)
  left_next begin at e less here misses left =
      left_next_by (label_key nodes) points_of (IsKept q.prices) q.labels (Misses q b) key b.time not_there (too_late q nodes b) entries are begin at e less (subst (λ (f : Entry Kept). Misses q b f) here misses) left

  pub left_nothing : (begin at : ℕ) → ((i : ℕ) (d : Entry Kept) → begin ≤ i → i < length entries → key ≤ (slice_index_or entries i d).key) → TellsTime entries at key b.time false → IsLeft q b entries begin at → IsCovered (section q) b → ⊥
  left_nothing begin at behind ends left covered =
      let l = covered.0 in
      let number = from_section q l covered.1 in
      let d = some_of q.labels number.0 number.1 in
      let has = are.every number.0 number.1 in
      let covers : Covers q.weight (paid_label q.prices (slice_index_or q.labels has.0.number d)) b =
      subst (λ k. Covers q.weight (paid_label q.prices (slice_index_or q.labels k d)) b) (sym has.2) (subst (λ (m : PaidLabel). Covers q.weight m b) (sym (number.2 d)) covered.2) in
      left_nothing_by (label_key nodes) points_of (IsKept q.prices) q.labels (Misses q b) key b.time not_there (too_late q nodes b) entries are begin at behind ends left has.0 has.1 d covers
