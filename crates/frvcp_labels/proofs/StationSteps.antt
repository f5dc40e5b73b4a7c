-- The loop over the stations that a step from a label may lead to.
use Rattle.std.proofs.Common.{◌≡◌, ℕ, ◌+◌, ◌*◌, ◌^◌, ◌<◌, ◌≤◌, inl, inr, List, length, Result, Ok, Err, sym, ◌∙◌, ap, subst, arith, Option, Some}
use Rattle.std.specs.Prelude.{IfOk, slice_get, slice_index}
use Rattle.std.proofs.lemmas.Option.{same_Some, slice_get_within}
use Rattle.std.proofs.lemmas.Bool.{cases_eq}
use Rattle.std.proofs.Math.Nat.{mul-le-mul_left}
use Rattle.ev_model.specs.Network.{node_count}
use Rattle.label_pool.specs.Labels.{Labels}
use Rattle.label_pool.specs.declared.label.Label.{Label}
use Rattle.label_pool.proofs.Elements.{element_at}
use Rattle.frvcp_labels.specs.Search.{IsGrown, IsSoundPool, Spreads, SpreadsInTimeTo, SpreadsTo, SpreadsToStations}
use Rattle.route_steps.specs.Steps.{MayGo}
use Rattle.route_steps.specs.Stations.{stations}
use Rattle.route_steps.specs.Trips.{IsTrip, Journey}
use Rattle.route_steps.specs.declared.state.State.{State}
use Rattle.frvcp_labels.proofs.SearchTurns.{in_time_stays, next_node, next_station, spreads_all, spreads_stays}

pub IfOk-both : {X E : Type 0} (r : Result X E) (P Q : X → Type 0) → IfOk r P → IfOk r Q → IfOk r (λ x. P x × Q x)
IfOk-both (Ok x) P Q p q = (p, q)
IfOk-both (Err e) P Q p q = tt

-- a label that is spread, by what is passed
pub record IsSpreadFrom (t : Journey) (labels : List (Label State)) (i passed : ℕ) : Type 0 where
  pub label : Label State
  pub here : slice_get labels i ≡ Some label
  pub is : passed ≡ label.value.passed
  pub before : label.value.passed + 1 < length t.route

pub spread_from : (t : Journey) (labels : List (Label State)) (i : ℕ) (state : State) → i < length labels → ((label : Label State) → slice_get labels i ≡ Some label → label.value.passed + 1 < length t.route)
    → ((label : Label State) → slice_get labels i ≡ Some label → state ≡ label.value) → IsSpreadFrom t labels i state.passed
spread_from t labels i state inside before told =
    let label = element_at labels i inside in
    record { label = label.0; here = label.1; is = ap (λ (s : State). s.passed) (told label.0 label.1); before = before label.0 label.1 }

pub spread_to_stations : (t : Journey) (labels : List (Label State)) (i passed : ℕ) → i < length labels → ((label : Label State) → slice_get labels i ≡ Some label → (passed ≡ label.value.passed) × (passed + 1 < length t.route))
    → IsSpreadFrom t labels i passed
spread_to_stations t labels i passed inside before =
    let label = element_at labels i inside in
    let both = before label.0 label.1 in
    record { label = label.0; here = label.1; is = both.0; before = subst (λ p. p + 1 < length t.route) both.0 both.1 }

pub on_way : (t : Journey) (labels : List (Label State)) (i passed : ℕ) → IsSpreadFrom t labels i passed → (label : Label State) → slice_get labels i ≡ Some label → (passed ≡ label.value.passed) × (passed + 1 < length t.route)
on_way t labels i passed from label here =
    let is : passed ≡ label.value.passed = from.is ∙ ap (λ (l : Label State). l.value.passed) (same_Some from.label label (sym from.here ∙ here)) in
    (is, subst (λ p. p + 1 < length t.route) (sym from.is) from.before)

pub on_way_still : (t : Journey) (old now : List (Label State)) (i passed : ℕ) → IsGrown old now → IsSpreadFrom t old i passed → IsSpreadFrom t now i passed
on_way_still t old now i passed grown from =
    let there = grown.stays i from.label from.here in
    record { label = there.0; here = there.1; is = from.is ∙ ap (λ (s : State). s.passed) (sym there.2); before = subst (λ (s : State). s.passed + 1 < length t.route) (sym there.2) from.before }

-- a route with buckets has few nodes
pub route_small : (t : Journey) (pool : Labels State) → IsSoundPool t pool → length t.route < 2 ^ 64
route_small t pool sound =
    let some : 0 < node_count t.network = sound.trip.network.depot in
    let least : length t.route * 1 ≤ length t.route * node_count t.network = mul-le-mul_left (length t.route) (omega (arith, some)) in
    let few = sound.few in
    omega (arith, least, few)

pub still_inside : (old now : List (Label State)) (i : ℕ) → IsGrown old now → i < length old → i < length now
still_inside old now i grown inside =
    let label = element_at old i inside in
    let there = grown.stays i label.0 label.1 in
    slice_get_within now i there.0 there.1

module _ (t : Journey) (old now : List (Label State)) (i passed : ℕ) (grown : IsGrown old now) (from : IsSpreadFrom t old i passed) where
  -- the label has its value, though it may be live no longer
  same_value : (label : Label State) → slice_get now i ≡ Some label → from.label.value ≡ label.value
  same_value label here =
      let there = grown.stays i from.label from.here in
      sym there.2 ∙ ap (λ (l : Label State). l.value) (same_Some there.0 label (sym there.1 ∙ here))

  pub goes_next : IsTrip t.network t.route → (label : Label State) → slice_get now i ≡ Some label → MayGo t.network t.route label.value.passed (passed + 1) (slice_index t.route (passed + 1))
  goes_next trip label here =
      subst (λ (s : State). MayGo t.network t.route s.passed (passed + 1) (slice_index t.route (passed + 1))) (same_value label here) (next_node t passed from.label.value trip from.before from.is)

  pub goes_to_station : (n to : ℕ) → n < length (stations t.network) → to ≡ slice_index (stations t.network) n → (label : Label State) → slice_get now i ≡ Some label → MayGo t.network t.route label.value.passed passed to
  goes_to_station n to inside at label here =
      subst (λ (s : State). MayGo t.network t.route s.passed passed to) (same_value label here) (next_station t passed n to from.label.value from.before from.is inside at)

-- what was spread to stations, and one more
abbrev pub SpreadsBelow : Journey → List (Label State) → List (Label State) → Option ℕ → ℕ → ℕ → ℕ → Type 0
SpreadsBelow t first now bar i passed count =
    (label : Label State) → slice_get first i ≡ Some label → (n : ℕ) → n < count → SpreadsInTimeTo t now bar label.value passed (slice_index (stations t.network) n)

pub spreads_none : (t : Journey) (first now : List (Label State)) (bar : Option ℕ) (i passed : ℕ) → SpreadsBelow t first now bar i passed 0
spreads_none t first now bar i passed label here n less = absurd (omega (arith, less))

pub spreads_more : (t : Journey) (first before now : List (Label State)) (bar : Option ℕ) (i passed count to : ℕ) → IsGrown first before → IsGrown before now → to ≡ slice_index (stations t.network) count → SpreadsBelow t first before bar i passed count
    → ((label : Label State) → slice_get before i ≡ Some label → SpreadsInTimeTo t now bar label.value passed to) → SpreadsBelow t first now bar i passed (count + 1)
spreads_more t first before now bar i passed count to grown more at below own label here n less = elim (cases_eq n count) [
  | inl this ↦
      let there = grown.stays i label here in
      let goal : to ≡ slice_index (stations t.network) n = at ∙ ap (λ m. slice_index (stations t.network) m) (sym this) in
      subst (λ (s : State). SpreadsInTimeTo t now bar s passed (slice_index (stations t.network) n)) there.2 (subst (λ x. SpreadsInTimeTo t now bar there.0.value passed x) goal (own there.0 there.1))
  | inr other ↦ in_time_stays t before now bar label.value passed (slice_index (stations t.network) n) more (below label here n (omega (arith, less, other)))
]

-- at the end of the loop: each station
pub spreads_each : (t : Journey) (first now : List (Label State)) (bar : Option ℕ) (i passed count : ℕ) → IsSpreadFrom t first i passed → SpreadsBelow t first now bar i passed count → count ≡ length (stations t.network)
    → (label : Label State) → slice_get first i ≡ Some label → SpreadsToStations t now bar label.value
spreads_each t first now bar i passed count from below all label here n inside =
    let is : passed ≡ label.value.passed = from.is ∙ ap (λ (l : Label State). l.value.passed) (same_Some from.label label (sym from.here ∙ here)) in
    subst (λ p. SpreadsInTimeTo t now bar label.value p (slice_index (stations t.network) n)) is (below label here n (omega (arith, inside, all)))

-- and the next node before them
pub spreads_whole : (t : Journey) (first between now : List (Label State)) (bar : Option ℕ) (i passed : ℕ) → IsSpreadFrom t first i passed → IsGrown first between → IsGrown between now
    → ((label : Label State) → slice_get first i ≡ Some label → SpreadsTo t between label.value (passed + 1) (slice_index t.route (passed + 1)))
    → ((label : Label State) → slice_get between i ≡ Some label → SpreadsToStations t now bar label.value) → (label : Label State) → slice_get first i ≡ Some label → Spreads t now bar label.value
spreads_whole t first between now bar i passed from grown more next each label here =
    let is : passed ≡ label.value.passed = from.is ∙ ap (λ (l : Label State). l.value.passed) (same_Some from.label label (sym from.here ∙ here)) in
    let there = grown.stays i label here in
    spreads_all t now bar label.value
    (subst (λ p. SpreadsTo t now label.value (p + 1) (slice_index t.route (p + 1))) is (spreads_stays t between now label.value (passed + 1) (slice_index t.route (passed + 1)) more (next label here)))
    (subst (λ (s : State). SpreadsToStations t now bar s) there.2 (each there.0 there.1))
