-- The layers of a table of bounds, and its rate.
use Rattle.std.proofs.Common.{◌≡◌, ◌∙◌, ℕ, ◌+◌, ◌-◌, ◌*◌, ◌<◌, ◌≤◌, Bool, true, false, inl, inr, List, length, set, get_or, ap, arith, refl, subst, sym}
use Rattle.std.specs.Prelude.{if◌then◌else◌, slice_index}
use Rattle.std.proofs.lemmas.Bool.{cases_eq}
use Rattle.std.proofs.lemmas.List.{get_or-set_other, get_or-set_same}
use Rattle.std.proofs.Math.Nat.{mul-le-mul_right}
use Rattle.ev_model.specs.Network.{Network, node_count}
use Rattle.frvcp_labels.specs.Rest.{AreLayers, IsBelowSteps, IsDirect, IsRate, IsRateAt, IsSteady, step_cost}
use Rattle.route_steps.specs.Stations.{stations}
use Rattle.route_steps.proofs.StationList.{station-known, station-number}

-- a number that is below the cost of going on over each station
pub below_steps : (g : Network) (rate : ℕ) (least : List ℕ) (base from most : ℕ) (nodes : List ℕ) → nodes ≡ stations g
    → ((n : ℕ) → n < length nodes → most ≤ step_cost g rate from (get_or nodes n 0) + slice_index least (base + get_or nodes n 0)) → IsBelowSteps g rate least base from most
below_steps g rate least base from most nodes are each to known curve =
    let found = station-number g to known curve in
    let inside : found.0 < length nodes = subst (λ xs. found.0 < length xs) (sym are) found.1 in
    let same : get_or nodes found.0 0 ≡ to = ap (λ xs. get_or xs found.0 0) are ∙ found.2 in
    subst (λ x. most ≤ step_cost g rate from x + slice_index least (base + x)) same (each found.0 inside)

module _ (g : Network) (rate : ℕ) where
  -- a write of what is below the cost of going on to the next node
  pub direct_set : (xs : List ℕ) (base next after n x : ℕ) → base + node_count g ≤ length xs → n < node_count g → x ≤ step_cost g rate n next + after → IsDirect g rate xs base next after → IsDirect g rate (set xs (base + n) x) base next after
  direct_set xs base next after n x inside known less is node at = elim (cases_eq node n) [
    | inl same ↦
        let here : slice_index (set xs (base + n) x) (base + n) ≡ x = get_or-set_same xs (base + n) x 0 (omega arith) in
        subst (λ m. slice_index (set xs (base + n) x) (base + m) ≤ step_cost g rate m next + after) (sym same) (subst (λ y. y ≤ step_cost g rate n next + after) (sym here) less)
    | inr other ↦
        let there : slice_index (set xs (base + n) x) (base + node) ≡ slice_index xs (base + node) = get_or-set_other xs (base + n) (base + node) x 0 (λ e. other (omega arith)) in
        subst (λ y. y ≤ step_cost g rate node next + after) (sym there) (is node at)
  ]

-- layers stay as they are when those before them are filled
module _ (g : Network) (route : List ℕ) (rate : ℕ) (old now : List ℕ) (from : ℕ) (stays : (i : ℕ) → (from + 1) * node_count g ≤ i → slice_index now i ≡ slice_index old i) where
  layer_after : (passed : ℕ) → from + 1 ≤ passed → (from + 1) * node_count g ≤ passed * node_count g
  layer_after passed later = mul-le-mul_right (node_count g) later

  steady_stays : (passed : ℕ) → from + 1 ≤ passed → IsSteady g rate old (passed * node_count g) → IsSteady g rate now (passed * node_count g)
  steady_stays passed later is node known to at curve =
      let least = layer_after passed later in
      let here = stays (passed * node_count g + node) (omega arith) in
      let there = stays (passed * node_count g + to) (omega arith) in
      let before = is node known to at curve in
      omega (arith, here, there, before)

  direct_stays : (passed next : ℕ) → from + 1 ≤ passed → IsDirect g rate old (passed * node_count g) next (slice_index old ((passed + 1) * node_count g + next)) → IsDirect g rate now (passed * node_count g) next (slice_index now ((passed + 1) * node_count g + next))
  direct_stays passed next later is node known =
      let least = layer_after passed later in
      let here = stays (passed * node_count g + node) (omega arith) in
      let there = stays ((passed + 1) * node_count g + next) (omega arith) in
      let before = is node known in
      omega (arith, here, there, before)

  pub layers_more : from < length route - 1 → AreLayers g route rate old (from + 1) → IsSteady g rate now (from * node_count g)
      → IsDirect g rate now (from * node_count g) (slice_index route (from + 1)) (slice_index now (from * node_count g + node_count g + slice_index route (from + 1))) → AreLayers g route rate now from
  layers_more before is steady direct =
      let next : from * node_count g + node_count g ≡ (from + 1) * node_count g = omega arith in
      record {
        steady = λ passed later inside. elim (cases_eq passed from) [
          | inl same ↦ subst (λ p. IsSteady g rate now (p * node_count g)) (sym same) steady
          | inr other ↦ steady_stays passed (omega arith) (is.steady passed (omega arith) inside)
        ];
        direct = λ passed later inside. elim (cases_eq passed from) [
          | inl same ↦
              subst (λ p. IsDirect g rate now (p * node_count g) (slice_index route (p + 1)) (slice_index now ((p + 1) * node_count g + slice_index route (p + 1)))) (sym same)
              (subst (λ b. IsDirect g rate now (from * node_count g) (slice_index route (from + 1)) (slice_index now (b + slice_index route (from + 1)))) next direct)
          | inr other ↦ direct_stays passed (slice_index route (passed + 1)) (omega arith) (is.direct passed (omega arith) inside)
        ];
        home = λ node known.
            let last : (from + 1) * node_count g ≤ (length route - 1) * node_count g = layer_after (length route - 1) (omega arith) in
            let here = stays ((length route - 1) * node_count g + node) (omega arith) in
            let before = is.home node known in
            omega (arith, here, before);
      }

-- the numbers of stations
pub nodes_known : (g : Network) (nodes : List ℕ) → nodes ≡ stations g → (n : ℕ) → n < length nodes → get_or nodes n 0 < node_count g
nodes_known g nodes are n inside = subst (λ xs. get_or xs n 0 < node_count g) (sym are) (station-known g n (subst (λ xs. n < length xs) are inside))

-- the least of several rates
slower : (g : Network) (node rate less : ℕ) → less ≤ rate → IsRateAt g rate node → IsRateAt g less node
slower g node rate less under is a b up fits =
    let most = is a b up fits in
    let own : less * (b - a) ≤ rate * (b - a) = mul-le-mul_right (b - a) under in
    omega (arith, most, own)

pub rate_more : (g : Network) (nodes : List ℕ) (at old own now : ℕ) → now ≤ old → now ≤ own → ((n : ℕ) → n < at → IsRateAt g old (get_or nodes n 0)) → IsRateAt g own (get_or nodes at 0) → (n : ℕ) → n < at + 1 → IsRateAt g now (get_or nodes n 0)
rate_more g nodes at old own now less under before here n inside = elim (cases_eq n at) [
  | inl same ↦ subst (λ m. IsRateAt g now (get_or nodes m 0)) (sym same) (slower g (get_or nodes at 0) own now under here)
  | inr other ↦ slower g (get_or nodes n 0) old now less (before n (omega arith))
]

pub rate_all : (g : Network) (rate : ℕ) (nodes : List ℕ) → nodes ≡ stations g → ((n : ℕ) → n < length nodes → IsRateAt g rate (get_or nodes n 0)) → IsRate g rate
rate_all g rate nodes are each node known curve =
    let found = station-number g node known curve in
    let inside : found.0 < length nodes = subst (λ xs. found.0 < length xs) (sym are) found.1 in
    let same : get_or nodes found.0 0 ≡ node = ap (λ xs. get_or xs found.0 0) are ∙ found.2 in
    subst (λ x. IsRateAt g rate x) same (each found.0 inside)

-- a pass that lowers an entry lowers the sum, and the last one ends the loop
pub pass_falls : (before after : ℕ) (lower was : Bool) → was ≡ true → (lower ≡ true → after < before) → (lower ≡ false → after ≡ before) → after + (if lower then 1 else 0) < before + (if was then 1 else 0)
pass_falls before after true was is less same = let fall = less refl in rw is (omega (arith, fall))
pass_falls before after false was is less same = let stay = same refl in rw is (omega (arith, stay))

-- one layer more, whose entries begin at a product
pub filled : (g : Network) (route : List ℕ) (rate : ℕ) (old now : List ℕ) (nodes passed : ℕ) → nodes ≡ node_count g → passed < length route - 1 → AreLayers g route rate old (passed + 1)
    → ((i : ℕ) → passed * nodes + node_count g ≤ i → slice_index now i ≡ slice_index old i) → IsSteady g rate now (passed * nodes)
    → IsDirect g rate now (passed * nodes) (slice_index route (passed + 1)) (slice_index now (passed * nodes + node_count g + slice_index route (passed + 1))) → AreLayers g route rate now passed
filled g route rate old now nodes passed is before layers stays steady direct =
    let base : passed * nodes ≡ passed * node_count g = ap (λ n. passed * n) is in
    layers_more g route rate old now passed (λ i h. stays i (omega (arith, base, h))) before layers (subst (λ b. IsSteady g rate now b) base steady)
    (subst (λ b. IsDirect g rate now b (slice_index route (passed + 1)) (slice_index now (b + node_count g + slice_index route (passed + 1)))) base direct)
