-- No rest of a way takes less than the bound says.
use Rattle.std.proofs.Common.{◌≡◌, ◌∙◌, ℕ, suc, ◌+◌, ◌-◌, ◌*◌, ◌<◌, ◌≤◌, inl, inr, List, [], ◌∷◌, length, ap, arith, subst, sym}
use Rattle.std.specs.Prelude.{slice_index}
use Rattle.std.proofs.lemmas.Bool.{cases_Bool, cases_lt}
use Rattle.std.proofs.lemmas.List.{length-drop}
use Rattle.std.proofs.Math.Nat.{mul-le-mul_left, mul-le-mul_right}
use Rattle.charge_curve.specs.Points.{ArePoints, last_level, slope, time_on}
use Rattle.dominance.proofs.Pieces.{piece_end, time_on-first, time_on-later}
use Rattle.dominance.specs.LevelTimes.{IsLevel, IsValue, time_at}
use Rattle.ev_model.specs.Levels.{arriving_level, leaving_level}
use Rattle.ev_model.specs.Network.{Network, curve_at, energy, node_count, process_time, travel_time}
use Rattle.ev_model.specs.Plan.{IsStop}
use Rattle.ev_model.specs.Time.{charging_time, plugging_time, time_from}
use Rattle.ev_model.specs.declared.Stop.{Stop}
use Rattle.piece_fn.proofs.Levels.{level_is, time_at-level_times}
use Rattle.piece_fn.specs.PieceFn.{first_level, level_times}
use Rattle.frvcp_labels.specs.Rest.{IsBelowPoints, IsRate, IsRestBound, step_cost}
use Rattle.frvcp_labels.specs.Search.{IsBelowWays}
use Rattle.route_steps.specs.Trips.{Journey}
use Rattle.route_steps.specs.Ways.{IsRest, Leaving, MayStop, leaving_after, passed_after}
use Rattle.route_steps.specs.declared.state.State.{State}
use Rattle.frvcp_labels.proofs.FirstLevel.{first_is_least}
use Rattle.route_steps.proofs.Rests.{rest_step}

-- one step, and the rest behind it
pub step_sum : (d travel process plug rate energy level added after charging rest next time : ℕ) → rest ≤ d * (travel + process) + rate * energy + next → next ≤ time + rate * after → rate * added ≤ charging → after + energy ≡ level + added
    → rest ≤ 1 * (d * (travel + process + plug)) + charging + time + rate * level
step_sum d travel process plug rate energy level added after charging rest next time step later charge levels =
    let worth : rate * (after + energy) ≡ rate * (level + added) = ap (λ x. rate * x) levels in
    omega (arith, step, later, charge, worth)

-- what is charged takes at least so long
pub charged : (g : Network) (rate : ℕ) → IsRate g rate → (from level : ℕ) (s : Stop) → IsStop g s → leaving_level g 1 from level s ≤ g.capacity
    → rate * s.added ≤ charging_time 1 g.denominator (curve_at g s.node) (arriving_level g 1 from level s) (leaving_level g 1 from level s)
charged g rate is from level s stop within = elim (cases_lt 0 s.added) [
  | inl some ↦
      let at = is s.node stop.known (stop.station (inr some)) (arriving_level g 1 from level s) (leaving_level g 1 from level s) (omega arith) within in
      let gap : leaving_level g 1 from level s - arriving_level g 1 from level s ≡ s.added = omega arith in
      subst (λ x. rate * x ≤ charging_time 1 g.denominator (curve_at g s.node) (arriving_level g 1 from level s) (leaving_level g 1 from level s)) gap at
  | inr none ↦
      let zero : rate * s.added ≡ rate * 0 = ap (λ x. rate * x) (omega arith) in
      omega (arith, zero)
]

module _ (g : Network) (route : List ℕ) (rate : ℕ) (least : List ℕ) (is : IsRestBound g route rate least) where
  abbrev rest_at : ℕ → ℕ → ℕ
  rest_at passed node = slice_index least (passed * node_count g + node)

  -- no entry is above the cost of a stop that may be made
  goes_on : (v : Leaving) (s : Stop) → MayStop g route v s → v.node < node_count g → rest_at v.passed v.node ≤ step_cost g rate v.node s.node + rest_at (passed_after v.passed s) s.node
  goes_on v s may known = elim (cases_Bool s.via) [
    | inl via ↦ (let steady = is.layers.steady v.passed (omega arith) may.on_way v.node known s.node may.stop.known (may.stop.station (inl via)) in rw via steady)
    | inr own ↦
        let direct = is.layers.direct v.passed (omega arith) may.on_way v.node known in
        let there : rest_at v.passed v.node ≤ step_cost g rate v.node s.node + rest_at (v.passed + 1) s.node =
        subst (λ n. rest_at v.passed v.node ≤ step_cost g rate v.node n + rest_at (v.passed + 1) n) (may.next own) direct in
        rw own there
  ]

  pub rest_below : (stops : List Stop) (v : Leaving) → v.node < node_count g → IsRest g route v stops → rest_at v.passed v.node ≤ time_from g 1 v.node v.level stops + rate * v.level
  rest_below [] v known rest =
      let count : 0 ≡ length route - (v.passed + 1) = ap length rest.follows ∙ length-drop (v.passed + 1) route in
      let within : v.passed < length route = rest.within in
      let end : v.passed ≡ length route - 1 = omega arith in
      let home = is.layers.home v.node known in
      let high : g.home_level ≤ v.level = rest.home in
      let worth : rate * g.home_level ≤ rate * v.level = mul-le-mul_left rate high in
      let here : rest_at v.passed v.node ≡ rest_at (length route - 1) v.node = ap (λ p. rest_at p v.node) end in
      omega (arith, home, worth, here)
  rest_below (s ∷ ss) v known rest =
      let both = rest_step g route v s ss rest in
      let may = both.0 in
      let later = rest_below ss (leaving_after g v s) may.stop.known both.1 in
      let reserve = may.reserve in
      step_sum g.denominator (travel_time g v.node s.node) (process_time g s.node) (plugging_time g s) rate (energy g v.node s.node) v.level s.added (leaving_level g 1 v.node v.level s)
      (charging_time 1 g.denominator (curve_at g s.node) (arriving_level g 1 v.node v.level s) (leaving_level g 1 v.node v.level s)) (rest_at v.passed v.node) (rest_at (passed_after v.passed s) s.node)
      (time_from g 1 s.node (leaving_level g 1 v.node v.level s) ss) (goes_on v s may known) later (charged g rate is.is_rate v.node v.level s may.stop may.within) (omega arith)

-- between two points that a number is below, where times and worths grow evenly
between : (most rest rate first time unit d e : ℕ) → most + rate * first ≤ time + rest → most + rate * (first + (d + e)) ≤ time + unit * (d + e) + rest → most + rate * (first + d) ≤ time + unit * d + rest
between most rest rate first time unit d e low high = elim (cases_lt unit rate) [
  | inl slow ↦ (let more : unit * e ≤ rate * e = mul-le-mul_right e (omega arith) in omega (arith, high, more))
  | inr fast ↦ (let more : rate * d ≤ unit * d = mul-le-mul_right d (omega arith) in omega (arith, low, more))
]

module _ (most rest rate : ℕ) (some : 0 < most) where
  below_times : (ps : List (ℕ × ℕ)) (level : ℕ) → ArePoints ps → IsBelowPoints rate rest ps most → first_level ps ≤ level → level ≤ last_level ps → most + rate * level ≤ time_on ps level + rest
  below_times [] level are below low high = absurd are
  below_times (p ∷ []) level are below low high =
      let same : rate * level ≡ rate * p.0 = ap (λ x. rate * x) (omega arith) in
      let first = below 0 (0, 0) (omega arith) in
      omega (arith, same, first)
  below_times (p ∷ q ∷ ps) level are below low high = elim (cases_lt level q.0) [
    | inl under ↦
        let first : most + rate * p.0 ≤ p.1 + rest = (let b = below 0 (0, 0) (omega arith) in omega (arith, b)) in
        let second : most + rate * q.0 ≤ q.1 + rest = (let b = below 1 (0, 0) (omega arith) in omega (arith, b)) in
        let end = piece_end p q are.1 are.2 in
        let d = level - p.0 in
        let e = q.0 - level in
        let gap : q.0 - p.0 ≡ (level - p.0) + (q.0 - level) = omega arith in
        let at : q.0 ≡ p.0 + ((level - p.0) + (q.0 - level)) = omega arith in
        let times : q.1 ≡ p.1 + slope p q * ((level - p.0) + (q.0 - level)) = sym end ∙ ap (λ x. p.1 + slope p q * x) gap in
        let worth : rate * q.0 ≡ rate * (p.0 + ((level - p.0) + (q.0 - level))) = ap (λ x. rate * x) at in
        let here : level ≡ p.0 + (level - p.0) = omega arith in
        let mine : rate * level ≡ rate * (p.0 + (level - p.0)) = ap (λ x. rate * x) here in
        let all = between most rest rate p.0 p.1 (slope p q) (level - p.0) (q.0 - level) first (omega (arith, second, times, worth)) in
        let time = time_on-first p q ps level (omega arith) in
        omega (arith, all, time, mine)
    | inr over ↦
        let later = below_times (q ∷ ps) level are.3 (λ k d h. below (suc k) d (omega arith)) over high in
        let time = time_on-later p q ps level are over in
        omega (arith, later, time)
  ]

pub below_level : (most rest rate : ℕ) (ps : List (ℕ × ℕ)) (level : ℕ) → ArePoints ps → IsBelowPoints rate rest ps most → IsLevel (level_times ps) level → most ≤ time_at (level_times ps) level + rest - rate * level
below_level most rest rate ps level are below is = elim (cases_lt 0 most) [
  | inl some ↦
      let within = level_is ps level are is in
      let whole = below_times most rest rate some ps level are below within.0 within.1 in
      let same = time_at-level_times ps level are is in
      omega (arith, whole, same)
  | inr none ↦ omega arith
]

-- so a vehicle of a state needs at least so much time to the end of the route
pub total_below : (t : Journey) (rate : ℕ) (least : List ℕ) (s : State) (most : ℕ) → IsRestBound t.network t.route rate least → s.node < node_count t.network → ArePoints s.value
    → IsBelowPoints rate (slice_index least (s.passed * node_count t.network + s.node)) s.value most → IsBelowWays t s most
total_below t rate least s most is known are below v stops holds rest =
    let reach = holds.reaches in
    let rest_of = slice_index least (s.passed * node_count t.network + s.node) in
    let own = below_level most (slice_index least (s.passed * node_count t.network + s.node)) rate s.value reach.0 are below reach.1 in
    let there : v.node < node_count t.network = subst (λ n. n < node_count t.network) holds.node known in
    let law = rest_below t.network t.route rate least is stops v there rest in
    let same : slice_index least (s.passed * node_count t.network + s.node) ≡ slice_index least (v.passed * node_count t.network + v.node) =
    ap (λ p. slice_index least (p * node_count t.network + s.node)) holds.passed ∙ ap (λ n. slice_index least (v.passed * node_count t.network + n)) holds.node in
    let worth : rate * v.level ≤ rate * reach.0 = mul-le-mul_left rate reach.2.0 in
    let sooner = reach.2.1 in
    omega (arith, own, law, same, worth, sooner)

-- and at least its own time
pub time_below : (t : Journey) (s : State) (time : ℕ) → ((level : ℕ) → IsLevel (level_times s.value) level → time ≤ time_at (level_times s.value) level) → IsBelowWays t s time
time_below t s time least v stops holds rest =
    let reach = holds.reaches in
    let own = least reach.0 reach.1 in
    let sooner = reach.2.1 in
    omega (arith, own, sooner)

-- its first time is the least
pub home_below : (t : Journey) (s : State) (level a : ℕ) → IsValue (level_times s.value) → level ≡ (level_times s.value).first → a ≡ time_at (level_times s.value) level → IsBelowWays t s a
home_below t s level a valid first time =
    let v = level_times s.value in
    let own : a ≡ time_at v v.first = time ∙ ap (λ l. time_at v l) first in
    time_below t s a (λ x at. (let low = first_is_least v valid x at in omega (arith, own, low)))
