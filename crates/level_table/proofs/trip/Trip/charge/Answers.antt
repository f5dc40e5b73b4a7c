use Rattle.std.proofs.Common.{◌≡◌, ◌∙◌, ◌+◌, ◌-◌, ◌*◌, ◌<◌, ◌≤◌, ℕ, false, true, inl, inr, refl, ap, subst, arith}
use Rattle.std.proofs.lemmas.Grind.{common_steps}
use Rattle.std.proofs.lemmas.Bool.{cases_lt}
use Rattle.charge_curve.specs.Points.{time_on}
use Rattle.ev_model.specs.Network.{IsNetwork, Network, curve_at}
use Rattle.ev_model.specs.Time.{charging_time}
use Rattle.instance_reader.specs.Instance.{IsCurveAt}
use Rattle.level_table.specs.Journey.{Journey}
use Rattle.level_table.specs.Moves.{node_of, plug_before}
use Rattle.level_table.proofs.ChargingTimes.{station-charging, station-has_curve, station-rises}
use Rattle.level_table.proofs.trip.Trip.charge.Goals as goal

some_way : (way : ℕ) → (way ≡ 0 → false ≡ true) → 0 < way
some_way way start = elim (cases_lt 0 way) [
  | inl some ↦ some
  | inr none ↦ let both : false ≡ true = start (omega arith) in cc
]

below_full : (level full capacity : ℕ) (g h : Network) → h ≡ g → full ≡ h.capacity → level ≤ g.capacity → (level ≡ full → ⊥) → level < g.capacity
below_full level full capacity g h same is within other =
    let there = ap (λ (n : Network). n.capacity) same in
    elim (cases_lt level g.capacity) [
      | inl less ↦ less
      | inr not_less ↦ absurd (other (omega (arith, not_less, within, is, there)))
    ]

pub overflow_sub-unit : goal.overflow_sub-unit
overflow_sub-unit c =
    let g = c.args.self.now.network in
    let same : c.self.inside.inst.now ≡ g = ap (λ (t : Journey). t.network) c.self.view_is in
    let node = c.node_at-node.result in
    let level = c.args.from.level in
    let network : IsNetwork g = subst IsNetwork same c.self.invariant.trip.network in
    let curve : IsCurveAt g node c.in-Some.curve.now = subst (λ (h : Network). IsCurveAt h node c.in-Some.curve.now) same c.in-Some.ensures in
    let below = below_full level c.max_q-full.result 0 g c.self.inside.inst.now same c.max_q-full.ensures.value c.requires.level (λ e. c.if-from-full.false e) in
    let up = station-rises g node c.in-Some.curve.now level (level + 1) network curve (omega arith) (omega (arith, below)) in
    omega (arith, up, c.time_to.ensures.value, c.time_to-2.ensures.value)

pub returns-clause-value : goal.returns-clause-value
returns-clause-value c =
    let g = c.args.self.now.network in
    let route = c.args.self.now.route in
    let from = c.args.from in
    let same : c.self.inside.inst.now ≡ g = ap (λ (t : Journey). t.network) c.self.view_is in
    let node = node_of g route from in
    let there : IsCurveAt g c.node_at-node.result c.in-Some.curve.now =
    subst (λ (h : Network). IsCurveAt h c.node_at-node.result c.in-Some.curve.now) same c.in-Some.ensures in
    let curve : IsCurveAt g node c.in-Some.curve.now = subst (λ (x : ℕ). IsCurveAt g x c.in-Some.curve.now) c.node_at-node.ensures.value there in
    let later : 0 < from.passed + from.slot = some_way (from.passed + from.slot) c.if-is_start.ensures.1 in
    let below = below_full from.level c.max_q-full.result 0 g c.self.inside.inst.now same c.max_q-full.ensures.value c.requires.level (λ e. c.if-from-full.false e) in
    let unit : c.time_to.result - c.time_to-2.result ≡ charging_time 1 g.denominator (curve_at g node) from.level (from.level + 1) =
    ap (λ x. x - c.time_to-2.result) c.time_to.ensures.value
    ∙ ap (λ x. time_on c.in-Some.curve.now (from.level + 1) - x) c.time_to-2.ensures.value
    ∙ station-charging g node c.in-Some.curve.now from.level (from.level + 1) curve (omega (arith, below)) (omega (arith, below)) in
    record {
      can = (later, below, station-has_curve g node c.in-Some.curve.now curve);
      time = ap (λ x. x + (c.time_to.result - c.time_to-2.result)) c.plug_time-plug.ensures.value ∙ ap (λ x. g.denominator * plug_before g route from + x) unit;
      leads = refl;
    }

pub time_to-requires : goal.time_to-requires
time_to-requires = grind (arith, common_steps)

pub time_to-requires-2 : goal.time_to-requires-2
time_to-requires-2 = grind (arith, common_steps)

pub overflow_add-level : goal.overflow_add-level
overflow_add-level = grind (arith, common_steps)

pub returns-clause-place : goal.returns-clause-place
returns-clause-place = grind (arith, common_steps)
