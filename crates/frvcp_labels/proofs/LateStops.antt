-- From where no way home is below a bar.
use Rattle.std.proofs.Common.{◌≡◌, ◌∙◌, ℕ, ◌+◌, ◌*◌, ◌≤◌, List, Some, ap, arith, sym}
use Rattle.std.specs.Prelude.{slice_index}
use Rattle.std.proofs.Math.Nat.{mul-le-mul_left}
use Rattle.charge_curve.specs.Points.{ArePoints}
use Rattle.ev_model.specs.Levels.{arriving_level, leaving_level}
use Rattle.ev_model.specs.Network.{curve_at, energy, node_count, process_time, travel_time}
use Rattle.ev_model.specs.Time.{charging_time, plugging_time, time_from}
use Rattle.ev_model.specs.declared.Stop.{Stop}
use Rattle.frvcp_labels.specs.Rest.{IsBelowPoints, IsRestBound, step_cost}
use Rattle.frvcp_labels.specs.Search.{IsLateTo}
use Rattle.route_steps.specs.Trips.{Journey}
use Rattle.route_steps.specs.Ways.{IsRest, Leaving, MayStop, leaving_after, passed_after}
use Rattle.route_steps.specs.declared.state.State.{State}
use Rattle.frvcp_labels.proofs.RestLaw.{below_level, charged, rest_below, step_sum}

module _ (t : Journey) (rate : ℕ) (least : List ℕ) (is : IsRestBound t.network t.route rate least) where
  abbrev rest_at : ℕ → ℕ → ℕ
  rest_at passed node = slice_index least (passed * node_count t.network + node)

  -- a stop, and the rest behind it
  over_stop : (v : Leaving) (s : Stop) (ss : List Stop) → MayStop t.network t.route v s → IsRest t.network t.route (leaving_after t.network v s) ss
      → v.time + (step_cost t.network rate v.node s.node + rest_at (passed_after v.passed s) s.node)
      ≤ (leaving_after t.network v s).time + time_from t.network 1 s.node (leaving_level t.network 1 v.node v.level s) ss + rate * v.level
  over_stop v s ss may rest =
      let g = t.network in
      let later = rest_below t.network t.route rate least is ss (leaving_after t.network v s) may.stop.known rest in
      let reserve = may.reserve in
      let all = step_sum t.network.denominator (travel_time t.network v.node s.node) (process_time t.network s.node) (plugging_time t.network s) rate (energy t.network v.node s.node) v.level s.added
      (leaving_level t.network 1 v.node v.level s)
      (charging_time 1 t.network.denominator (curve_at t.network s.node) (arriving_level t.network 1 v.node v.level s) (leaving_level t.network 1 v.node v.level s))
      (step_cost t.network rate v.node s.node + rest_at (passed_after v.passed s) s.node) (rest_at (passed_after v.passed s) s.node)
      (time_from t.network 1 s.node (leaving_level t.network 1 v.node v.level s) ss) (omega arith) later (charged t.network rate is.is_rate v.node v.level s may.stop may.within) (omega arith) in
      omega (arith, all)

  pub late_to : (s : State) (passed to cost on most bar : ℕ) → ArePoints s.value → cost ≤ step_cost t.network rate s.node to → on ≤ cost + rest_at passed to → IsBelowPoints rate on s.value most → bar ≤ most
      → IsLateTo t (Some bar) s passed to
  late_to s passed to cost on most bar are arc sum below over v stop holds may node after ss rest =
      let reach = holds.reaches in
      let own = below_level most on rate s.value reach.0 are below reach.1 in
      let law = over_stop v stop ss may rest in
      let from : step_cost t.network rate s.node to ≡ step_cost t.network rate v.node stop.node =
      ap (λ n. step_cost t.network rate n to) holds.node ∙ ap (λ n. step_cost t.network rate v.node n) (sym node) in
      let there : rest_at passed to ≡ rest_at (passed_after v.passed stop) stop.node = ap (λ p. rest_at p to) (sym after) ∙ ap (λ n. rest_at (passed_after v.passed stop) n) (sym node) in
      let worth : rate * v.level ≤ rate * reach.0 = mul-le-mul_left rate reach.2.0 in
      let sooner = reach.2.1 in
      omega (arith, own, law, from, there, worth, sooner, arc, sum, over)
