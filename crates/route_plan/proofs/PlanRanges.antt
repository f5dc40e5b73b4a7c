-- The numbers of a feasible plan are small.
use Rattle.std.proofs.Common.{◌≡◌, ℕ, ◌*◌, ap, arith, List, [], ◌∷◌}
use Rattle.std.specs.List.{All}
use Rattle.std.proofs.lemmas.List.Elements.{All-cons, All-nil}
use Rattle.ev_model.specs.Feasible.{IsFeasible}
use Rattle.ev_model.specs.Levels.{KeepsBatteryFrom, leaving_level}
use Rattle.ev_model.specs.Network.{IsNetwork, Network}
use Rattle.ev_model.specs.Plan.{AreStopsFrom}
use Rattle.ev_model.specs.declared.Stop.{Stop}
use Rattle.route_plan.specs.PlanTexts.{FitsText, IsSmallStop}

small_stops : (g : Network) (from level : ℕ) (stops : List Stop) → IsNetwork g → AreStopsFrom g from stops → KeepsBatteryFrom g 1 from level stops → All IsSmallStop stops
small_stops g from level [] network are keeps = All-nil IsSmallStop
small_stops g from level (s ∷ ss) network are keeps =
    let few = network.few_nodes in
    let full = network.small_capacity in
    let small : IsSmallStop s = record { node = omega (arith, are.1.known, few); added = omega (arith, keeps.1, full) } in
    All-cons IsSmallStop s ss small (small_stops g s.node (leaving_level g 1 from level s) ss network are.2 keeps.2)

-- a feasible plan may stand in a text
pub feasible_fits : (g : Network) (start : ℕ) (stops : List Stop) → IsNetwork g → IsFeasible g 1 start stops → FitsText stops
feasible_fits g start [] network feasible = absurd feasible.plan
feasible_fits g start (first ∷ stops) network feasible =
    let node : first.node ≡ 0 = ap (λ (s : Stop). s.node) feasible.plan.1 in
    let added : first.added ≡ 0 = ap (λ (s : Stop). s.added) feasible.plan.1 in
    let small : IsSmallStop first = record { node = omega (arith, node); added = omega (arith, added) } in
    record {
      some = λ e. cc;
      small = All-cons IsSmallStop first stops small (small_stops g first.node (1 * start) stops network feasible.plan.3 feasible.battery.0);
    }
