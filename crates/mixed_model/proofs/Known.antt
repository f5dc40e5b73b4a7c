-- The nodes of a feasible plan, in any fraction of a unit.
use Rattle.std.proofs.Common.{◌≡◌, ℕ, ◌<◌, List, [], ◌∷◌, ap, arith}
use Rattle.std.proofs.lemmas.List.Elements.{All-cons, All-nil}
use Rattle.ev_model.specs.Feasible.{IsFeasible}
use Rattle.ev_model.specs.Network.{Network, node_count}
use Rattle.ev_model.specs.Plan.{AreStopsFrom, EndsAtDepot}
use Rattle.ev_model.specs.declared.Stop.{Stop}
use Rattle.plan_check.specs.Tallies.{AreKnown}

stops_known : (g : Network) (from : ℕ) (ss : List Stop) → AreStopsFrom g from ss → AreKnown g ss
stops_known g from [] stops = All-nil (λ (s : Stop). s.node < node_count g)
stops_known g from (s ∷ ss) stops = All-cons (λ (s : Stop). s.node < node_count g) s ss stops.1.known (stops_known g s.node ss stops.2)

some_known : (g : Network) (from : ℕ) (ss : List Stop) → AreStopsFrom g from ss → EndsAtDepot ss → 0 < node_count g
some_known g from [] stops ends = absurd ends
some_known g from (s ∷ ss) stops ends = omega (arith, stops.1.known)

pub plan_known : (g : Network) (k start : ℕ) (stops : List Stop) → IsFeasible g k start stops → AreKnown g stops
plan_known g k start [] feasible = absurd feasible.plan
plan_known g k start (first ∷ ss) feasible =
    let plan = feasible.plan in
    let depot : first.node ≡ 0 = ap (λ (s : Stop). s.node) plan.1 in
    let begins : first.node < node_count g = rw depot (some_known g first.node ss plan.3 plan.2) in
    All-cons (λ (s : Stop). s.node < node_count g) first ss begins (stops_known g first.node ss plan.3)
