-- Feasible plans: their nodes are known, and they serve only the customers of a route exactly where no stop is stray.
use Rattle.std.proofs.Common.{◌≡◌, ℕ, ◌<◌, true, false, List, [], ◌∷◌, Option, Some, None, refl, ap, arith}
use Rattle.std.specs.Prelude.{is_some}
use Rattle.std.proofs.lemmas.List.Elements.{All-cons, All-nil}
use Rattle.ev_model.specs.Feasible.{IsFeasible}
use Rattle.ev_model.specs.Fleet.{ServesOnly}
use Rattle.ev_model.specs.Network.{Network, node_count}
use Rattle.ev_model.specs.Plan.{AreStopsFrom, EndsAtDepot}
use Rattle.ev_model.specs.declared.Stop.{Stop}
use Rattle.route_plan.specs.FirstPlaces.{behind_first}
use Rattle.plan_check.specs.FirstFaults.{first_stray}
use Rattle.plan_check.specs.Tallies.{AreKnown}
use Rattle.plan_check.proofs.Served.{no_stray, serves_only}
use Rattle.plan_check.proofs.Strays.{first_stray-None, first_stray-Some}

-- ---- the nodes of a feasible plan

stops_known : (g : Network) (from : ℕ) (ss : List Stop) → AreStopsFrom g from ss → AreKnown g ss
stops_known g from [] stops = All-nil (λ (s : Stop). s.node < node_count g)
stops_known g from (s ∷ ss) stops = All-cons (λ (s : Stop). s.node < node_count g) s ss stops.1.known (stops_known g s.node ss stops.2)

some_known : (g : Network) (from : ℕ) (ss : List Stop) → AreStopsFrom g from ss → EndsAtDepot ss → 0 < node_count g
some_known g from [] stops ends = absurd ends
some_known g from (s ∷ ss) stops ends = omega (arith, stops.1.known)

pub plan_known : (g : Network) (stops : List Stop) → IsFeasible g 1 g.capacity stops → AreKnown g stops
plan_known g [] feasible = absurd feasible.plan
plan_known g (first ∷ ss) feasible =
    let plan = feasible.plan in
    let depot : first.node ≡ 0 = ap (λ (s : Stop). s.node) plan.1 in
    let begins : first.node < node_count g = rw depot (some_known g first.node ss plan.3 plan.2) in
    All-cons (λ (s : Stop). s.node < node_count g) first ss begins (stops_known g first.node ss plan.3)

-- ---- stray stops

pub only_without_stray : (g : Network) (stops : List Stop) → IsFeasible g 1 g.capacity stops → is_some (first_stray g 1 (behind_first stops)) ≡ false → ServesOnly g stops
only_without_stray g [] feasible none = absurd feasible.plan
only_without_stray g (first ∷ ss) feasible none =
    serves_only g first ss feasible.plan.1 feasible.plan.2 (first_stray-None g (first ∷ ss) (none_of (first_stray g 1 (behind_first (first ∷ ss))) none))
  where
    none_of : (o : Option ℕ) → is_some o ≡ false → o ≡ None
    none_of None is = refl
    none_of (Some n) is = absurd (cc)

pub not_only_with_stray : (g : Network) (stops : List Stop) → IsFeasible g 1 g.capacity stops → is_some (first_stray g 1 (behind_first stops)) ≡ true → ServesOnly g stops → ⊥
not_only_with_stray g [] feasible some only = absurd feasible.plan
not_only_with_stray g (first ∷ ss) feasible some only = by (first_stray g 1 (behind_first (first ∷ ss))) refl some
  where
    by : (o : Option ℕ) → first_stray g 1 (behind_first (first ∷ ss)) ≡ o → is_some o ≡ true → ⊥
    by None is found = cc
    by (Some at) is found = no_stray g first ss feasible.plan.1 feasible.plan.2 only at (first_stray-Some g (first ∷ ss) at is).is
