-- A plan at its first stop.
use Rattle.std.proofs.Common.{◌≡◌, ℕ, ◌*◌, ◌<◌, List, [], ◌∷◌, ◌++◌, drop, get_or, refl, ap, arith}
use Rattle.ev_model.specs.Feasible.{IsFeasible}
use Rattle.ev_model.specs.Levels.{KeepsBatteryFrom}
use Rattle.ev_model.specs.Network.{Network, node_count}
use Rattle.ev_model.specs.Plan.{AreStopsFrom, EndsAtDepot}
use Rattle.ev_model.specs.declared.Stop.{Stop}
use Rattle.rounding_law.specs.Rounding.{rounded_from, rounded_plan}

-- what holds where the first stop is left
pub record Begins (g : Network) (k j start : ℕ) (stops : List Stop) (first : Stop) : Type 0 where
  pub from : first.node < node_count g
  pub stops_left : AreStopsFrom g first.node (drop 1 stops)
  pub kept : KeepsBatteryFrom g k first.node (k * start) (drop 1 stops)
  pub told : first ∷ [] ++ rounded_from g k j first.node (k * start) (drop 1 stops) ≡ rounded_plan g k j start stops

some_node : (g : Network) (from : ℕ) (stops : List Stop) → EndsAtDepot stops → AreStopsFrom g from stops → 0 < node_count g
some_node g from [] ends are = absurd ends
some_node g from (s ∷ ss) ends are = omega (arith, are.1.known)

pub begins : (g : Network) (k j start : ℕ) (stops : List Stop) (none : Stop) → IsFeasible g k start stops → Begins g k j start stops (get_or stops 0 none)
begins g k j start [] none feasible = absurd feasible.plan
begins g k j start (first ∷ stops) none feasible =
    let node : first.node ≡ 0 = ap (λ (s : Stop). s.node) feasible.plan.1 in
    record {
      from = omega (arith, node, some_node g first.node stops feasible.plan.2 feasible.plan.3);
      stops_left = feasible.plan.3;
      kept = feasible.battery.0;
      told = refl;
    }
