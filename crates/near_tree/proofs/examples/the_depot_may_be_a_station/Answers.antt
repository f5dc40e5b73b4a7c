use Rattle.std.proofs.Common.{◌≡◌, ℕ, zero, suc, ◌<◌, [], ◌∷◌, refl, sym, ap, subst, pos, Some, arith, rules}
use Rattle.std.specs.Prelude.{slice_index_or}
use Rattle.ev_model.specs.Curve.{charge_time_in}
use Rattle.near_tree.specs.Branches.{whole}
use Rattle.near_tree.specs.Examples.DepotStation.{both, depot_station}
use Rattle.near_tree.specs.Examples.Labels.{label}
use Rattle.near_tree.specs.Follows.{StandsFor}
use Rattle.near_tree.specs.Sections.{after, anybody, LeafLabel}
use Rattle.near_tree.specs.Steps.{IsLeafStationStep, leaf_at}
use Rattle.near_tree.specs.Trees.{leaf}
use Rattle.near_tree.proofs.Stands.{nobody_stands}
use Rattle.near_tree.proofs.Test.{accepted}
use Rattle.near_tree.proofs.examples.the_depot_may_be_a_station.Goals as goal

pub returns-clause-bound : goal.returns-clause-bound
unfolding charge_time_in
returns-clause-bound c = accepted depot_station (Some 8) (leaf (both anybody)) refl

-- of the two labels the first stands not for the customer, and the second isn't at the depot
neither : (k : ℕ) (l : LeafLabel) → k < 2 → slice_index_or (both (after 0)).labels k l ≡ l → StandsFor depot_station whole (both (after 0)) l.last (after 1) → l.label.node ≡ 0 → ⊥
neither zero l low is stands there =
    let last : after 0 ≡ l.last = ap (λ (m : LeafLabel). m.last) is in
    let own : StandsFor depot_station whole (both (after 0)) (after 0) (after 1) = subst (λ m. StandsFor depot_station whole (both (after 0)) m (after 1)) (sym last) stands in
    nobody_stands depot_station whole (both (after 0)) (after 1) (refl, λ first. absurd (omega (arith, first))) own
neither (suc zero) l low is stands there =
    let node : 1 ≡ l.label.node = ap (λ (m : LeafLabel). m.label.node) is in
    omega (arith, node, there)
neither (suc (suc k)) l low is stands there = omega (arith, low)

-- the way back to the depot, where nothing is charged
pub returns-clause-start_alone : goal.returns-clause-start_alone
unfolding charge_time_in
returns-clause-start_alone c = λ closed.
    let behind = label (after 1) 1 (0 ∷ []) (pos 8) 1 (4 ∷ []) in
    let step : IsLeafStationStep depot_station (leaf_at behind 1) 0 0 = search rules in
    let covered = closed.station behind 1 0 0 (1, search rules, refl) (search rules) step in
    neither covered.1.0 covered.0 covered.1.1 covered.1.2 covered.2.last covered.2.state.2.node
