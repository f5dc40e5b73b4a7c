use Rattle.std.proofs.Common.{ℕ, List, [], ◌∷◌, arith, refl, rules}
use Rattle.std.proofs.lemmas.Int.{ints}
use Rattle.fleet_model.specs.Labels.{state_at}
use Rattle.fleet_model.specs.Steps.{IsHomeStep}
use Rattle.ev_model.specs.Curve.{charge_time_in}
use Rattle.ev_model.specs.Examples.LeastLevels.{with_home_level, with_reserve}
use Rattle.ev_model.specs.Examples.OneStation.{one_station}
use Rattle.ev_model.specs.Examples.PluggingIn.{plugging_in}
use Rattle.fleet_model.specs.Examples.OneStation.{label, priced_at, priced_with_plug}
use Rattle.fleet_model.proofs.Test.{closed}
use Rattle.fleet_model.proofs.examples.one_station_is_closed.Goals as goal

pub returns-clause-closed : goal.returns-clause-closed
unfolding charge_time_in
returns-clause-closed c = closed one_station (priced_at 43) refl

pub returns-clause-reserve : goal.returns-clause-reserve
unfolding charge_time_in
returns-clause-reserve c = closed (with_reserve 1) (priced_at 46) refl

pub returns-clause-plug : goal.returns-clause-plug
unfolding charge_time_in
returns-clause-plug c = closed plugging_in (priced_with_plug 45) refl

pub returns-clause-home : goal.returns-clause-home
unfolding charge_time_in
returns-clause-home c = closed (with_home_level 5) (priced_at 60) refl

-- the way home from the customer at level 6 takes 43 in all
pub returns-clause-earns : goal.returns-clause-earns
returns-clause-earns c = λ closed.
    let step : IsHomeStep one_station (priced_at 44) (state_at (label 44 1 1 (0 ∷ []) 5 (22 ∷ 23 ∷ 29 ∷ 35 ∷ [])) 6) = search rules in
    let home = closed.home (label 44 1 1 (0 ∷ []) 5 (22 ∷ 23 ∷ 29 ∷ 35 ∷ [])) 6 (4, search rules, refl) (search rules) step in
    omega (arith, ints, home)

pub returns-clause-reserve_counts : goal.returns-clause-reserve_counts
returns-clause-reserve_counts c = λ closed.
    let step : IsHomeStep one_station (priced_at 46) (state_at (label 46 1 1 (0 ∷ []) 5 (22 ∷ 23 ∷ 29 ∷ 35 ∷ [])) 6) = search rules in
    let home = closed.home (label 46 1 1 (0 ∷ []) 5 (22 ∷ 23 ∷ 29 ∷ 35 ∷ [])) 6 (4, search rules, refl) (search rules) step in
    omega (arith, ints, home)

-- from the station at level 9 home is reached with 4, at 54 in all
pub returns-clause-home_counts : goal.returns-clause-home_counts
returns-clause-home_counts c = λ closed.
    let times : List ℕ = 26 ∷ 27 ∷ 28 ∷ 29 ∷ 30 ∷ 31 ∷ 32 ∷ 38 ∷ 44 ∷ [] in
    let step : IsHomeStep (with_home_level 4) (priced_at 60) (state_at (label 60 1 2 (0 ∷ []) 2 times) 9) = search rules in
    let home = closed.home (label 60 1 2 (0 ∷ []) 2 times) 9 (3, search rules, refl) (search rules) step in
    omega (arith, ints, home)
