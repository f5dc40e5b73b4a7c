use Rattle.std.proofs.Common.{◌*◌, ◌<◌, ◌≤◌, ◌≤ℤ◌, ℕ, pos}
use Rattle.fleet_model.specs.Prices.{price_sum}
use Rattle.tests_master.specs.SharedRides.{cost, served}
use Rattle.tests_master.proofs.shared_rides.earning_from.Given as goal

abbrev pub invariant-loop-last : goal.invariant-loop-last
invariant-loop-last l = (last : ℕ) → l.first ≤ last → last < l.last → price_sum l.prices (served (l.first, last)) ≤ℤ pos (l.weight * cost (l.first, last))
