use Rattle.std.proofs.Common.{◌*◌, ◌<◌, ◌≤◌, ◌≤ℤ◌, ℕ, length, pos}
use Rattle.fleet_model.specs.Prices.{price_sum}
use Rattle.tests_master.specs.SharedRides.{cost, served}
use Rattle.tests_master.proofs.shared_rides.SharedRidesEarners.earn.Given as goal

abbrev pub invariant-loop-first : goal.invariant-loop-first
invariant-loop-first l = (first last : ℕ) → first < l.first → first ≤ last → last < length l.prices → price_sum l.prices (served (first, last)) ≤ℤ pos (l.weight * cost (first, last))
