-- Vehicles that a value covers.
use Rattle.std.proofs.Common.{ℕ, ◌+◌, ◌-◌, ◌≤◌, arith, Option, Some, None}
use Rattle.std.specs.Prelude.{MatchOption}
use Rattle.dominance.specs.Coverage.{CoversEach, Reaches}
use Rattle.dominance.specs.LevelTimes.{IsLevel, LevelTimes}
use Rattle.dominance.specs.Steps.{IsShift}
use Rattle.label_steps.specs.Arrivals.{CoversVehicle}
use Rattle.label_steps.specs.OneLevel.{one_level}
use Rattle.label_steps.proofs.OneLevel.{has_level, its_level, its_time, shifted_point, time_there}

-- what holds a vehicle covers it, and the other way round
pub covers_vehicle : (v : LevelTimes) (level time : ℕ) → Reaches v 0 level time → CoversVehicle v level time
covers_vehicle v level time r x is =
    let same = its_level level time x is in
    let at = time_there level time x is in
    (r.0, r.1, (omega (arith, same, r.2.0), omega (arith, at, r.2.1)))

pub reaches_vehicle : (v : LevelTimes) (level time : ℕ) → CoversVehicle v level time → Reaches v 0 level time
reaches_vehicle v level time covers =
    let r = covers level (has_level level time) in
    let at = its_time level time in
    (r.0, r.1, (r.2.0, omega (arith, at, r.2.1)))

-- a vehicle that is covered and has enough left is covered by what is left
pub shifted_covers : {V : Type 0} (meaning : V → LevelTimes) (energy drive limit level time : ℕ) (v : LevelTimes) (o : Option V)
    → ((other left : LevelTimes) (extra : ℕ) → CoversEach v other extra → IsShift energy drive limit other left → MatchOption o ((x : ℕ) → IsLevel left x → ⊥) (λ w. CoversEach (meaning w) left extra))
    → CoversVehicle v level time → energy ≤ level → time + drive ≤ limit → MatchOption o ⊥ (λ w. CoversVehicle (meaning w) (level - energy) (time + drive))
shifted_covers meaning energy drive limit level time v None keeps covers enough in_time =
    keeps (one_level level time) (one_level (level - energy) (time + drive)) 0 covers (shifted_point energy drive limit level time enough in_time) (level - energy) (has_level (level - energy) (time + drive))
shifted_covers meaning energy drive limit level time v (Some w) keeps covers enough in_time =
    keeps (one_level level time) (one_level (level - energy) (time + drive)) 0 covers (shifted_point energy drive limit level time enough in_time)
