use Rattle.std.proofs.Common.{◌<◌, ◌≤◌, ◌↔◌, ℕ, drop}
use Rattle.std.specs.Int.{◌∣◌}
use Rattle.charge_curve.specs.Multiples.{IsMultipleOfAll}
use Rattle.charge_curve.proofs.denominator.common_denominator.Given as goal

-- the multiples of `common` among those of the rest are the multiples of all
abbrev pub invariant-loop-curve : goal.invariant-loop-curve
invariant-loop-curve l = (0 < l.common) × (l.common ≤ l.limit)
    × ((e : ℕ) → ((l.common ∣ e) × IsMultipleOfAll (drop l.curve-index l.curves) e) ↔ IsMultipleOfAll l.curves e)
