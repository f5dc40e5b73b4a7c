-- The search for the fastest offset.
use Rattle.std.proofs.Common.{ℕ, ◌*◌, ◌<◌, ◌≤◌, List, Option, None, Some, arith}
use Rattle.std.proofs.Math.Nat.{mul-le-mul_left}
use Rattle.ev_model.specs.Feasible.{IsFeasible}
use Rattle.ev_model.specs.Network.{IsNetwork, Network}
use Rattle.ev_model.specs.Time.{time_of}
use Rattle.ev_model.specs.declared.Stop.{Stop}
use Rattle.rounding_law.specs.Best.{IsFastestOffset, IsTimeOf}
use Rattle.rounding_law.specs.Rounding.{rounded_plan}
use Rattle.rounding_law.proofs.Whole.{some_offset}

-- no offset below n has a feasible whole plan that is faster; where none has one, there is no least time
abbrev pub IsBestBelow : Network → ℕ → ℕ → List Stop → ℕ → ℕ → Option ℕ → Type 0
IsBestBelow g k start stops n fastest None = (j : ℕ) → j < n → IsFeasible g 1 start (rounded_plan g k j start stops) → ⊥
IsBestBelow g k start stops n fastest (Some least) =
    (fastest < n) × IsTimeOf g start (rounded_plan g k fastest start stops) (Some least)
    × ((j : ℕ) → j < n → IsFeasible g 1 start (rounded_plan g k j start stops) → least ≤ time_of g 1 start (rounded_plan g k j start stops))

-- the fastest of all offsets; there is one, since one is no slower than the plan in kths
pub best_of_all : (g : Network) (k start : ℕ) (stops : List Stop) (fastest : ℕ) (least : Option ℕ) → IsNetwork g → IsFeasible g k start stops →
    IsBestBelow g k start stops k fastest least → IsFastestOffset g k start stops fastest
best_of_all g k start stops fastest None network feasible best =
    let some = some_offset g k start stops network feasible in
    absurd (best some.0 some.1 some.2)
best_of_all g k start stops fastest (Some least) network feasible best = record {
  below = best.0;
  feasible = best.1.0;
  fastest = λ j lt is. omega (arith, best.1.1, best.2 j lt is);
}

-- the fastest offset is no slower than the plan in kths
pub best_no_slower : (g : Network) (k start : ℕ) (stops : List Stop) (offset : ℕ) → IsNetwork g → IsFeasible g k start stops → IsFastestOffset g k start stops offset →
    k * time_of g 1 start (rounded_plan g k offset start stops) ≤ time_of g k start stops
best_no_slower g k start stops offset network feasible best =
    let some = some_offset g k start stops network feasible in
    let scaled : k * time_of g 1 start (rounded_plan g k offset start stops) ≤ k * time_of g 1 start (rounded_plan g k some.0 start stops) =
    mul-le-mul_left k (best.fastest some.0 some.1 some.2) in
    omega (arith, scaled, some.3)
