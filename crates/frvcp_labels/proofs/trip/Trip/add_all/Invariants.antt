use Rattle.std.proofs.Common.{◌≡◌, ◌≤◌, ◌⊎◌, ℕ, List, Some, length}
use Rattle.std.specs.Prelude.{slice_get}
use Rattle.frvcp_labels.specs.Full.{AreFull}
use Rattle.frvcp_labels.specs.Search.{IsGrown, IsSoundPool, Reached}
use Rattle.route_steps.specs.Steps.{Holds, state_at}
use Rattle.route_steps.specs.Ways.{Leaving}
use Rattle.frvcp_labels.proofs.trip.Trip.add_all.Given as goal

abbrev pub invariant-loop-value : goal.invariant-loop-value
invariant-loop-value l = record {
  pool : IsSoundPool l.self l.pool;
  full : AreFull l.self l.pool.labels l.full;
  grown : IsGrown l.initial.pool.labels l.pool.labels;
  only : (v : Leaving) → Reached l.pool.labels v → Reached l.initial.pool.labels v ⊎ ((k : ℕ) × (w : List (ℕ × ℕ)) × (slice_get l.initial.values.items k ≡ Some w) × Holds (state_at l.passed l.to k w) v);
  same : (k : ℕ) (w : List (ℕ × ℕ)) → slice_get l.values.items k ≡ Some w → slice_get l.initial.values.items k ≡ Some w;
  reached : (k : ℕ) (w : List (ℕ × ℕ)) → length l.values.items ≤ k → slice_get l.initial.values.items k ≡ Some w → (v : Leaving) → Holds (state_at l.passed l.to k w) v → Reached l.pool.labels v;
}

abbrev pub decreases-loop-value : goal.decreases-loop-value
decreases-loop-value l = length l.values.items
