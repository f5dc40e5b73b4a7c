use Rattle.std.specs.Prelude.{◌≡◌, ◌<◌, ℕ, bit_and, slice_index}
use Rattle.customer_sets.proofs.large_set.LargeSet.is_subset.Given as goal

abbrev pub invariant-loop-i : goal.invariant-loop-i
invariant-loop-i l = (k : ℕ) → k < l.i → bit_and (slice_index l.self-inside.words k) (slice_index l.other-inside.words k) ≡ slice_index l.self-inside.words k
