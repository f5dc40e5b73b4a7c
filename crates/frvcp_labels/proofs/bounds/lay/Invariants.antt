use Rattle.std.proofs.Common.{◌≡◌, ◌+◌, ◌<◌, ◌≤◌, ℕ, length}
use Rattle.std.specs.Prelude.{slice_index}
use Rattle.frvcp_labels.specs.Bounds.{capped}
use Rattle.frvcp_labels.proofs.bounds.lay.Given as goal

abbrev pub invariant-loop-n : goal.invariant-loop-n
invariant-loop-n l = record {
  count : length l.least ≡ length l.initial.least;
  laid : (k : ℕ) → k < l.n → slice_index l.least (l.base + k) ≡ capped (slice_index l.layer k + l.after);
  stays : (i : ℕ) → l.base + length l.layer ≤ i → slice_index l.least i ≡ slice_index l.initial.least i;
}
