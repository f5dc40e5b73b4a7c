use Rattle.std.specs.Prelude.{◌≡◌, ◌≢◌, ◌<◌, ℕ, false}
use Rattle.customer_sets.specs.Pairs.{allows_of}
use Rattle.customer_sets.proofs.pairs.Pairs.narrowed_by.Given as goal

abbrev pub invariant-loop-l : goal.invariant-loop-l
invariant-loop-l l = (k : ℕ) → k < l.l → k ≢ l.i → k ≢ l.j → (allows_of l.self l.i k ≡ false) × (allows_of l.self k l.j ≡ false)
