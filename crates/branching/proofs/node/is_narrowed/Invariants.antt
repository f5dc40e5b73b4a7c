use Rattle.std.specs.Prelude.{◌≡◌, ◌≢◌, ◌<◌, ℕ, false}
use Rattle.customer_sets.specs.Pairs.{allows_of}
use Rattle.branching.proofs.node.is_narrowed.Given as goal

abbrev pub invariant-loop-other : goal.invariant-loop-other
invariant-loop-other l = (k : ℕ) → k < l.other → k ≢ l.i → k ≢ l.j → (allows_of l.pairs l.i k ≡ false) × (allows_of l.pairs k l.j ≡ false)
