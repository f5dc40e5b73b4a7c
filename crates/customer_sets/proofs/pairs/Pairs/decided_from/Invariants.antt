use Rattle.std.specs.Prelude.{◌≡◌, ◌≢◌, ◌<◌, ℕ, true}
use Rattle.customer_sets.specs.Pairs.{allows_of, IsNarrowedBy}
use Rattle.customer_sets.proofs.pairs.Pairs.decided_from.Given as goal

abbrev pub invariant-loop-j : goal.invariant-loop-j
invariant-loop-j l = (j : ℕ) → 0 < j → j < l.j → l.i ≢ j → allows_of l.self l.i j ≡ true → IsNarrowedBy l.self l.i j → ⊥
