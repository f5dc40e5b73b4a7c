use Rattle.std.specs.Prelude.{◌<◌, ℕ}
use Rattle.customer_sets.specs.CustSet.{IsWithin}
use Rattle.customer_sets.specs.Pairs.{row_of}
use Rattle.customer_sets.proofs.pairs.Pairs.within.Given as goal

abbrev pub invariant-loop-place : goal.invariant-loop-place
invariant-loop-place l = (a : ℕ) → a < l.place → IsWithin (row_of l.self a) (row_of l.other a)
