use Rattle.std.specs.Prelude.{◌≡◌, ℕ}
use Rattle.customer_sets.specs.Pairs.{allows_of}
use Rattle.customer_sets.proofs.PairRows.{require_below}
use Rattle.customer_sets.proofs.pairs.Pairs.require.Given as goal

abbrev pub invariant-loop-other : goal.invariant-loop-other
invariant-loop-other l = record {
  customers : l.self.customers ≡ l.initial.self.customers;
  pairs : (a b : ℕ) → allows_of l.self a b ≡ require_below l.other l.i l.j (allows_of l.initial.self) a b;
}
