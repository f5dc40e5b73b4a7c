use Rattle.std.specs.Prelude.{◌≡◌, take}
use Rattle.master_simplex.specs.Sharing.{numbers}
use Rattle.master_simplex.proofs.prices.numbers.Given as goal

abbrev pub invariant-loop-c : goal.invariant-loop-c
invariant-loop-c l = l.found.items ≡ take l.c (numbers l.goal l.t)
