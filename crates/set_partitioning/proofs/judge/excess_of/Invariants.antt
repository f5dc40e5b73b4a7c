use Rattle.std.proofs.Common.{◌≡◌, ◌+ℤ◌, drop}
use Rattle.set_partitioning.specs.Partitions.{excess_of}
use Rattle.set_partitioning.proofs.judge.excess_of.Given as goal

abbrev pub invariant-loop-candidate : goal.invariant-loop-candidate
invariant-loop-candidate l =
    l.excess +ℤ excess_of (drop l.candidate-index l.taken) ≡ excess_of l.taken
