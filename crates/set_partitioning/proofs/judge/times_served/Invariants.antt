use Rattle.std.proofs.Common.{◌≡◌, ◌≤◌, ◌+◌, drop}
use Rattle.set_partitioning.specs.Partitions.{times_served}
use Rattle.set_partitioning.proofs.judge.times_served.Given as goal

abbrev pub invariant-loop-candidate : goal.invariant-loop-candidate
invariant-loop-candidate l = record {
  sum : l.times + times_served (drop l.candidate-index l.taken) l.c ≡ times_served l.taken l.c;
  small : l.times ≤ l.candidate-index;
}
