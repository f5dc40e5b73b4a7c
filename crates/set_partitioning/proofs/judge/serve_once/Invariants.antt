use Rattle.std.proofs.Common.{◌≡◌, ◌≤◌, ◌<◌, ℕ}
use Rattle.set_partitioning.specs.Partitions.{times_served}
use Rattle.set_partitioning.proofs.judge.serve_once.Given as goal

abbrev pub invariant-loop-c : goal.invariant-loop-c
invariant-loop-c l = record {
  apart : (k : ℕ) → k < l.c → times_served l.taken k ≤ 1;
  whole : (k : ℕ) → k < l.c → k < l.customers → times_served l.taken k ≡ 1;
}
