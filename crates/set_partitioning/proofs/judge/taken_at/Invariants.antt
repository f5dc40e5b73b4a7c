use Rattle.std.proofs.Common.{◌≡◌, ◌++◌, drop, map}
use Rattle.set_partitioning.specs.Partitions.{candidate_at}
use Rattle.set_partitioning.proofs.judge.taken_at.Given as goal

abbrev pub invariant-loop-at : goal.invariant-loop-at
invariant-loop-at l =
    l.taken.items ++ map (candidate_at l.candidates) (drop l.at-index l.places)
    ≡ map (candidate_at l.candidates) l.places
