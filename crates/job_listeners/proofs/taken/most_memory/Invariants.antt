use Rattle.std.proofs.Common.{◌≡◌, drop}
use Rattle.job_listeners.specs.MostMemory.{most_memory}
use Rattle.job_listeners.proofs.taken.most_memory.Given as goal

abbrev pub invariant-loop-at : goal.invariant-loop-at
invariant-loop-at l = most_memory (drop l.at l.status) ≡ most_memory l.status
