use Rattle.std.proofs.Common.{ℕ, ◌<◌, true}
use Rattle.route_proof.specs.Tellings.{Misses}
use Rattle.route_proof.proofs.judged.Judged.uncovered_station.Given as goal

abbrev pub invariant-loop-node : goal.invariant-loop-node
invariant-loop-node l = (x : ℕ) → x < l.node → (Misses l.self l.label x true → ⊥)
