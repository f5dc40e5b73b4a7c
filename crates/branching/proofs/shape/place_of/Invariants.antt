use Rattle.std.proofs.Common.{◌<◌, drop}
use Rattle.branching.specs.Shape.{stands}
use Rattle.branching.proofs.shape.place_of.Given as goal

abbrev pub invariant-loop-place : goal.invariant-loop-place
invariant-loop-place l = 0 < stands l.key (drop l.place l.shape)
