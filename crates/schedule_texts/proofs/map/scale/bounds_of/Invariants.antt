use Rattle.std.proofs.Common.{◌≡◌, drop}
use Rattle.schedule_texts.specs.Maps.{bounds_with, no_bounds}
use Rattle.schedule_texts.proofs.map.scale.bounds_of.Given as goal

abbrev pub invariant-loop-place : goal.invariant-loop-place
invariant-loop-place l = bounds_with l.b (drop l.place-index l.places) ≡ bounds_with no_bounds l.places
