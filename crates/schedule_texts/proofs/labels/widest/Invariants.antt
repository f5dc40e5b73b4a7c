use Rattle.std.proofs.Common.{◌≡◌, drop}
use Rattle.schedule_texts.specs.Labels.{widest}
use Rattle.schedule_texts.proofs.labels.widest.Given as goal

abbrev pub invariant-loop-place : goal.invariant-loop-place
invariant-loop-place l = widest l.width (drop l.place-index l.places) ≡ widest l.least l.places
