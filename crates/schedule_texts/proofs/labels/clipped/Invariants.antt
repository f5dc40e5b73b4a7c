use Rattle.std.proofs.Common.{◌≡◌, ◌++◌, drop, take}
use Rattle.schedule_texts.specs.Labels.{clip}
use Rattle.schedule_texts.proofs.labels.clipped.Given as goal

abbrev pub invariant-loop-at : goal.invariant-loop-at
invariant-loop-at l = take l.at l.text ++ clip l.left (drop l.at l.text) ≡ clip l.most l.text
