use Rattle.std.proofs.Common.{◌≡◌, ◌++◌}
use Rattle.schedule_texts.specs.Frames.{steps_text}
use Rattle.schedule_texts.proofs.picture.frame.push_steps.Given as goal

abbrev pub invariant-loop-number : goal.invariant-loop-number
invariant-loop-number l = l.out.items ≡ l.fn.out.items ++ steps_text l.scale l.step l.number
