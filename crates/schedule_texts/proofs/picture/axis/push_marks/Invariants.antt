use Rattle.std.proofs.Common.{◌≡◌, ◌++◌}
use Rattle.schedule_texts.specs.Axes.{marks_text}
use Rattle.schedule_texts.proofs.picture.axis.push_marks.Given as goal

abbrev pub invariant-loop-number : goal.invariant-loop-number
invariant-loop-number l =
    l.out.items ≡ l.fn.out.items ++ marks_text l.scale l.step l.number
