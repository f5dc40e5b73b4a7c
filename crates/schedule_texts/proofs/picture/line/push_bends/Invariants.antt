use Rattle.std.proofs.Common.{◌≡◌, ◌++◌, drop}
use Rattle.schedule_texts.specs.LevelLines.{bends_text}
use Rattle.schedule_texts.proofs.picture.line.push_bends.Given as goal

abbrev pub invariant-loop-corner : goal.invariant-loop-corner
invariant-loop-corner l =
    l.out.items ++ bends_text l.scale (drop l.corner-index l.line) ≡ l.fn.out.items ++ bends_text l.scale l.line
