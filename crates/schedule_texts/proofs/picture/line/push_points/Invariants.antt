use Rattle.std.proofs.Common.{◌≡◌, ◌++◌, drop}
use Rattle.ev_text.specs.Texts.{joined_texts}
use Rattle.schedule_texts.specs.LevelLines.{point_text}
use Rattle.schedule_texts.proofs.picture.line.push_points.Given as goal

abbrev pub invariant-loop-corner : goal.invariant-loop-corner
invariant-loop-corner l =
    l.out.items ++ joined_texts (point_text l.scale) (drop l.corner-index l.line) ≡ l.fn.out.items ++ joined_texts (point_text l.scale) l.line
