use Rattle.std.proofs.Common.{◌≡◌, ◌++◌, codes, drop}
use Rattle.ev_text.specs.Texts.{marked_texts}
use Rattle.certificate_parts.specs.Texts.{point_text}
use Rattle.certificate_parts.proofs.writing.label.write_points.Given as goal

abbrev pub invariant-loop-point : goal.invariant-loop-point
invariant-loop-point l = l.text.items ++ marked_texts (codes " ") point_text (drop l.point-index l.points) ≡ l.fn.text.items ++ marked_texts (codes " ") point_text l.points
