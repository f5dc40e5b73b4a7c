use Rattle.std.proofs.Common.{◌≡◌, ◌++◌, codes, drop}
use Rattle.ev_text.specs.Texts.{parted_texts}
use Rattle.route_plan.specs.PlanTexts.{stop_text}
use Rattle.route_plan.proofs.PlanWriting.{left_text}
use Rattle.route_plan.proofs.text.writing.write_stops.Given as goal

abbrev pub invariant-loop-at : goal.invariant-loop-at
invariant-loop-at l = l.text.items ++ left_text l.at (drop l.at l.stops) ≡ l.fn.text.items ++ parted_texts (codes " ") stop_text l.stops
