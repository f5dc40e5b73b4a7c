use Rattle.std.proofs.Common.{◌≡◌, ◌++◌, drop}
use Rattle.schedule_texts.specs.Shapes.{stops_text}
use Rattle.schedule_texts.proofs.picture.stops.push_stops.Given as goal

abbrev pub invariant-loop-at : goal.invariant-loop-at
invariant-loop-at l =
    l.out.items ++ stops_text l.scale l.places l.at (drop l.at l.visits) ≡ l.fn.out.items ++ stops_text l.scale l.places 0 l.visits
