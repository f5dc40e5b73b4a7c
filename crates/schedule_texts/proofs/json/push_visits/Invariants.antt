use Rattle.std.proofs.Common.{◌≡◌, ◌++◌, drop}
use Rattle.schedule_texts.specs.JsonTexts.{items_from, visit_text}
use Rattle.schedule_texts.proofs.json.push_visits.Given as goal

abbrev pub invariant-loop-at : goal.invariant-loop-at
invariant-loop-at l =
    l.out.items ++ items_from (visit_text l.clock l.places l.denominator) l.at (drop l.at l.visits) ≡ l.fn.out.items ++ items_from (visit_text l.clock l.places l.denominator) 0 l.visits
