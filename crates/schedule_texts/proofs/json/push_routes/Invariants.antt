use Rattle.std.proofs.Common.{◌≡◌, ◌++◌, drop}
use Rattle.schedule_texts.specs.JsonTexts.{items_from, route_text}
use Rattle.schedule_texts.proofs.json.push_routes.Given as goal

abbrev pub invariant-loop-at : goal.invariant-loop-at
invariant-loop-at l =
    l.out.items ++ items_from (route_text l.clock l.places l.denominator) l.at (drop l.at l.routes) ≡ l.fn.out.items ++ items_from (route_text l.clock l.places l.denominator) 0 l.routes
