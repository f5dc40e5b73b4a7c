use Rattle.std.proofs.Common.{◌≡◌, ◌++◌, drop}
use Rattle.ev_text.specs.Texts.{joined_texts}
use Rattle.schedule_texts.specs.Maps.{route_signs}
use Rattle.schedule_texts.proofs.map.route.push_all_signs.Given as goal

abbrev pub invariant-loop-route : goal.invariant-loop-route
invariant-loop-route l =
    l.out.items ++ joined_texts (route_signs l.m l.places) (drop l.route-index l.routes) ≡ l.fn.out.items ++ joined_texts (route_signs l.m l.places) l.routes
