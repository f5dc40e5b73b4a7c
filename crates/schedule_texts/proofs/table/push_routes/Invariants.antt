use Rattle.std.proofs.Common.{◌≡◌, ◌++◌, drop}
use Rattle.ev_text.specs.Texts.{joined_texts}
use Rattle.schedule_texts.specs.Tables.{route_text}
use Rattle.schedule_texts.proofs.table.push_routes.Given as goal

abbrev pub invariant-loop-route : goal.invariant-loop-route
invariant-loop-route l =
    l.out.items ++ joined_texts (route_text l.columns l.places) (drop l.route-index l.routes) ≡ l.fn.out.items ++ joined_texts (route_text l.columns l.places) l.routes
