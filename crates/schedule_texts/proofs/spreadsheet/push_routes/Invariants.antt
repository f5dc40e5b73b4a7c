use Rattle.std.proofs.Common.{◌≡◌, ◌++◌, drop}
use Rattle.ev_text.specs.Texts.{joined_texts}
use Rattle.schedule_texts.specs.Spreadsheets.{record_text, route_cells}
use Rattle.schedule_texts.proofs.spreadsheet.push_routes.Given as goal

abbrev pub invariant-loop-route : goal.invariant-loop-route
invariant-loop-route l =
    l.out.items ++ joined_texts record_text (route_cells l.clock l.places l.denominator (drop l.route-index l.routes))
    ≡ l.fn.out.items ++ joined_texts record_text (route_cells l.clock l.places l.denominator l.routes)
