use Rattle.std.proofs.Common.{◌≡◌, ◌++◌, drop}
use Rattle.ev_text.specs.Texts.{joined_texts}
use Rattle.schedule_texts.specs.Spreadsheets.{record_text, visit_cells}
use Rattle.schedule_texts.proofs.spreadsheet.push_visits.Given as goal

abbrev pub invariant-loop-at : goal.invariant-loop-at
invariant-loop-at l =
    l.out.items ++ joined_texts record_text (visit_cells l.clock l.places l.denominator l.number l.at (drop l.at l.visits))
    ≡ l.fn.out.items ++ joined_texts record_text (visit_cells l.clock l.places l.denominator l.number 0 l.visits)
