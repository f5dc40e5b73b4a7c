use Rattle.std.proofs.Common.{◌≡◌, ◌++◌, drop}
use Rattle.schedule_texts.specs.Tables.{rows_text}
use Rattle.schedule_texts.proofs.table.push_rows.Given as goal

abbrev pub invariant-loop-at : goal.invariant-loop-at
invariant-loop-at l =
    l.out.items ++ rows_text l.columns l.places l.at (drop l.at l.visits) ≡ l.fn.out.items ++ rows_text l.columns l.places 0 l.visits
