use Rattle.std.proofs.Common.{◌≡◌, ◌++◌, drop}
use Rattle.schedule_texts.specs.Maps.{rows_text}
use Rattle.schedule_texts.proofs.map.route.push_rows.Given as goal

abbrev pub invariant-loop-at : goal.invariant-loop-at
invariant-loop-at l =
    l.out.items ++ rows_text l.denominator l.at (drop l.at l.routes) ≡ l.fn.out.items ++ rows_text l.denominator 0 l.routes
