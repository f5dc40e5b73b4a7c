use Rattle.std.proofs.Common.{◌≡◌, ◌++◌, drop, map}
use Rattle.schedule_texts.specs.Spreadsheets.{cell_of, more_fields}
use Rattle.schedule_texts.proofs.spreadsheet.push_more.Given as goal

abbrev pub invariant-loop-text : goal.invariant-loop-text
invariant-loop-text l =
    l.out.items ++ more_fields (map cell_of (map (λ t. t.now) (drop l.text-index l.texts)))
    ≡ l.fn.out.items ++ more_fields (map cell_of (map (λ t. t.now) l.texts))
