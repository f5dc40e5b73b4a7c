use Rattle.std.proofs.Common.{◌≡◌, ◌++◌, drop}
use Rattle.schedule_texts.specs.Spreadsheets.{doubled}
use Rattle.schedule_texts.proofs.spreadsheet.push_doubled.Given as goal

abbrev pub invariant-loop-byte : goal.invariant-loop-byte
invariant-loop-byte l =
    l.out.items ++ doubled (drop l.byte-index l.text) ≡ l.fn.out.items ++ doubled l.text
