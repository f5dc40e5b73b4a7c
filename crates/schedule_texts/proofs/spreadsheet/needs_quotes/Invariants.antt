use Rattle.std.proofs.Common.{◌≡◌, drop}
use Rattle.std.specs.List.{list_any}
use Rattle.schedule_texts.specs.Spreadsheets.{calls_for_quotes}
use Rattle.schedule_texts.proofs.spreadsheet.needs_quotes.Given as goal

abbrev pub invariant-loop-byte : goal.invariant-loop-byte
invariant-loop-byte l =
    list_any calls_for_quotes (drop l.byte-index l.cell) ≡ list_any calls_for_quotes l.cell
