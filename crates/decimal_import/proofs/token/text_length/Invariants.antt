use Rattle.std.proofs.Common.{◌≡◌, drop, false}
use Rattle.decimal_import.specs.Token.{closing_quote}
use Rattle.decimal_import.proofs.token.text_length.Given as goal

abbrev pub invariant-loop-index : goal.invariant-loop-index
invariant-loop-index l = closing_quote l.is_escaped l.index (drop l.index l.bytes) ≡ closing_quote false 0 l.bytes
