use Rattle.std.proofs.Common.{◌≡◌, drop}
use Rattle.decimal_import.specs.Token.{is_colon_next_in}
use Rattle.decimal_import.proofs.token.is_colon_next.Given as goal

abbrev pub invariant-loop-byte : goal.invariant-loop-byte
invariant-loop-byte l = is_colon_next_in (drop l.byte-index l.bytes) ≡ is_colon_next_in l.bytes
