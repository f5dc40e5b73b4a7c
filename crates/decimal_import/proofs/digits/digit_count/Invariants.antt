use Rattle.std.proofs.Common.{◌≡◌, ◌+◌, ◌++◌, length, take, drop}
use Rattle.decimal_import.specs.Digits.{digits_in_front}
use Rattle.decimal_import.proofs.digits.digit_count.Given as goal

-- what stands before the index and the digits behind it are the digits in front
abbrev pub invariant-loop-index : goal.invariant-loop-index
invariant-loop-index l = record {
  count : l.index + length (digits_in_front (drop l.index l.bytes)) ≡ length (digits_in_front l.bytes);
  front : take l.index l.bytes ++ digits_in_front (drop l.index l.bytes) ≡ digits_in_front l.bytes;
}
