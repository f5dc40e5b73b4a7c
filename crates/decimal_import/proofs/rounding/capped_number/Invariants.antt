use Rattle.std.proofs.Common.{◌≡◌, ◌^◌, ◌≤◌, drop, min}
use Rattle.decimal_import.specs.Digits.{number_after}
use Rattle.decimal_import.proofs.rounding.capped_number.Given as goal

abbrev pub invariant-loop-digit : goal.invariant-loop-digit
invariant-loop-digit l = record {
  told : min (number_after l.number (drop l.digit-index l.digits)) (2 ^ 70) ≡ min (number_after 0 l.digits) (2 ^ 70);
  within : l.number ≤ 2 ^ 70;
}
