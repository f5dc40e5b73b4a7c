use Rattle.std.proofs.Common.{◌≡◌, ◌^◌, ◌≤◌, drop}
use Rattle.decimal_import.specs.Digits.{number_after}
use Rattle.decimal_import.proofs.rounding.append_digits.Given as goal

abbrev pub invariant-loop-digit : goal.invariant-loop-digit
invariant-loop-digit l = record {
  told : number_after l.number (drop l.digit-index l.digits) ≡ number_after l.start l.digits;
  within : l.number ≤ 10 ^ 18;
}
