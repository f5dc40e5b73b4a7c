use Rattle.std.proofs.Common.{◌≡◌, drop}
use Rattle.decimal_import.specs.Digits.{number_of}
use Rattle.decimal_import.proofs.rounding.are_zeros.Given as goal

abbrev pub invariant-loop-digit : goal.invariant-loop-digit
invariant-loop-digit l = number_of (drop l.digit-index l.digits) ≡ number_of l.digits
