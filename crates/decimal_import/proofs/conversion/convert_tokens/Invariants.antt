use Rattle.std.proofs.Common.{◌≡◌, ◌-◌, ◌≤◌, [], length}
use Rattle.decimal_import.specs.Conversion.{converted_from}
use Rattle.decimal_import.specs.Progress.{outcome}
use Rattle.decimal_import.proofs.conversion.convert_tokens.Given as goal

-- the conversion comes to what it comes to from the beginning
abbrev pub invariant-loop-rest : goal.invariant-loop-rest
invariant-loop-rest l = record {
  told : outcome l.conversion (length l.bytes - length l.rest) l.rest ≡ converted_from l.fn.digits 0 [] l.bytes;
  within : length l.rest ≤ length l.bytes;
}

abbrev pub decreases-loop-rest : goal.decreases-loop-rest
decreases-loop-rest l = length l.rest
