use Rattle.std.proofs.Common.{◌≡◌, ◌*◌, ◌^◌, ◌≤◌}
use Rattle.decimal_import.proofs.rounding.append_zeros.Given as goal

abbrev pub invariant-loop : goal.invariant-loop
invariant-loop l = record {
  told : l.number ≡ l.start * 10 ^ l.counter;
  within : l.number ≤ 10 ^ 18;
}
