use Rattle.std.proofs.Common.{◌≡◌, ◌+◌, ◌-◌, ◌*◌, ◌^◌, get_or, min, arith, ◌∙◌}
use Rattle.decimal_import.proofs.Numbers.{number_after-min_step}
use Rattle.decimal_import.proofs.rounding.capped_number.Goals as goal

pub loop-digit-preserved : goal.loop-digit-preserved
loop-digit-preserved c =
    let next : c.min-number.result ≡ min (c.loop-digit.number * 10 + (get_or c.args.digits.now c.loop-digit.digit-index 0 - 48)) (2 ^ 70) = omega arith in
    record {
      told = rw next (number_after-min_step c.loop-digit.number (2 ^ 70) c.args.digits.now c.loop-digit.digit-index (omega arith) ∙ c.loop-digit.invariant.told);
      within = omega arith;
    }
