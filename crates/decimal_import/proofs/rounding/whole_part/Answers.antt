use Rattle.std.proofs.Common.{◌^◌}
use Rattle.decimal_import.proofs.Places.{whole_part-append, whole_part-past_first, whole_part-past_second}
use Rattle.decimal_import.proofs.rounding.whole_part.Goals as goal

pub returns-in_default-clause-none : goal.returns-in_default-clause-none
returns-in_default-clause-none c =
    whole_part-past_first (10 ^ 18) c.args.point c.args.whole.now c.args.fraction.now
    (rw (← c.split_at_most.ensures.first) c.in_default.ensures.none)

pub returns-in_default-append_digits-clause-none : goal.returns-in_default-append_digits-clause-none
returns-in_default-append_digits-clause-none c =
    whole_part-past_second (10 ^ 18) c.args.point c.args.whole.now c.args.fraction.now
    (rw (← c.split_at_most.ensures.first, ← c.in-Some.ensures.some.0, ← c.saturating_sub-left.ensures, ← c.split_at_most-2.ensures.first) c.in_default-append_digits.ensures.none)

pub returns-clause-some : goal.returns-clause-some
returns-clause-some c =
    rw (whole_part-append c.args.point c.args.whole.now c.args.fraction.now, ← c.split_at_most.ensures.first, ← c.in-Some.ensures.some.0, ← c.saturating_sub-left.ensures, ← c.saturating_sub-zeros.ensures, ← c.split_at_most-2.ensures.first, ← c.in-Some-append_digits.ensures.some.0)
    c.append_zeros.ensures.some

pub returns-clause-none : goal.returns-clause-none
returns-clause-none c =
    rw (whole_part-append c.args.point c.args.whole.now c.args.fraction.now, ← c.split_at_most.ensures.first, ← c.in-Some.ensures.some.0, ← c.saturating_sub-left.ensures, ← c.saturating_sub-zeros.ensures, ← c.split_at_most-2.ensures.first, ← c.in-Some-append_digits.ensures.some.0)
    c.append_zeros.ensures.none
