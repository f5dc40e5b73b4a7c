use Rattle.decimal_import.proofs.Places.{behind_point-zero}
use Rattle.decimal_import.proofs.rounding.is_whole.Goals as goal

pub returns-then-are_zeros : goal.returns-then-are_zeros
returns-then-are_zeros c =
    let both = rw (← c.saturating_sub-left.ensures, ← c.split_at_most-then-are_zeros.ensures.others, ← c.split_at_most.ensures.others) at (behind_point-zero c.args.point c.args.whole.now c.args.fraction.now) in
    (λ second. both.1 (c.are_zeros.ensures.0 c.if-are_zeros.true, c.are_zeros-then-are_zeros.ensures.0 second), λ none. c.are_zeros-then-are_zeros.ensures.1 (both.0 none).1)

pub returns-else-are_zeros : goal.returns-else-are_zeros
returns-else-are_zeros c =
    let both = rw (← c.split_at_most.ensures.others) at (behind_point-zero c.args.point c.args.whole.now c.args.fraction.now) in
    (λ first. absurd (cc (first, c.if-are_zeros.false)), λ none. c.are_zeros.ensures.1 (both.0 none).0)
