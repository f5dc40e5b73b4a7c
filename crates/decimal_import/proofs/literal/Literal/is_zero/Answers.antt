use Rattle.decimal_import.proofs.Places.{number_of-append_zero}
use Rattle.decimal_import.proofs.literal.Literal.is_zero.Goals as goal

pub returns-then-are_zeros : goal.returns-then-are_zeros
returns-then-are_zeros c =
    let both = number_of-append_zero c.args.self.now.whole.now c.args.self.now.fraction.now in
    (λ second. both.1 (c.are_zeros.ensures.0 c.if-are_zeros.true, c.are_zeros-then-are_zeros.ensures.0 second), λ none. c.are_zeros-then-are_zeros.ensures.1 (both.0 none).1)

pub returns-else-are_zeros : goal.returns-else-are_zeros
returns-else-are_zeros c =
    let both = number_of-append_zero c.args.self.now.whole.now c.args.self.now.fraction.now in
    (λ first. absurd (cc (first, c.if-are_zeros.false)), λ none. c.are_zeros.ensures.1 (both.0 none).0)
