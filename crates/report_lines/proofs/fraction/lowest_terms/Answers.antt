use Rattle.std.proofs.Common.{ℕ, subst}
use Rattle.std.specs.Int.{IsGcd}
use Rattle.report_lines.proofs.fraction.lowest_terms.Goals as goal

pub divided-requires-clause-greatest : goal.divided-requires-clause-greatest
divided-requires-clause-greatest c =
    subst (λ (n : ℕ). IsGcd n c.args.part c.common_divisor-divisor.result) c.unsigned_abs.ensures.value
    c.common_divisor-divisor.ensures.greatest
