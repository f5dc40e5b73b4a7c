use Rattle.std.proofs.Common.{◌≡◌, FitsSigned, ℤ, arith, of_z, rules, subst, sym, to_z}
use Rattle.std.specs.Int.{w128}
use Rattle.std.proofs.lemmas.Int.{ints}
use Rattle.report_lines.specs.Fractions.{IsLowest}
use Rattle.plan_writer.proofs.fleet.RootLine.exact.Goals as goal

pub returns-clause-lowest : goal.returns-clause-lowest
returns-clause-lowest c =
    let fits : FitsSigned w128 c.lowest_terms-p.result.p = search rules in
    let back : to_z w128 (of_z w128 c.lowest_terms-p.result.p) ≡ c.lowest_terms-p.result.p = omega (arith, ints) in
    subst (λ (z : ℤ). IsLowest z c.lowest_terms-p.result.q) (sym back) c.lowest_terms-p.ensures.lowest
