use Rattle.std.proofs.Common.{◌≡◌, ◌∙◌, sym, arith, rules, FitsSigned, int_div, ◌*ℤ◌, to_z, of_z}
use Rattle.std.proofs.lemmas.Grind.{common_steps}
use Rattle.std.specs.Int.{w128}
use Rattle.std.proofs.lemmas.Int.{ints, quot_is, quot_fits, to_z-of_z}
use Rattle.master_table.proofs.Quotients.{exact_quotient}
use Rattle.master_table.proofs.rows.quotient.Goals as goal

pub returns-then-times-x : goal.returns-then-times-x
returns-then-times-x c =
    let x : FitsSigned w128 c.args.x = c.ranges.x in
    let d : FitsSigned w128 c.args.d = c.ranges.d in
    let g : FitsSigned w128 c.guess-guess.result = search rules in
    let p : FitsSigned w128 c.times.result = search rules in
    let product : c.times.result ≡ c.guess-guess.result *ℤ c.args.d = simp to_z-of_z at c.times.ensures in
    let same : c.times.result ≡ c.args.x = search rules in
    let back : to_z w128 (of_z w128 c.guess-guess.result) ≡ c.guess-guess.result = omega (arith, ints) in
    back ∙ sym (exact_quotient c.args.x c.guess-guess.result c.args.d c.requires (sym product ∙ same))

pub returns : goal.returns
returns c =
    let x : FitsSigned w128 c.args.x = c.ranges.x in
    let d : FitsSigned w128 c.args.d = c.ranges.d in
    let fits : FitsSigned w128 (int_div c.args.x c.args.d) = quot_fits w128 c.args.x c.args.d x c.requires in
    quot_is w128 c.args.x c.args.d x d fits

pub nonzero_div-result : goal.nonzero_div-result
nonzero_div-result = grind (arith, common_steps)

pub times-requires : goal.times-requires
times-requires = grind (arith, common_steps)
