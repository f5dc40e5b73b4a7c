use Rattle.std.proofs.Common.{◌≡◌, ◌≢◌, arith, rules, ap₂, FitsSigned, to_z, of_z, ◌*ℤ◌, ◌-ℤ◌, sym, ◌∙◌, Some}
use Rattle.std.proofs.lemmas.Grind.{common_steps}
use Rattle.std.specs.Int.{w128}
use Rattle.std.specs.Int.Signed.{lt_z}
use Rattle.std.proofs.lemmas.Int.{ints, to_z-of_z}
use Rattle.master_simplex.proofs.Choice.{less_of}
use Rattle.master_simplex.proofs.ratio.less.Goals as goal

pub returns : goal.returns
returns c =
    let a : FitsSigned w128 c.args.other = c.ranges.other in
    let b : FitsSigned w128 c.args.x = c.ranges.x in
    let d : FitsSigned w128 c.args.own = c.ranges.own in
    let e : FitsSigned w128 c.args.y = c.ranges.y in
    let first : c.times-left.result ≡ c.args.other *ℤ c.args.x = simp to_z-of_z at c.times-left.ensures in
    let second : c.times-right.result ≡ c.args.own *ℤ c.args.y = simp to_z-of_z at c.times-right.ensures in
    let l : FitsSigned w128 c.times-left.result = search rules in
    let r : FitsSigned w128 c.times-right.result = search rules in
    let left : to_z w128 (of_z w128 c.times-left.result) ≡ c.times-left.result = omega (arith, ints) in
    let right : to_z w128 (of_z w128 c.times-right.result) ≡ c.times-right.result = omega (arith, ints) in
    let apart : c.times-left.result ≢ c.times-right.result = search rules in
    ap₂ (λ x y. Some (lt_z x y)) left right
    ∙ less_of c.times-left.result c.times-right.result (c.args.other *ℤ c.args.x -ℤ c.args.own *ℤ c.args.y) (sym (ap₂ (λ x y. x -ℤ y) first second)) apart

pub times-left-requires : goal.times-left-requires
times-left-requires = grind (arith, common_steps)

pub times-right-requires : goal.times-right-requires
times-right-requires = grind (arith, common_steps)
