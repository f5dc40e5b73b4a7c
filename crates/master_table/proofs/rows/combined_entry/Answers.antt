use Rattle.std.proofs.Common.{◌≡◌, ◌≤◌, ◌^◌, ◌*ℤ◌, ◌-ℤ◌, ◌*◌, arith, rules, FitsSigned, to_z, of_z, refl}
use Rattle.std.proofs.lemmas.Grind.{common_steps}
use Rattle.std.specs.Int.{w128}
use Rattle.std.specs.Prelude.{unsigned_abs}
use Rattle.std.proofs.lemmas.Int.{ints, to_z-of_z}
use Rattle.master_table.proofs.Products.{small_product}
use Rattle.master_table.proofs.rows.combined_entry.Goals as goal

pub overflow_sub-result : goal.overflow_sub-result
overflow_sub-result c =
    let a : FitsSigned w128 c.args.own = c.ranges.own in
    let b : FitsSigned w128 c.args.x = c.ranges.x in
    let d : FitsSigned w128 c.args.by = c.ranges.by in
    let e : FitsSigned w128 c.args.y = c.ranges.y in
    let first : c.times-left.result ≡ c.args.own *ℤ c.args.x = simp to_z-of_z at c.times-left.ensures in
    let second : c.times-right.result ≡ c.args.by *ℤ c.args.y = simp to_z-of_z at c.times-right.ensures in
    let l : FitsSigned w128 c.times-left.result = search rules in
    let r : FitsSigned w128 c.times-right.result = search rules in
    let left : unsigned_abs c.times-left.result ≤ 2 ^ 40 * 2 ^ 84 = small_product c.args.own c.args.x _ (2 ^ 40) (2 ^ 84) first (omega arith) (omega arith) in
    let right : unsigned_abs c.times-right.result ≤ 2 ^ 125 = small_product c.args.by c.args.y _ (2 ^ 85) (2 ^ 40) second (omega arith) (omega arith) in
    omega (arith, ints)

pub returns : goal.returns
returns c =
    let a : FitsSigned w128 c.args.own = c.ranges.own in
    let b : FitsSigned w128 c.args.x = c.ranges.x in
    let d : FitsSigned w128 c.args.by = c.ranges.by in
    let e : FitsSigned w128 c.args.y = c.ranges.y in
    let first : c.times-left.result ≡ c.args.own *ℤ c.args.x = simp to_z-of_z at c.times-left.ensures in
    let second : c.times-right.result ≡ c.args.by *ℤ c.args.y = simp to_z-of_z at c.times-right.ensures in
    let l : FitsSigned w128 c.times-left.result = search rules in
    let r : FitsSigned w128 c.times-right.result = search rules in
    let left : unsigned_abs c.times-left.result ≤ 2 ^ 40 * 2 ^ 84 = small_product c.args.own c.args.x _ (2 ^ 40) (2 ^ 84) first (omega arith) (omega arith) in
    let right : unsigned_abs c.times-right.result ≤ 2 ^ 125 = small_product c.args.by c.args.y _ (2 ^ 85) (2 ^ 40) second (omega arith) (omega arith) in
    let difference : to_z w128 (of_z w128 (to_z w128 (of_z w128 c.times-left.result) -ℤ to_z w128 (of_z w128 c.times-right.result))) ≡ c.times-left.result -ℤ c.times-right.result = omega (arith, ints) in
    rw (difference, first, second) refl

pub times-right-requires : goal.times-right-requires
times-right-requires = grind (arith, common_steps)

pub times-left-requires : goal.times-left-requires
times-left-requires = grind (arith, common_steps)
