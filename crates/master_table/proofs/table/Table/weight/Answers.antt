use Rattle.std.proofs.Common.{◌≡◌, ◌≤◌, ◌^◌, arith, length, pos, unsigned_abs, ◌<ℤ◌, FitsSigned}
use Rattle.std.proofs.lemmas.Grind.{common_steps}
use Rattle.std.proofs.lemmas.Int.{ints, to_z-of_z}
use Rattle.std.specs.Int.{w128}
use Rattle.master_table.proofs.TableFacts.{weight_facts}
use Rattle.master_table.proofs.table.Table.weight.Goals as goal

pub overflow_cast-result : goal.overflow_cast-result
overflow_cast-result c =
    let n : c.len.result ≡ length c.self.inside.basis.items = omega arith in
    let facts = weight_facts c.self.inside c.args.self.now c.self.view_is c.self.invariant c.len.result n c.index.result.now c.index.ensures in
    let above : pos 0 <ℤ c.index.result.now.weight = facts.0 in
    let small : unsigned_abs c.index.result.now.weight ≤ 2 ^ 40 = facts.1 in
    let fits : FitsSigned w128 c.index.result.now.weight = omega (arith, ints) in
    simp to_z-of_z (omega (arith, ints))

pub index-requires : goal.index-requires
index-requires = grind (arith, common_steps)

pub returns-clause-positive : goal.returns-clause-positive
returns-clause-positive = grind (arith, common_steps)

pub returns-clause-value : goal.returns-clause-value
returns-clause-value = grind (arith, common_steps)
