use Rattle.std.proofs.Common.{◌≡◌, arith, rules, FitsSigned, pos, ◌≤ℤ◌}
use Rattle.std.proofs.lemmas.Grind.{common_steps}
use Rattle.std.specs.Int.{w128}
use Rattle.std.proofs.lemmas.Int.{ints}
use Rattle.master_simplex.specs.Phase.{gain}
use Rattle.master_simplex.proofs.EnteringColumns.{gaining_keep}
use Rattle.master_simplex.proofs.phase.better.Goals as goal

pub returns-then-gain-le0 : goal.returns-then-gain-le0
returns-then-gain-le0 c =
    let fits : FitsSigned w128 c.gain.result = search rules in
    let is : c.gain.result ≡ gain c.args.goal c.args.t.now c.args.col = search rules in
    let none : gain c.args.goal c.args.t.now c.args.col ≤ℤ pos 0 = omega (arith, ints) in
    gaining_keep c.args.goal c.args.t.now c.args.col c.args.best c.requires.before none

pub returns : goal.returns
returns = grind (arith, common_steps)
