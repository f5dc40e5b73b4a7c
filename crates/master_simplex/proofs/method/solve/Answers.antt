use Rattle.std.proofs.Common.{◌+◌, pos, ◌≤ℤ◌, rules, arith}
use Rattle.std.proofs.lemmas.Grind.{common_steps}
use Rattle.master_table.specs.Tableau.{row_at, size}
use Rattle.master_simplex.proofs.HelperStarts.{driven}
use Rattle.master_simplex.proofs.Tables.{then_reached}
use Rattle.master_simplex.proofs.method.solve.Goals as goal

pub bring_cost_down-requires : goal.bring_cost_down-requires
bring_cost_down-requires c =
    let t = c.bring_helpers_down.new.t in
    let none : (row_at c.bring_helpers_down.new.t (size c.bring_helpers_down.new.t + 1)).right ≤ℤ pos 0 = search rules in
    driven t c.has_helper_shares.ensures.tableau c.in_ok-bring_helpers_down.ensures.feasible none

pub returns-in_err-bring_cost_down-clause-reached : goal.returns-in_err-bring_cost_down-clause-reached
returns-in_err-bring_cost_down-clause-reached c =
    then_reached c.args.t.now c.bring_helpers_down.new.t c.bring_cost_down.new.t c.bring_helpers_down.ensures.reached c.bring_cost_down.ensures.reached

pub returns-clause-reached : goal.returns-clause-reached
returns-clause-reached c =
    then_reached c.args.t.now c.bring_helpers_down.new.t c.bring_cost_down.new.t c.bring_helpers_down.ensures.reached c.bring_cost_down.ensures.reached

pub ray-requires-clause-shares : goal.ray-requires-clause-shares
ray-requires-clause-shares = grind (arith, common_steps)

pub returns-then-has_helper_shares-clause-wide : goal.returns-then-has_helper_shares-clause-wide
returns-then-has_helper_shares-clause-wide = grind (arith, common_steps)
