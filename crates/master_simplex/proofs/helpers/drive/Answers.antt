use Rattle.std.proofs.Common.{◌<◌, arith, rules, get_or, ◌+◌}
use Rattle.master_table.specs.Tableau.{size}
use Rattle.master_table.specs.Pivoting.{IsPivotOf}
use Rattle.master_simplex.specs.Phase.{IsDriven}
use Rattle.master_simplex.proofs.HelperStarts.{driven_after, driven_same, on_ok}
use Rattle.master_simplex.proofs.helpers.drive.Goals as goal

pub returns-in_default-clause-driven : goal.returns-in_default-clause-driven
returns-in_default-clause-driven c =
    driven_same c.args.t.now c.args.row c.rows-n.ensures.tableau c.requires.row c.requires.driven (λ helped. search rules)

pub returns-clause-driven : goal.returns-clause-driven
returns-clause-driven c =
    let gains = c.in-Some.ensures.some in
    let helped : get_or c.args.t.now.basis c.args.row 0 < size c.args.t.now = search (rules, arith) in
    on_ok c.exchange.result (IsPivotOf c.args.row c.in-Some.col c.args.t.now c.exchange.new.t) (IsDriven c.exchange.new.t (c.args.row + 1)) c.exchange.ensures.ok
    (λ pivot. driven_after c.args.t.now c.exchange.new.t c.args.row c.in-Some.col c.requires.row gains.0 pivot c.requires.driven helped)
