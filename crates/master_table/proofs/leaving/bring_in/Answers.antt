use Rattle.std.proofs.Common.{◌≡◌, rules, sym, subst}
use Rattle.master_table.specs.Tableau.{IsBasisPast}
use Rattle.master_table.specs.Pivoting.{pivoted}
use Rattle.master_table.specs.Leaving.{brought}
use Rattle.master_table.proofs.leaving.bring_in.Goals as goal

pub returns-clause-past : goal.returns-clause-past
returns-clause-past c row col e =
    let is : brought c.args.row c.args.col c.args.t.now ≡ pivoted c.args.row c.args.col c.args.t.now = search rules in
    subst (λ t. IsBasisPast t) (sym is) (c.pivot.ensures.past row col e)
