use Rattle.std.proofs.Common.{arith, ap, length}
use Rattle.master_table.specs.Tableau.{Tableau}
use Rattle.master_table.proofs.TableFacts.{count_columns}
use Rattle.master_table.proofs.table.Table.columns.Goals as goal

pub returns : goal.returns
returns c =
    let all = count_columns c.self.inside in
    let same = ap (λ (t : Tableau). length t.columns) c.self.view_is in
    omega arith
