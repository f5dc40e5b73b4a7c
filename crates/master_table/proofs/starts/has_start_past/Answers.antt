use Rattle.std.proofs.Common.{◌<◌, rules, sym, subst, map, get_or, IfOk, IsTrue, IsFalse}
use Rattle.fleet_model.specs.Equations.{column_at}
use Rattle.master_table.specs.RowView.{limits_of}
use Rattle.master_table.specs.Tableau.{Limits, size}
use Rattle.master_table.specs.Leaving.{IsHelperTable}
use Rattle.master_table.specs.Starts.{HasStartPast}
use Rattle.master_table.proofs.HelperTables.{count_columns, first_start, size_of}
use Rattle.master_table.proofs.starts.has_start_past.Goals as goal

pub table_has_start_past-requires-clause-start : goal.table_has_start_past-requires-clause-start
table_has_start_past-requires-clause-start c =
    let h : IsHelperTable c.args.n (limits_of c.args.caps) c.args.routes.now c.in_ok-table.table = search rules in
    first_start c.args.n (limits_of c.args.caps) c.args.routes.now c.in_ok-table.table h c.args.entries.now

pub table_has_start_past-requires-clause-entries :
    goal.table_has_start_past-requires-clause-entries
table_has_start_past-requires-clause-entries c k d lt =
    let h : IsHelperTable c.args.n (limits_of c.args.caps) c.args.routes.now c.in_ok-table.table = search rules in
    subst (λ m. get_or c.args.entries.now k d < m) (sym (count_columns c.args.n (limits_of c.args.caps) c.args.routes.now c.in_ok-table.table h)) (c.requires.entries k d lt)

pub returns-clause-past : goal.returns-clause-past
returns-clause-past c =
    let h : IsHelperTable c.args.n (limits_of c.args.caps) c.args.routes.now c.in_ok-table.table = search rules in
    let t = c.in_ok-table.table in
    let entries = c.args.entries.now in
    subst (λ columns. IfOk c.table_has_start_past.result (λ answer. IsTrue answer → HasStartPast c.args.caps.body c.args.caps.cost c.args.n columns (map (column_at columns) c.args.entries.now))) h.columns
    (subst (λ n. IfOk c.table_has_start_past.result (λ answer. IsTrue answer → HasStartPast c.args.caps.body c.args.caps.cost n c.in_ok-table.table.columns (map (column_at c.in_ok-table.table.columns) c.args.entries.now)))
    (size_of c.args.n (limits_of c.args.caps) c.args.routes.now c.in_ok-table.table h)
    (subst (λ (caps : Limits). IfOk c.table_has_start_past.result (λ answer. IsTrue answer → HasStartPast caps.body caps.cost (size c.in_ok-table.table) c.in_ok-table.table.columns (map (column_at c.in_ok-table.table.columns) c.args.entries.now)))
    h.limits c.table_has_start_past.ensures.past))

pub returns-clause-within : goal.returns-clause-within
returns-clause-within c =
    let h : IsHelperTable c.args.n (limits_of c.args.caps) c.args.routes.now c.in_ok-table.table = search rules in
    subst (λ columns. IfOk c.table_has_start_past.result (λ answer. IsFalse answer → HasStartPast c.args.caps.body c.args.caps.cost c.args.n columns (map (column_at columns) c.args.entries.now) → ⊥)) h.columns
    (subst (λ n. IfOk c.table_has_start_past.result (λ answer. IsFalse answer → HasStartPast c.args.caps.body c.args.caps.cost n c.in_ok-table.table.columns (map (column_at c.in_ok-table.table.columns) c.args.entries.now) → ⊥))
    (size_of c.args.n (limits_of c.args.caps) c.args.routes.now c.in_ok-table.table h)
    (subst (λ (caps : Limits). IfOk c.table_has_start_past.result (λ answer. IsFalse answer → HasStartPast caps.body caps.cost (size c.in_ok-table.table) c.in_ok-table.table.columns (map (column_at c.in_ok-table.table.columns) c.args.entries.now) → ⊥))
    h.limits c.table_has_start_past.ensures.within))
