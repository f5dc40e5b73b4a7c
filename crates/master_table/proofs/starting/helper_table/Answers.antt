use Rattle.std.proofs.Common.{◌≡◌, ◌∙◌, ◌+◌, ◌<◌, ◌^◌, suc, arith, rules, sym, ap, subst, take, length, get_or, [], ◌∷◌, ◌++◌, Some}
use Rattle.std.proofs.lemmas.Grind.{common_steps}
use Rattle.std.proofs.lemmas.Option.{none-some}
use Rattle.master_table.specs.Adding.{first_past_row, with_column}
use Rattle.master_table.specs.Fresh.{fresh}
use Rattle.master_table.specs.RowView.{limits_of}
use Rattle.master_table.specs.Leaving.{IsHelperTable}
use Rattle.master_table.specs.Listed.{column_of}
use Rattle.master_table.proofs.HelperTables.{fresh_helpers, never_wide, with_route}
use Rattle.master_table.proofs.Exchange.{take_last}
use Rattle.master_table.proofs.starting.helper_table.Goals as goal

pub loop-route-init : goal.loop-route-init
loop-route-init c =
    let is : c.in-Ok.table ≡ fresh c.args.n (limits_of c.args.caps) = search rules in
    subst (λ t. IsHelperTable c.args.n (limits_of c.args.caps) [] t) (sym is) (fresh_helpers c.args.n (limits_of c.args.caps))

pub unreachable-requires-in-Err-Wide-add_column : goal.unreachable-requires-in-Err-Wide-add_column
unreachable-requires-in-Err-Wide-add_column c =
    let wide : first_past_row (column_of c.route-item.result) c.loop-route.table ≡ Some c.in-Err-Wide-add_column.field-0-0 = search rules in
    let range : c.route-item.result.time < 2 ^ 64 = search rules in
    let cost = c.requires.cost in
    let few = c.requires.customers in
    let none = never_wide c.args.n (limits_of c.args.caps) (take c.loop-route.route-index c.args.routes.now) c.loop-route.table c.loop-route.invariant (column_of c.route-item.result) c.requires.body (omega arith) (omega arith) in
    absurd (none-some c.in-Err-Wide-add_column.field-0-0 (sym none ∙ wide))

pub loop-route-preserved : goal.loop-route-preserved
loop-route-preserved c =
    let i = c.loop-route.route-index in
    let routes = c.args.routes.now in
    let is : c.add_column.new.self ≡ with_column (column_of c.route-item.result) c.loop-route.table = search rules in
    let made = with_route c.args.n (limits_of c.args.caps) (take i routes) c.loop-route.table c.loop-route.invariant c.route-item.result c.add_column.ensures.tableau in
    let inside : c.loop-route.route-index < length c.args.routes.now = search (rules, arith) in
    let item : get_or c.args.routes.now c.loop-route.route-index c.route-item.result ≡ c.route-item.result = search rules in
    let one : suc c.loop-route.route-index ≡ c.loop-route.route-index + 1 = omega arith in
    let more : take (i + 1) routes ≡ take i routes ++ c.route-item.result ∷ [] = ap (λ k. take k routes) (sym one) ∙ take_last routes i c.route-item.result inside ∙ ap (λ x. take i routes ++ x ∷ []) item in
    subst (λ t. IsHelperTable c.args.n (limits_of c.args.caps) (take (i + 1) routes) t) (sym is)
    (subst (λ xs. IsHelperTable c.args.n (limits_of c.args.caps) xs (with_column (column_of c.route-item.result) c.loop-route.table)) (sym more) made)

pub returns : goal.returns
returns = grind (arith, common_steps)
