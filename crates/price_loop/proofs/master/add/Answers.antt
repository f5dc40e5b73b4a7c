use Rattle.std.proofs.Common.{◌≡◌, ◌∙◌, ◌++◌, ◌∷◌, [], ap, Err, List, rules, subst, sym, arith}
use Rattle.std.proofs.lemmas.Grind.{common_steps}
use Rattle.fleet_model.specs.Equations.{route}
use Rattle.master_table.specs.Tableau.{Tableau}
use Rattle.master_table.specs.declared.caps.TableFault.{TableFault}
use Rattle.price_loop.specs.Masters.{IsWide}
use Rattle.price_loop.proofs.MasterColumns.{added_master, made_column}
use Rattle.price_loop.proofs.Past.{refused_column}
use Rattle.price_loop.proofs.master.add.Goals as goal

pub returns-in-Ok-clause-master : goal.returns-in-Ok-clause-master
returns-in-Ok-clause-master g c =
    let q = g.E.Earners.problem c.args.earners.now in
    let caps = c.args.master.now.table.caps in
    let pushed : c.push.new.self.items ≡ c.args.master.now.routes.items ++ c.args.route ∷ [] = search rules in
    let same = made_column q caps c.args.route c.set-set.result c.cost-cost.result c.set-set.ensures c.cost-cost.ensures in
    added_master q caps c.args.master.now (record { table = c.add_column.new.self; routes = c.push.new.self }) c.args.route (route c.set-set.result c.cost-cost.result) c.requires.master c.requires.route same c.in-Ok.ensures.ok pushed

pub returns-in_ok-basis-in-Err-Wide-clause-fault : goal.returns-in_ok-basis-in-Err-Wide-clause-fault
returns-in_ok-basis-in-Err-Wide-clause-fault g c =
    let q = g.E.Earners.problem c.args.earners.now in
    let caps = c.args.master.now.table.caps in
    let m = c.args.master.now in
    let pushed : c.push.new.self.items ≡ c.args.master.now.routes.items ++ c.args.route ∷ [] = search rules in
    let basis : c.in_ok-basis-in-Err-Wide.basis.items ≡ c.args.master.now.table.basis = c.in_ok-basis-in-Err-Wide.ensures ∙ ap (λ (t : Tableau). t.basis) c.in-Err-Wide.ensures.unchanged in
    let same = made_column q caps c.args.route c.set-set.result c.cost-cost.result c.set-set.ensures c.cost-cost.ensures in
    let wide = c.add_column.ensures.wide c.in-Err-Wide.field-0-0 c.in-Err-Wide.field-0-1 (c.in-Err-Wide.is ∙ ap (λ (f : TableFault). Err f) c.in-Err-Wide.field-0-is) in
    let past = refused_column q caps m c.requires.master (route c.set-set.result c.cost-cost.result) c.args.route c.in-Err-Wide.field-0-0 c.requires.route same c.add_column.ensures.tableau wide.0 in
    subst (λ (rs : List g.row.E-Route.Denot). IsWide q caps rs c.in_ok-basis-in-Err-Wide.basis.items) (sym pushed)
    (subst (λ bs. IsWide q caps (m.routes.items ++ c.args.route ∷ []) bs) (sym basis) past)

pub returns-in-Ok-clause-more : goal.returns-in-Ok-clause-more
returns-in-Ok-clause-more = grind (arith, common_steps)
