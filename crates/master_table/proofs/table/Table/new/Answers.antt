use Rattle.master_table.specs.declared.table.Table.TheInside.{Inside}
use Rattle.master_table.proofs.TableFacts.{fresh_is, fresh_table}
use Rattle.master_table.proofs.table.Table.new.Goals as goal

pub invariant_of-result : goal.invariant_of-result
invariant_of-result c = fresh_table _ c.args.n c.requires.customers c.in_ok-rows.ensures c.in_ok-basis.ensures c.new.ensures.items c.requires.body c.requires.body_cap c.requires.cost c.requires.cost_cap c.requires.room

pub returns-clause-value : goal.returns-clause-value
returns-clause-value c =
    let s : Inside = record { rows = c.in_ok-rows.rows; basis = c.in_ok-basis.basis; added = c.new.result; caps = c.args.caps } in
    fresh_is s c.args.n c.requires.customers c.in_ok-rows.ensures c.in_ok-basis.ensures c.new.ensures.items
