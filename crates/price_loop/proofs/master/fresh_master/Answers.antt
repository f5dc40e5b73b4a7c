use Rattle.master_table.specs.RowView.{limits_of}
use Rattle.price_loop.proofs.MasterColumns.{fresh_master}
use Rattle.price_loop.proofs.master.fresh_master.Goals as goal

pub returns-in-Ok-clause-master : goal.returns-in-Ok-clause-master
returns-in-Ok-clause-master g c =
    fresh_master (g.E.Earners.problem c.args.earners.now) (limits_of c.args.caps) c.customers.result (record { table = c.in-Ok.table; routes = c.new-in-Ok.result }) c.customers.ensures.value c.in-Ok.ensures.value c.new-in-Ok.ensures.items c.requires.body_cap c.requires.cost_cap
