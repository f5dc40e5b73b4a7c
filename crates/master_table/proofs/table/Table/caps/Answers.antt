use Rattle.master_table.proofs.TableFacts.{body_cap, cost_cap}
use Rattle.master_table.proofs.table.Table.caps.Goals as goal

pub returns-clause-body : goal.returns-clause-body
returns-clause-body c = body_cap c.self.inside c.args.self.now c.self.view_is c.self.invariant

pub returns-clause-cost : goal.returns-clause-cost
returns-clause-cost c = cost_cap c.self.inside c.args.self.now c.self.view_is c.self.invariant
