use Rattle.std.proofs.Common.{arith}
use Rattle.std.proofs.lemmas.Grind.{common_steps}
use Rattle.master_table.proofs.PastCaps.{basis_of}
use Rattle.master_table.proofs.TableFacts.{tableau}
use Rattle.master_table.proofs.table.Table.rows.Goals as goal

pub returns-clause-basis : goal.returns-clause-basis
returns-clause-basis c = basis_of c.args.self.now (tableau c.self.inside c.args.self.now c.self.view_is c.self.invariant)

pub returns-clause-tableau : goal.returns-clause-tableau
returns-clause-tableau = grind (arith, common_steps)
