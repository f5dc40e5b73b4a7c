use Rattle.std.proofs.Common.{◌∙◌, ap, Err, arith}
use Rattle.std.proofs.lemmas.Grind.{common_steps}
use Rattle.master_simplex.specs.declared.fault.LpFault.{LpFault}
use Rattle.price_loop.proofs.Past.{refused_basis}
use Rattle.price_loop.proofs.master.solve_master.Goals as goal

pub returns-in-Err-Wide-clause-fault : goal.returns-in-Err-Wide-clause-fault
returns-in-Err-Wide-clause-fault g c =
    refused_basis (g.E.Earners.problem c.args.earners.now) c.args.master.now.table.caps c.args.master.now c.requires c.solve.new.t c.in-Err-Wide.basis.items c.solve.ensures.reached (c.solve.ensures.wide c.in-Err-Wide.basis (c.in-Err-Wide.is ∙ ap (λ (f : LpFault). Err f) c.in-Err-Wide.field-0-is))

pub returns-in-Err-Wide-clause-master : goal.returns-in-Err-Wide-clause-master
returns-in-Err-Wide-clause-master = grind (arith, common_steps)

pub returns-in-Ok-clause-master : goal.returns-in-Ok-clause-master
returns-in-Ok-clause-master = grind (arith, common_steps)

pub returns-in-Err-Memory-clause-master : goal.returns-in-Err-Memory-clause-master
returns-in-Err-Memory-clause-master = grind (arith, common_steps)
