use Rattle.std.proofs.Common.{rules, arith}
use Rattle.std.proofs.lemmas.Grind.{common_steps}
use Rattle.master_simplex.proofs.LeavingRows.{same_order}
use Rattle.master_simplex.proofs.ratio.precedes.Goals as goal

pub returns : goal.returns
returns c =
    let same = same_order c.args.t.now c.args.col c.args.i c.args.r c.args.places.now in
    search rules

pub entries_precede-requires-clause-placed : goal.entries_precede-requires-clause-placed
entries_precede-requires-clause-placed = grind (arith, common_steps)
