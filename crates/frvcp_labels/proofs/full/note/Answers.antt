use Rattle.std.proofs.Common.{arith}
use Rattle.std.proofs.lemmas.Grind.{elements}
use Rattle.frvcp_labels.proofs.full.note.Goals as goal

pub returns-then-is_sooner-clause-noted : goal.returns-then-is_sooner-clause-noted
returns-then-is_sooner-clause-noted = grind (arith, elements)
