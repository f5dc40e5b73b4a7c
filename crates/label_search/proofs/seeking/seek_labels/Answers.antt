use Rattle.std.proofs.Common.{arith}
use Rattle.std.proofs.lemmas.Grind.{elements}
use Rattle.label_search.proofs.seeking.seek_labels.Goals as goal

pub returns : goal.returns
returns = grind (arith, elements)
