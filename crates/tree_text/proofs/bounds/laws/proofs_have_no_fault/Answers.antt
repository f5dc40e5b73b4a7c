use Rattle.tree_text.proofs.BoundLaws.{no_fault}
use Rattle.tree_text.proofs.bounds.laws.proofs_have_no_fault.Goals as goal

pub returns : goal.returns
returns c = no_fault
