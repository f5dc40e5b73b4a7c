use Rattle.tree_text.proofs.BoundLaws.{one_read}
use Rattle.tree_text.proofs.bounds.reading.read_bound_proof.Goals as goal

pub returns-then-begins_tree-clause-one : goal.returns-then-begins_tree-clause-one
returns-then-begins_tree-clause-one c = one_read c.args.inst.now c.args.bytes.now c.tree_of.result c.tree_of.ensures.has

pub returns-clause-one : goal.returns-clause-one
returns-clause-one c = one_read c.args.inst.now c.args.bytes.now c.near_of.result c.near_of.ensures.has
