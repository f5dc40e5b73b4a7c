use Rattle.std.proofs.Common.{rules}
use Rattle.tree_text.proofs.BoundLaws.{accepted_where_unbroken}
use Rattle.tree_text.specs.BoundVerdicts.{IsBoundVerdict}
use Rattle.tree_text.specs.declared.bounds.judging.BoundVerdict.TheVariants.{Near, Tree}
use Rattle.tree_text.proofs.bounds.judging.check_bound_proof.Goals as goal

pub returns-in_ok-check_near-in-Near-clause-accepted : goal.returns-in_ok-check_near-in-Near-clause-accepted
returns-in_ok-check_near-in-Near-clause-accepted c =
    let is : IsBoundVerdict c.args.inst.now c.args.proof.now (Near c.in_ok-check_near-in-Near.field-0) = search rules in
    accepted_where_unbroken c.args.inst.now c.args.proof.now (Near c.in_ok-check_near-in-Near.field-0) is

pub returns-in_ok-check_tree-in-Tree-clause-accepted : goal.returns-in_ok-check_tree-in-Tree-clause-accepted
returns-in_ok-check_tree-in-Tree-clause-accepted c =
    let is : IsBoundVerdict c.args.inst.now c.args.proof.now (Tree c.in_ok-check_tree-in-Tree.field-0) = search rules in
    accepted_where_unbroken c.args.inst.now c.args.proof.now (Tree c.in_ok-check_tree-in-Tree.field-0) is
