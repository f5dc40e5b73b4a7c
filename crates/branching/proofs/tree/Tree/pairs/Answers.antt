use Rattle.std.proofs.Common.{◌∙◌, ap}
use Rattle.branching.specs.SearchTree.{SearchTree}
use Rattle.branching.specs.Stored.{search_tree_of}
use Rattle.branching.proofs.Stored.{node_customers}
use Rattle.branching.proofs.tree.Tree.pairs.Goals as goal

pub returns-clause-customers : goal.returns-clause-customers
returns-clause-customers c =
    node_customers (search_tree_of c.self.inside) c.args.key c.index.result.now c.self.invariant.sound c.index.ensures
    ∙ ap (λ (p : SearchTree). p.customers) c.self.view_is
