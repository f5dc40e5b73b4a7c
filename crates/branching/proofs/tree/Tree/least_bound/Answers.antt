use Rattle.std.proofs.Common.{◌↔◌, ap, subst}
use Rattle.std.specs.Prelude.{IsNone}
use Rattle.branching.specs.Nodes.{NoneIsLive}
use Rattle.branching.specs.SearchTree.{SearchTree}
use Rattle.branching.proofs.tree.Tree.least_bound.Goals as goal

pub returns-clause-none : goal.returns-clause-none
returns-clause-none c =
    subst (λ nodes. IsNone c.least_live.result ↔ NoneIsLive nodes) (ap (λ (p : SearchTree). p.nodes) c.self.view_is) c.least_live.ensures.none
