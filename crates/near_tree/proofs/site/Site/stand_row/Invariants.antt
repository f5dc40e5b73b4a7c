use Rattle.near_tree.specs.Sites.{leaf_of}
use Rattle.near_tree.proofs.Rows.{IsStandRowTo}
use Rattle.near_tree.proofs.site.Site.stand_row.Given as goal

abbrev pub invariant-loop-other : goal.invariant-loop-other
invariant-loop-other l = IsStandRowTo l.self.inst.now (leaf_of l.self) l.last l.other l.row
