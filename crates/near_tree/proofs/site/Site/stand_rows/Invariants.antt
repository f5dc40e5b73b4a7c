use Rattle.near_tree.specs.Lasts.{AreRows, IsStandRow}
use Rattle.near_tree.specs.Sites.{leaf_of}
use Rattle.near_tree.proofs.site.Site.stand_rows.Given as goal

abbrev pub invariant-loop-last : goal.invariant-loop-last
invariant-loop-last l = AreRows (IsStandRow l.self.inst.now (leaf_of l.self)) l.last l.rows.items
