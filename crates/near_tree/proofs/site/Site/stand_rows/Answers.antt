use Rattle.near_tree.specs.Lasts.{IsStandRow}
use Rattle.near_tree.specs.Sites.{leaf_of}
use Rattle.near_tree.proofs.Rows.{rows_more}
use Rattle.near_tree.proofs.site.Site.stand_rows.Goals as goal

pub loop-last-preserved : goal.loop-last-preserved
loop-last-preserved c = rows_more (IsStandRow c.args.self.now.inst.now (leaf_of c.args.self.now)) c.loop-last.rows.items c.push.new.self.items c.loop-last.last c.stand_row.result c.in_ok-push.ensures.items c.loop-last.invariant c.stand_row.ensures
