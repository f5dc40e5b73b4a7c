use Rattle.near_tree.proofs.Told.{FreeBefore}
use Rattle.near_tree.specs.Sites.{leaf_of}
use Rattle.near_tree.proofs.judge.Judge.bad_home.Given as goal

abbrev pub invariant-loop-number : goal.invariant-loop-number
invariant-loop-number l = FreeBefore l.self.site.inst.now (leaf_of l.self.site) l.number
