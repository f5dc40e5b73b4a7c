use Rattle.near_tree.proofs.Alike.{stands_alike}
use Rattle.near_tree.proofs.site.Site.plainly_stands.Goals as goal

pub returns : goal.returns
returns c is = stands_alike c.args.self.now.inst.now c.args.self.now.path.now c.args.self.now.section.now c.args.may.now c.args.last c.args.other c.index-may-last.result c.index-may-other.result c.requires.may c.requires.last c.requires.other c.index-may-last.is c.index-may-other.is (c.is_subset.ensures.0 c.if-not-is_subset.false) (c.earns_alike.ensures is)
