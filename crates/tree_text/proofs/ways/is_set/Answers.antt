use Rattle.std.proofs.Common.{◌≡◌, ◌↔◌, IsTrue, rules}
use Rattle.tree_text.proofs.SetLaws.{told_by_same}
use Rattle.tree_text.proofs.ways.is_set.Goals as goal

pub returns : goal.returns
returns c =
    let is : IsTrue c.eq.result ↔ (c.args.c.set ≡ c.args.set) = search rules in
    told_by_same c.eq.result c.args.c.set c.args.set is
