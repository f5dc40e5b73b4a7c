use Rattle.tree_text.proofs.Lasts.{own-customer}
use Rattle.tree_text.proofs.reading.labels.own_last.Goals as goal

pub returns-in-Some : goal.returns-in-Some
returns-in-Some c = own-customer c.args.inst.now c.args.node c.in-Some.number c.in-Some.ensures.value c.in-Some.ensures.within
