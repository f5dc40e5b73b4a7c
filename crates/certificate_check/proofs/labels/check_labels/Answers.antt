use Rattle.certificate_check.proofs.SectionSteps.{closed_priced, labels_of, told_priced}
use Rattle.certificate_check.proofs.labels.check_labels.Goals as goal

pub check_closed-requires-clause-labels : goal.check_closed-requires-clause-labels
check_closed-requires-clause-labels c = labels_of c.args.inst.now c.args.labels.now c.requires.labels

pub returns-clause-closed : goal.returns-clause-closed
returns-clause-closed c = closed_priced c.args.inst.now c.args.pairs.now c.args.weight c.args.prices.now c.args.labels.now c.check_closed.result c.check_closed.ensures.closed

pub returns-clause-broken : goal.returns-clause-broken
returns-clause-broken c = told_priced c.args.inst.now c.args.pairs.now c.args.weight c.args.prices.now c.args.labels.now c.check_closed.result c.check_closed.ensures.broken
