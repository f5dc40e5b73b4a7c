use Rattle.near_pricing.proofs.LabelRanges.{all_fit}
use Rattle.near_pricing.proofs.answer.closed_after.Goals as goal

pub list_all-requires-clause-labels : goal.list_all-requires-clause-labels
list_all-requires-clause-labels c = all_fit c.args.pricing.now c.args.exact.items c.requires
