use Rattle.near_pricing.proofs.LabelRanges.{label_placed}
use Rattle.near_pricing.proofs.labels.QuestionResources.target.Goals as goal

pub target_at-requires-clause-label : goal.target_at-requires-clause-label
target_at-requires-clause-label c = label_placed c.args.self.now c.args.from.now c.requires.label
