use Rattle.std.proofs.Common.{sym, subst}
use Rattle.std.specs.List.{All}
use Rattle.label_search.specs.Steps.{IsListed}
use Rattle.near_pricing.specs.Labels.{near_space}
use Rattle.near_pricing.specs.Questions.{Question}
use Rattle.near_pricing.proofs.LabelRanges.{all_fit}
use Rattle.near_pricing.proofs.labels.QuestionResources.first_fault.Goals as goal

pub first_fault-requires-clause-labels : goal.first_fault-requires-clause-labels
first_fault-requires-clause-labels c =
    let listed = subst (λ (q : Question). All (IsListed (near_space q)) c.args.labels.now) (sym c.self.view_is) c.requires in
    all_fit _ c.args.labels.now listed
