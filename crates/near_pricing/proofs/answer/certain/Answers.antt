use Rattle.std.proofs.Common.{subst}
use Rattle.label_search.specs.Answers.{IsClosing}
use Rattle.near_pricing.specs.Labels.{near_space}
use Rattle.near_pricing.proofs.LabelRanges.{all_fit}
use Rattle.near_pricing.proofs.answer.certain.Goals as goal

pub closed_by-requires-clause-fit : goal.closed_by-requires-clause-fit
closed_by-requires-clause-fit c =
    let closed = subst (IsClosing (near_space c.args.pricing.now)) c.in-Closed.is c.in_ok-routes.ensures in
    all_fit c.args.pricing.now c.in-Closed.labels.items closed.listed
