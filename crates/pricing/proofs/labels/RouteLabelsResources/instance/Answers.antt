use Rattle.std.proofs.Common.{subst}
use Rattle.closed_lists.specs.Questions.{Question}
use Rattle.pricing.specs.Labels.{IsSound}
use Rattle.pricing.proofs.Lawful.{are_lawful}
use Rattle.pricing.proofs.labels.RouteLabelsResources.instance.Goals as goal

pub returns-clause-lawful : goal.returns-clause-lawful
returns-clause-lawful c =
    are_lawful c.args.self.now (subst (λ (q : Question). IsSound q) c.self.view_is c.self.invariant.sound)
