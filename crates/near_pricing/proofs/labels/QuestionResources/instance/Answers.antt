use Rattle.std.proofs.Common.{subst}
use Rattle.near_pricing.specs.Questions.{IsQuestion, Question}
use Rattle.near_pricing.proofs.Lawful.{are_lawful}
use Rattle.near_pricing.proofs.labels.QuestionResources.instance.Goals as goal

pub returns-clause-lawful : goal.returns-clause-lawful
returns-clause-lawful c =
    are_lawful c.args.self.now (subst (λ (q : Question). IsQuestion q) c.self.view_is c.self.invariant)
