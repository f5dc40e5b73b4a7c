use Rattle.std.proofs.Common.{subst}
use Rattle.label_search.specs.Answers.{EarnsThere, StepsOn}
use Rattle.closed_lists.specs.Questions.{Question}
use Rattle.closed_lists.specs.Sections.{section_of}
use Rattle.closed_lists.specs.Verdicts.{IsTold}
use Rattle.closed_lists.specs.declared.fault.ClosedFault.{ClosedFault}
use Rattle.closed_lists.specs.declared.fault.ClosedFault.TheVariants.{End, Step}
use Rattle.pricing.specs.Labels.{route_space}
use Rattle.pricing.proofs.ListFaults.{earns_there, steps_on, told_of}
use Rattle.pricing.proofs.labels.RouteLabelsResources.first_fault.Goals as goal

pub returns-in-Err-Step : goal.returns-in-Err-Step
returns-in-Err-Step c =
    let q = c.self.inside.question in
    let told = told_of q c.self.inside.inst.now c.self.inside.pairs.now c.weight-weight.result c.prices-prices.result.now c.args.labels.now c.in-Err-Step.field-0 c.self.invariant.network c.self.invariant.pairs c.weight-weight.ensures c.prices-prices.ensures.value c.in-Err-Step.ensures.broken in
    let first : IsTold q.network (section_of q.pairs q.weight q.prices c.args.labels.now) (Step c.in-Err-Step.label c.in-Err-Step.node) = subst (λ (f : ClosedFault). IsTold q.network (section_of q.pairs q.weight q.prices c.args.labels.now) f) c.in-Err-Step.field-0-is told in
    subst (λ (p : Question). StepsOn (route_space p) c.args.labels.now c.in-Err-Step.label c.in-Err-Step.node) c.self.view_is
    (steps_on q c.args.labels.now c.in-Err-Step.label c.in-Err-Step.node c.self.invariant.sound.none first.broken)

pub returns-in-Err-End : goal.returns-in-Err-End
returns-in-Err-End c =
    let q = c.self.inside.question in
    let told = told_of q c.self.inside.inst.now c.self.inside.pairs.now c.weight-weight.result c.prices-prices.result.now c.args.labels.now c.in-Err-End.field-0 c.self.invariant.network c.self.invariant.pairs c.weight-weight.ensures c.prices-prices.ensures.value c.in-Err-End.ensures.broken in
    let first : IsTold q.network (section_of q.pairs q.weight q.prices c.args.labels.now) (End c.in-Err-End.label) = subst (λ (f : ClosedFault). IsTold q.network (section_of q.pairs q.weight q.prices c.args.labels.now) f) c.in-Err-End.field-0-is told in
    subst (λ (p : Question). EarnsThere (route_space p) c.args.labels.now c.in-Err-End.label) c.self.view_is
    (earns_there q c.args.labels.now c.in-Err-End.label first.broken)
