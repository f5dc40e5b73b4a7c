use Rattle.std.proofs.Common.{◌≡◌, ◌∙◌, ◌<◌, length, ap, sym, subst, arith, rules, FitsSigned, to_z, of_z}
use Rattle.std.specs.Int.{w128}
use Rattle.std.proofs.lemmas.Int.{ints}
use Rattle.fleet_model.specs.ClosedListRules.{EarnsAtHome}
use Rattle.fleet_model.specs.Prices.{price_sum}
use Rattle.piece_fn.specs.declared.label.Label.{Label}
use Rattle.closed_lists.specs.Questions.{Question, section}
use Rattle.closed_lists.specs.Sections.{paid_label}
use Rattle.closed_lists.specs.Tellings.{TellsHome}
use Rattle.closed_lists.proofs.Faults.{end_fault, ends_more, no_ends}
use Rattle.closed_lists.proofs.question.Question.check_ends.Goals as goal

pub earns_at_home-requires-clause-paid : goal.earns_at_home-requires-clause-paid
earns_at_home-requires-clause-paid c =
    let l = c.label-label.result.now in
    let fits : FitsSigned w128 c.paid-paid.result = search rules in
    let whole : to_z w128 (of_z w128 c.paid-paid.result) ≡ c.paid-paid.result = omega (arith, ints) in
    whole ∙ c.paid-paid.ensures.value l ∙ ap (λ (k : Label). price_sum c.args.self.now.prices k.set) (sym (c.label-label.ensures.value l))

pub returns-then-branch-clause-bad : goal.returns-then-branch-clause-bad
returns-then-branch-clause-bad c =
    let told = subst (λ b. TellsHome c.args.self.now c.label-label.result.now b) c.if-branch.true c.in_ok-earns_at_home.ensures in
    let less : c.loop-number.number < length c.args.self.now.labels = omega (arith, c.loop-number-test.true, ap (λ (q : Question). length q.labels) c.self.view_is) in
    (end_fault c.args.self.now c.loop-number.number c.label-label.result.now less c.label-label.ensures.value told, c.loop-number.invariant)

pub loop-number-preserved : goal.loop-number-preserved
loop-number-preserved c =
    let told : EarnsAtHome c.args.self.now.network (section c.args.self.now) (paid_label c.args.self.now.prices c.label-label.result.now) → ⊥ = subst (λ b. TellsHome c.args.self.now c.label-label.result.now b) c.if-branch.false c.in_ok-earns_at_home.ensures in
    let less : c.loop-number.number < length c.args.self.now.labels = omega (arith, c.loop-number-test.true, ap (λ (q : Question). length q.labels) c.self.view_is) in
    ends_more c.args.self.now c.loop-number.number c.label-label.result.now less c.label-label.ensures.value told c.loop-number.invariant

pub returns-clause-good : goal.returns-clause-good
returns-clause-good c =
    no_ends c.args.self.now c.loop-number.number (omega (arith, c.loop-number-test.false, ap (λ (q : Question). length q.labels) c.self.view_is)) c.loop-number.invariant
