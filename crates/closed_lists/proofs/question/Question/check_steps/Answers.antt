use Rattle.std.proofs.Common.{◌≡◌, ◌∙◌, ◌<◌, ℕ, Option, None, Some, length, ap, sym, subst, arith, rules, FitsSigned, to_z, of_z}
use Rattle.std.specs.Int.{w128}
use Rattle.std.proofs.lemmas.Int.{ints}
use Rattle.fleet_model.specs.Prices.{price_sum}
use Rattle.piece_fn.specs.declared.label.Label.{Label}
use Rattle.closed_lists.specs.Questions.{Question}
use Rattle.closed_lists.specs.Tellings.{TellsFirst}
use Rattle.closed_lists.proofs.Faults.{first_step, no_steps, steps_more}
use Rattle.closed_lists.proofs.question.Question.check_steps.Goals as goal

pub uncovered_node-requires-clause-paid : goal.uncovered_node-requires-clause-paid
uncovered_node-requires-clause-paid c =
    let l = c.label-label.result.now in
    let fits : FitsSigned w128 c.paid-paid.result = search rules in
    let whole : to_z w128 (of_z w128 c.paid-paid.result) ≡ c.paid-paid.result = omega (arith, ints) in
    whole ∙ c.paid-paid.ensures.value l ∙ ap (λ (k : Label). price_sum c.args.self.now.prices k.set) (sym (c.label-label.ensures.value l))

pub returns-in-Some-clause-bad : goal.returns-in-Some-clause-bad
returns-in-Some-clause-bad c =
    let told : TellsFirst c.args.self.now c.label-label.result.now (Some c.in-Some.node) = subst (λ (o : Option ℕ). TellsFirst c.args.self.now c.label-label.result.now o) c.in-Some.is c.in_ok-node.ensures in
    let less : c.loop-number.number < length c.args.self.now.labels = omega (arith, c.loop-number-test.true, ap (λ (q : Question). length q.labels) c.self.view_is) in
    first_step c.args.self.now c.loop-number.number c.label-label.result.now less c.label-label.ensures.value c.in-Some.node told.0 told.1 c.loop-number.invariant

pub loop-number-preserved : goal.loop-number-preserved
loop-number-preserved c =
    let told : TellsFirst c.args.self.now c.label-label.result.now None = subst (λ (o : Option ℕ). TellsFirst c.args.self.now c.label-label.result.now o) c.in_default.is c.in_ok-node.ensures in
    let less : c.loop-number.number < length c.args.self.now.labels = omega (arith, c.loop-number-test.true, ap (λ (q : Question). length q.labels) c.self.view_is) in
    steps_more c.args.self.now c.loop-number.number c.label-label.result.now less c.label-label.ensures.value told c.loop-number.invariant

pub returns-clause-good : goal.returns-clause-good
returns-clause-good c =
    no_steps c.args.self.now c.loop-number.number (omega (arith, c.loop-number-test.false, ap (λ (q : Question). length q.labels) c.self.view_is)) c.loop-number.invariant
