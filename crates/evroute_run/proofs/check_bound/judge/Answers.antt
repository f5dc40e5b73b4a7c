use Rattle.std.proofs.Common.{◌≡◌, rules, inr}
use Rattle.evroute_run.proofs.CheckBoundFinds.{puts_verdict}
use Rattle.near_text.specs.VerdictText.{near_verdict_text}
use Rattle.evroute_run.proofs.check_bound.judge.Goals as goal

pub returns-clause-answers : goal.returns-clause-answers
returns-clause-answers c = λ limit file bytes fleet has.
    let found = c.in_ok-verdict.verdict in
    let text = c.push_near_verdict.new.out.items in
    let text_is : text ≡ near_verdict_text c.args.inst.now.denominator c.args.proof.now.bound found = search rules in
    puts_verdict limit file bytes c.args.inst.now c.args.proof.now fleet has text found c.verdict_status.result
    c.in_ok-verdict.ensures.verdict c.in_ok-verdict.ensures.shows c.verdict_status.ensures text_is

pub returns-clause-heard : goal.returns-clause-heard
returns-clause-heard c =
    let found = c.in_ok-verdict.verdict in
    let text_is : c.push_near_verdict.new.out.items ≡ near_verdict_text c.args.inst.now.denominator c.args.proof.now.bound found = search rules in
    inr (record {
      denominator = c.args.inst.now.denominator;
      bound = c.args.proof.now.bound;
      found = found;
      status_is = c.verdict_status.ensures;
      text_is = text_is;
      heard_is = c.cause_of.ensures;
    })
