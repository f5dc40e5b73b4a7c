use Rattle.std.proofs.Common.{subst}
use Rattle.route_proof.specs.Verdicts.{IsVerdict}
use Rattle.route_proof.specs.declared.verdict.RouteVerdict.{RouteVerdict}
use Rattle.evroute_run.proofs.Hearing.{accepted_is_heard, rejected_is_heard}
use Rattle.evroute_run.proofs.CheckRouteFinds.{negative_is_answered, puts_accepted, puts_rejected}
use Rattle.evroute_run.proofs.check_route.judge.Goals as goal

pub returns-in-Accepted-clause-answers : goal.returns-in-Accepted-clause-answers
returns-in-Accepted-clause-answers c = λ options word file bytes task start read spelled.
    let g = c.args.inst.now in
    let route = c.args.route.now in
    let proof = c.args.proof.now in
    let accepted = subst (λ (v : RouteVerdict). IsVerdict (record { network = g; route = route; start = c.args.start }) proof v) c.in-Accepted.is c.in_ok-verdict.ensures.verdict in
    puts_accepted options word file bytes g route c.args.start proof task start read spelled c.accept.result accepted (c.in_ok-verdict.ensures.shows c.in-Accepted.is) c.accept.ensures.status c.accept.ensures.text

pub returns-in_default : goal.returns-in_default
returns-in_default c = record {
  answered = negative_is_answered c.reject.result c.reject.ensures.status;
  answers = λ options word file bytes task start read spelled.
      puts_rejected options word file bytes c.args.inst.now c.args.route.now c.args.start c.args.proof.now task start read spelled c.reject.result c.in_ok-verdict.verdict c.in_default.not-Accepted c.in_ok-verdict.ensures.verdict
      c.reject.ensures.status c.reject.ensures.text;
  heard = rejected_is_heard c.args.inst.now.denominator c.in_ok-verdict.verdict c.reject.result c.in_default.not-Accepted c.reject.ensures.status c.reject.ensures.text c.reject.ensures.cause;
}

pub returns-in-Accepted-clause-heard : goal.returns-in-Accepted-clause-heard
returns-in-Accepted-clause-heard c = accepted_is_heard c.accept.result c.accept.ensures.status c.accept.ensures.cause
