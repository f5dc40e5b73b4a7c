use Rattle.std.proofs.Common.{List, ℕ, subst, sym}
use Rattle.evroute_run.proofs.ProveFinds.{puts_refusal}
use Rattle.evroute_run.specs.FixedAnswer.{IsTask}
use Rattle.evroute_causes.proofs.Hearing.{refused_job_is_heard}
use Rattle.evroute_causes.specs.Heard.{HearsElse, no_cause}
use Rattle.evroute_run.proofs.prove.prove_text.Goals as goal

pub returns-in-Ok-prove_trip-clause-answers : goal.returns-in-Ok-prove_trip-clause-answers
returns-in-Ok-prove_trip-clause-answers c =
    let task = subst (λ (r : List ℕ). IsTask c.args.options c.args.word.now c.args.bytes.now c.in-Ok.trip.inst r) (sym c.as_slice.ensures.value) c.in-Ok.ensures.task in
    c.in-Ok-prove_trip.ensures.answers c.args.options c.args.word.now c.args.bytes.now task c.in-Ok.ensures.start

pub returns-in-Err-Refused-clause-answers : goal.returns-in-Err-Refused-clause-answers
returns-in-Err-Refused-clause-answers c =
    puts_refusal c.args.options c.args.word.now c.args.cert.now c.args.bytes.now c.in-Err-Refused.field-0 c.in-Err-Refused.refusal c.refuse_job.result
    c.in-Err-Refused.field-0-is c.in-Err-Refused.ensures.ended c.refuse_job.ensures.status c.refuse_job.ensures.files c.refuse_job.ensures.text

pub returns-in-Err-Refused-clause-heard : goal.returns-in-Err-Refused-clause-heard
returns-in-Err-Refused-clause-heard c =
    refused_job_is_heard (HearsElse no_cause) c.in-Err-Refused.refusal c.refuse_job.result c.refuse_job.ensures.status c.refuse_job.ensures.text c.refuse_job.ensures.cause
