use Rattle.std.proofs.Common.{List, Option, ℕ, subst, sym, arith}
use Rattle.std.proofs.lemmas.Grind.{common_steps}
use Rattle.std.specs.Option.{option_map}
use Rattle.std.specs.Prelude.{string_bytes}
use Rattle.command_line.specs.Words.{CheckJob, check_job_of}
use Rattle.evroute_run.proofs.CheckFinds.{plan_fails, refused_by_plan}
use Rattle.evroute_run.proofs.Endings.{check_at_plan}
use Rattle.job_frame.proofs.BehindReads.{finds_behind, finds_refused, read_fails}
use Rattle.job_frame.proofs.FileReads.{named_read, read_still}
use Rattle.route_plan.specs.PlanTexts.{SpellsFleetPlan}
use Rattle.route_plan.specs.declared.plan.FleetPlan.{FleetPlan}
use Rattle.evroute_causes.proofs.Hearing.{its_rule}
use Rattle.evroute_run.proofs.check.check_on.Goals as goal

pub returns-in-Err : goal.returns-in-Err
returns-in-Err g c = λ bytes read fleet.
    let w = c.args.job.now in
    let job : CheckJob = check_job_of (string_bytes w.file) (string_bytes w.plan) (string_bytes w.cert) w.limit in
    let before = g.S.Shelf.state c.args.shelf.now in
    let after = g.S.Shelf.state c.read_file.new.shelf in
    read_fails (plan_fails job before after bytes c.args.inst.now read fleet)
    c.as_str.ensures.value c.in-Err.ensures.fault c.in-Err.ensures.stays c.in-Err.ensures.falls c.in-Err.ensures.files

pub returns-in-Ok-plan_of : goal.returns-in-Ok-plan_of
returns-in-Ok-plan_of g c = λ bytes read fleet.
    let plan_bytes = c.in-Ok.bytes.items in
    let read_plan = named_read _ _ _ _ _ c.as_str.ensures.value c.in-Ok.ensures.bytes in
    let given = subst (λ (plan : Option FleetPlan). SpellsFleetPlan c.as_slice.result.now plan) (sym c.as_ref.ensures.value) c.in-Ok-plan_of.ensures.ok in
    let spelled = subst (λ (bs : List ℕ). SpellsFleetPlan bs (option_map (λ p. p.now) c.as_ref.result)) c.as_slice.ensures.value given in
    finds_behind c.in-Ok.ensures.files c.in-Ok.ensures.stays c.in-Ok.ensures.falls
    (c.check_plan.ensures bytes plan_bytes (read_still _ _ _ _ _ c.in-Ok.ensures.files read)
    (read_still _ _ _ _ _ c.in-Ok.ensures.files read_plan) (record { network = fleet; spelled = spelled }))

pub returns-in-Err-Refused : goal.returns-in-Err-Refused
returns-in-Err-Refused g c = λ bytes read fleet.
    let w = c.args.job.now in
    let job : CheckJob = check_job_of (string_bytes w.file) (string_bytes w.plan) (string_bytes w.cert) w.limit in
    let before = g.S.Shelf.state c.args.shelf.now in
    let plan_bytes = c.in-Ok.bytes.items in
    let read_plan = named_read _ _ _ _ _ c.as_str.ensures.value c.in-Ok.ensures.bytes in
    let line = refused_by_plan job before.files bytes plan_bytes c.as_slice.result.now c.in-Err-Refused.field-0 c.in-Err-Refused.refusal
    read read_plan c.as_slice.ensures.value c.in-Err-Refused.field-0-is
    (λ cert_bytes. check_at_plan w.limit bytes c.as_slice.result.now cert_bytes c.args.inst.now c.in-Err-Refused.field-0 fleet c.in-Err-Refused.ensures.rule c.in-Err-Refused.ensures.ended) in
    finds_refused line (its_rule c.in-Err-Refused.refusal) c.refuse_job.ensures.cause c.refuse_job.ensures.status c.refuse_job.ensures.text c.refuse_job.ensures.files c.refuse_job.ensures.memory
    c.in-Ok.ensures.stays c.in-Ok.ensures.falls c.in-Ok.ensures.files

pub returns : goal.returns
returns = grind (arith, common_steps)
