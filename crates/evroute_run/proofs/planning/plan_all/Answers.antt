use Rattle.std.proofs.Common.{◌∙◌, Option, ap, arith, subst, sym}
use Rattle.std.proofs.lemmas.Grind.{common_steps}
use Rattle.std.specs.Option.{option_map}
use Rattle.bound_certificate.specs.CertificateTexts.{certificate_text}
use Rattle.bound_certificate.specs.Written.{written}
use Rattle.evroute_run.proofs.Hearing.{fleet_is_heard}
use Rattle.evroute_run.proofs.SearchReports.{appended, held_fits, is_found}
use Rattle.route_plan.specs.PlanTexts.{FitsFile, fleet_plan_text}
use Rattle.route_plan.specs.declared.plan.FleetPlan.{FleetPlan}
use Rattle.evroute_run.proofs.planning.plan_all.Goals as goal

pub returns-clause-found : goal.returns-clause-found
returns-clause-found t c =
    let g = c.args.inst.now in
    let o = c.in_ok-outcome.outcome in
    let given = option_map (λ p. p.now) c.as_ref.result in
    let plan = appended c.new-plan.result.items c.push_fleet_plan.new.out.items (fleet_plan_text given) c.in_ok-push_fleet_plan.ensures.ok c.new-plan.ensures.items
    ∙ ap (λ (held : Option FleetPlan). fleet_plan_text held) c.as_ref.ensures.value in
    let cert = appended c.new-cert.result.items c.push_certificate.new.out.items (certificate_text g (written g o.certificate)) c.in_ok-push_certificate.ensures.ok c.new-cert.ensures.items in
    is_found g c.args.nodes o c.push_fleet_plan.new.out.items c.push_certificate.new.out.items c.in_ok-answer.answer.text.items c.in_ok-answer.answer.status
    c.in_ok-outcome.ensures plan cert c.know_read_back.ensures c.in_ok-answer.ensures.status c.in_ok-answer.ensures.text

pub know_read_back-requires-clause-fits : goal.know_read_back-requires-clause-fits
know_read_back-requires-clause-fits t c = c.in_ok-outcome.ensures.fits

pub know_read_back-requires-clause-kept : goal.know_read_back-requires-clause-kept
know_read_back-requires-clause-kept t c = c.in_ok-outcome.ensures.kept

pub know_read_back-requires-clause-network : goal.know_read_back-requires-clause-network
know_read_back-requires-clause-network t c = c.in_ok-outcome.ensures.network

pub push_fleet_plan-requires : goal.push_fleet_plan-requires
push_fleet_plan-requires t c =
    let o = c.in_ok-outcome.outcome in
    subst (λ (held : Option FleetPlan). FitsFile held) (sym c.as_ref.ensures.value) (held_fits c.args.inst.now o.plan c.in_ok-outcome.ensures.plan)

pub report-requires-clause-outcome : goal.report-requires-clause-outcome
report-requires-clause-outcome = grind (arith, common_steps)

pub returns-clause-heard : goal.returns-clause-heard
returns-clause-heard t c =
    let o = c.in_ok-outcome.outcome in
    fleet_is_heard o.certificate.bound o.stopped c.in_ok-answer.answer c.in_ok-answer.ensures.status c.in_ok-answer.ensures.cause
