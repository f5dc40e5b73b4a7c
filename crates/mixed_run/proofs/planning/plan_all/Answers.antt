use Rattle.std.proofs.Common.{◌∙◌, List, Option, ap}
use Rattle.std.specs.Option.{option_map}
use Rattle.mixed_model.specs.declared.proof.MixedRoute.{MixedRoute}
use Rattle.mixed_model.specs.MixedTexts.{mixed_plan_text}
use Rattle.mixed_run.proofs.Found.{appended, is_found}
use Rattle.mixed_run.proofs.Hearing.{found_is_heard}
use Rattle.mixed_text.specs.MixedTexts.{mixed_text}
use Rattle.mixed_text.specs.Written.{written_mixed}
use Rattle.mixed_run.proofs.planning.plan_all.Goals as goal

pub know_read_back-requires-clause-fits : goal.know_read_back-requires-clause-fits
know_read_back-requires-clause-fits g c = c.in_ok-outcome.ensures.proof_is.fits

pub know_read_back-requires-clause-kept : goal.know_read_back-requires-clause-kept
know_read_back-requires-clause-kept g c = c.in_ok-outcome.ensures.proof_is.kept

pub returns-clause-found : goal.returns-clause-found
returns-clause-found g c =
    let kinds = c.args.kinds.now in
    let o = c.in_ok-outcome.outcome in
    let given = option_map (λ p. p.now) c.held_routes.result in
    let plan = appended c.new-plan.result.items c.push_mixed_plan.new.out.items (mixed_plan_text given) c.in_ok-push_mixed_plan.ensures.ok c.new-plan.ensures.items
    ∙ ap (λ (held : Option (List MixedRoute)). mixed_plan_text held) c.held_routes.ensures in
    let cert = appended c.new-cert.result.items c.push_mixed.new.out.items (mixed_text (written_mixed kinds o.proof)) c.in_ok-push_mixed.ensures.ok c.new-cert.ensures.items in
    let told = c.in_ok-answer.ensures.text in
    is_found kinds o c.push_mixed_plan.new.out.items c.push_mixed.new.out.items c.in_ok-answer.answer.text.items c.in_ok-answer.answer.status told.0
    c.in_ok-outcome.ensures plan cert c.know_read_back.ensures c.in_ok-answer.ensures.status told.1 told.2

pub returns-clause-heard : goal.returns-clause-heard
returns-clause-heard g c = found_is_heard c.in_ok-outcome.outcome.proof.bound c.in_ok-answer.answer c.in_ok-answer.ensures.status c.in_ok-answer.ensures.cause
