use Rattle.std.proofs.Common.{rules, ◌≡◌, ◌≢◌, Err, arith}
use Rattle.std.proofs.lemmas.Grind.{common_steps}
use Rattle.certificate_parts.specs.Refusals.{or_refused}
use Rattle.certificate_parts.specs.declared.cert_text.CertText.TheVariants.{Memory}
use Rattle.route_proof.specs.Reading.{proof_at}
use Rattle.route_proof.proofs.WholeReading.{no_labels}
use Rattle.route_proof.proofs.reading.take_proof.Goals as goal

pub returns-in_err-labels-clause-fault : goal.returns-in_err-labels-clause-fault
returns-in_err-labels-clause-fault c =
    let fault = c.in_err-labels.field-0.0 in
    let broken : fault ≢ Memory → or_refused (proof_at c.args.inst.now c.args.route.now c.args.scan.now) ≡ Err fault =
    λ known. no_labels c.args.inst.now c.args.route.now c.args.scan.now c.word.new.self c.take_listed.new.scan c.in_ok-plan.plan fault c.in_ok-word.ensures.ok c.in_ok-plan.ensures.ok (c.in_err-labels.ensures.fault known) in
    search rules

pub returns-clause-fits : goal.returns-clause-fits
returns-clause-fits = grind (arith, common_steps)

pub returns-in_err-plan-clause-fault : goal.returns-in_err-plan-clause-fault
returns-in_err-plan-clause-fault = grind (arith, common_steps)
