use Rattle.std.proofs.Common.{rules, ◌≡◌, ◌≢◌, Err, length, refl, arith}
use Rattle.std.proofs.lemmas.Grind.{common_steps}
use Rattle.certificate_parts.specs.Refusals.{or_refused}
use Rattle.certificate_parts.specs.declared.cert_text.CertText.TheVariants.{Memory}
use Rattle.mixed_text.specs.Reading.{mixed_body_at}
use Rattle.mixed_text.proofs.WholeReading.{no_root_part}
use Rattle.mixed_text.proofs.reading.take_body.Goals as goal

pub returns-in_err-root-clause-fault : goal.returns-in_err-root-clause-fault
returns-in_err-root-clause-fault c =
    let fault = c.in_err-root.field-0.0 in
    let broken : fault ≢ Memory → or_refused (mixed_body_at c.args.kinds.now c.args.scan.now) ≡ Err fault =
    λ known. no_root_part c.args.kinds.now c.args.scan.now c.take_bound.new.scan c.in_ok-bound.bound (length c.args.kinds.now) c.first_kind.result.now fault
    c.in_ok-bound.ensures.ok refl c.first_kind.ensures (c.in_err-root.ensures.fault known) in
    search rules

pub take_lines-requires-clause-root : goal.take_lines-requires-clause-root
take_lines-requires-clause-root = grind (arith, common_steps)
