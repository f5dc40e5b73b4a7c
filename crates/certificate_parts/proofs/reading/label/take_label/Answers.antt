use Rattle.std.proofs.Common.{rules, ◌≡◌, ◌≢◌, Err, arith}
use Rattle.std.proofs.lemmas.Grind.{common_steps}
use Rattle.certificate_parts.specs.Refusals.{or_refused}
use Rattle.certificate_parts.specs.Reading.{label_at}
use Rattle.certificate_parts.specs.declared.cert_text.CertText.TheVariants.{Memory}
use Rattle.certificate_parts.proofs.LabelReading.{no_points}
use Rattle.certificate_parts.proofs.reading.label.take_label.Goals as goal

pub returns-in_err-points-clause-fault : goal.returns-in_err-points-clause-fault
returns-in_err-points-clause-fault c =
    let fault = c.in_err-points.field-0.0 in
    let broken : fault ≢ Memory → or_refused (label_at c.args.inst.now c.args.scan.now) ≡ Err fault =
    λ known. no_points c.args.inst.now c.args.scan.now c.word.new.self c.take_place.new.scan c.word-2.new.self c.take_node.new.scan c.word-3.new.self c.take_set.new.scan c.in_ok-last.last.node c.in_ok-node.node _ fault
    c.in_ok-word.ensures.ok c.in_ok-last.ensures.ok c.in_ok-word-2.ensures.ok c.in_ok-node.ensures.ok c.in_ok-word-3.ensures.ok c.in_ok-set.ensures.ok (c.in_err-points.ensures.fault known) in
    search rules

pub returns-clause-kept : goal.returns-clause-kept
returns-clause-kept = grind (arith, common_steps)

pub from_points-requires : goal.from_points-requires
from_points-requires = grind (arith, common_steps)
