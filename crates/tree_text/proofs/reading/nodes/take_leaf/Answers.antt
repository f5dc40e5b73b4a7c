use Rattle.std.proofs.Common.{rules, ◌≡◌, ◌≢◌, Err, length, refl}
use Rattle.certificate_parts.specs.Refusals.{or_refused}
use Rattle.certificate_parts.specs.declared.cert_text.CertText.TheVariants.{Memory}
use Rattle.tree_text.specs.Reading.{leaf_at}
use Rattle.tree_text.specs.Standing.{all_written}
use Rattle.tree_text.specs.Ways.{counted_in}
use Rattle.tree_text.specs.Written.{written_section}
use Rattle.tree_text.proofs.LeafFits.{leaf_is_read, leaf_stands, no_section}
use Rattle.tree_text.proofs.reading.nodes.take_leaf.Goals as goal

pub returns-in_err-section-clause-fault : goal.returns-in_err-section-clause-fault
returns-in_err-section-clause-fault c =
    let fault = c.in_err-section.field-0.0 in
    let broken : fault ≢ Memory → or_refused (leaf_at c.args.inst.now (all_written c.args.inst.now (counted_in c.args.counted.now)) c.args.scan.now) ≡ Err fault =
    λ known. no_section c.args.inst.now c.args.counted.now (length c.args.counted.now) c.args.scan.now c.word.new.self fault refl c.in_ok-word.ensures.ok (c.in_err-section.ensures.fault known) in
    search rules

pub returns-clause-ok : goal.returns-clause-ok
returns-clause-ok c =
    leaf_is_read c.args.inst.now c.args.counted.now (length c.args.counted.now) c.args.scan.now c.word.new.self c.take_section.new.scan (written_section c.args.inst.now c.in_ok-section.section) refl c.in_ok-word.ensures.ok c.in_ok-section.ensures.ok

pub returns-clause-stands : goal.returns-clause-stands
returns-clause-stands c = leaf_stands c.args.inst.now c.args.counted.now c.in_ok-section.section c.requires c.in_ok-section.ensures.fits (search rules)
