use Rattle.std.proofs.Common.{rules, ◌≡◌, ◌≢◌, Err}
use Rattle.certificate_parts.specs.Refusals.{or_refused}
use Rattle.certificate_parts.specs.declared.cert_text.CertText.TheVariants.{Memory}
use Rattle.tree_text.specs.Reading.{tree_at}
use Rattle.tree_text.proofs.WholeReading.{no_nodes}
use Rattle.tree_text.proofs.reading.take_tree.Goals as goal

pub returns-in_err-nodes-clause-fault : goal.returns-in_err-nodes-clause-fault
returns-in_err-nodes-clause-fault c =
    let fault = c.in_err-nodes.field-0.0 in
    let broken : fault ≢ Memory → or_refused (tree_at c.args.inst.now c.args.scan.now) ≡ Err fault =
    λ known. no_nodes c.args.inst.now c.args.scan.now c.word.new.self c.take_bound.new.scan c.in_ok-bound.bound fault c.in_ok-word.ensures.ok c.in_ok-bound.ensures.ok (c.in_err-nodes.ensures.fault known) in
    search rules
