use Rattle.std.proofs.Common.{arith, rules, ◌≡◌, ◌≢◌, Err, false}
use Rattle.std.proofs.lemmas.Grind.{common_steps}
use Rattle.certificate_parts.specs.declared.cert_text.CertText.TheVariants.{Memory}
use Rattle.route_proof.specs.ProofIn.{has_other_version, proof_in}
use Rattle.route_proof.proofs.ProofLaws.{proof_is_spelled}
use Rattle.route_proof.proofs.WholeReading.{all_is_read, fault_behind, fault_inside}
use Rattle.route_proof.proofs.reading.read_proof.Goals as goal

pub returns-in_err-proof-clause-fault : goal.returns-in_err-proof-clause-fault
returns-in_err-proof-clause-fault c =
    let fault = c.in_err-proof.field-0.0 in
    let own : has_other_version c.args.bytes.now ≡ false = search rules in
    let broken : fault ≢ Memory → proof_in c.args.inst.now c.args.route.now c.args.bytes.now ≡ Err fault =
    λ known. fault_inside c.args.inst.now c.args.route.now c.args.bytes.now (omega arith) own c.new-scan.result c.new-scan.ensures fault (c.in_err-proof.ensures.fault known) in
    search rules

pub returns-in_err-end-clause-fault : goal.returns-in_err-end-clause-fault
returns-in_err-end-clause-fault c =
    let own : has_other_version c.args.bytes.now ≡ false = search rules in
    let broken = fault_behind c.args.inst.now c.args.route.now c.args.bytes.now (omega arith) own c.new-scan.result c.new-scan.ensures c.take_proof.new.scan c.in_ok-proof.proof _ c.in_ok-proof.ensures.ok c.in_err-end.ensures.fault in
    search rules

pub returns-clause-ok : goal.returns-clause-ok
returns-clause-ok c =
    let own : has_other_version c.args.bytes.now ≡ false = search rules in
    all_is_read c.args.inst.now c.args.route.now c.args.bytes.now (omega arith) own c.new-scan.result c.new-scan.ensures c.take_proof.new.scan c.in_ok-proof.proof c.in_ok-proof.ensures.ok c.in_ok-end.ensures.ok

pub returns-clause-spelled : goal.returns-clause-spelled
returns-clause-spelled c =
    (proof_is_spelled c.args.inst.now c.args.route.now c.nodes-nodes.ensures.network c.requires (omega arith) c.args.bytes.now c.in_ok-proof.proof).0 (returns-clause-ok c)

pub take_proof-requires : goal.take_proof-requires
take_proof-requires = grind (arith, common_steps)
