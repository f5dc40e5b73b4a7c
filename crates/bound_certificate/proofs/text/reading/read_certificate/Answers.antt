use Rattle.std.proofs.Common.{arith, rules, ◌≡◌, ◌≢◌, Err, false}
use Rattle.std.proofs.lemmas.Grind.{common_steps}
use Rattle.bound_certificate.specs.CertificateIn.{certificate_in, has_other_version}
use Rattle.bound_certificate.specs.Written.{written}
use Rattle.certificate_parts.specs.declared.cert_text.CertText.TheVariants.{Memory}
use Rattle.bound_certificate.proofs.BodyReading.{all_is_read, fault_behind, fault_inside}
use Rattle.bound_certificate.proofs.OneCertificate.{one_certificate, spelled_where_read}
use Rattle.bound_certificate.proofs.text.reading.read_certificate.Goals as goal

pub returns-in_err-certificate-clause-fault : goal.returns-in_err-certificate-clause-fault
returns-in_err-certificate-clause-fault c =
    let fault = c.in_err-certificate.field-0.0 in
    let own : has_other_version c.args.inst.now c.args.bytes.now ≡ false = search rules in
    let broken : fault ≢ Memory → certificate_in c.args.inst.now c.args.bytes.now ≡ Err fault =
    λ known. fault_inside c.args.inst.now c.args.bytes.now (omega arith) own c.new-scan.result c.new-scan.ensures fault (c.in_err-certificate.ensures.fault known) in
    search rules

pub returns-in_err-end-clause-fault : goal.returns-in_err-end-clause-fault
returns-in_err-end-clause-fault c =
    let own : has_other_version c.args.inst.now c.args.bytes.now ≡ false = search rules in
    let broken = fault_behind c.args.inst.now c.args.bytes.now (omega arith) own c.new-scan.result c.new-scan.ensures c.take_certificate.new.scan (written c.args.inst.now c.in_ok-certificate.certificate) _ c.in_ok-certificate.ensures.ok c.in_err-end.ensures.fault in
    search rules

pub returns-clause-ok : goal.returns-clause-ok
returns-clause-ok c =
    let own : has_other_version c.args.inst.now c.args.bytes.now ≡ false = search rules in
    all_is_read c.args.inst.now c.args.bytes.now (omega arith) own c.new-scan.result c.new-scan.ensures c.take_certificate.new.scan (written c.args.inst.now c.in_ok-certificate.certificate) c.in_ok-certificate.ensures.ok c.in_ok-end.ensures.ok

pub returns-clause-spelled : goal.returns-clause-spelled
returns-clause-spelled c =
    spelled_where_read c.args.inst.now c.nodes-nodes.ensures.network c.args.bytes.now c.in_ok-certificate.certificate (returns-clause-ok c) c.in_ok-certificate.ensures.fits c.in_ok-certificate.ensures.kept

pub returns-clause-one : goal.returns-clause-one
returns-clause-one c = λ d is. one_certificate c.args.inst.now c.nodes-nodes.ensures.network c.requires c.args.bytes.now c.in_ok-certificate.certificate d (returns-clause-spelled c) is

pub returns-then-len-gt-MOST_BYTES-clause-fault : goal.returns-then-len-gt-MOST_BYTES-clause-fault
returns-then-len-gt-MOST_BYTES-clause-fault = grind (arith, common_steps)
