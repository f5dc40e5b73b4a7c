use Rattle.std.proofs.Common.{arith, rules, ◌≡◌, ◌≢◌, Err, false}
use Rattle.certificate_parts.specs.declared.cert_text.CertText.TheVariants.{Memory}
use Rattle.tree_text.specs.TreeIn.{has_other_version, tree_in}
use Rattle.tree_text.specs.Written.{written_tree}
use Rattle.tree_text.proofs.TreeLaws.{one_tree, spelled_where_read}
use Rattle.tree_text.proofs.WholeReading.{all_is_read, fault_behind, fault_inside}
use Rattle.tree_text.proofs.reading.read_tree.Goals as goal

pub returns-in_err-proof-clause-fault : goal.returns-in_err-proof-clause-fault
returns-in_err-proof-clause-fault c =
    let fault = c.in_err-proof.field-0.0 in
    let own : has_other_version c.args.bytes.now ≡ false = search rules in
    let broken : fault ≢ Memory → tree_in c.args.inst.now c.args.bytes.now ≡ Err fault =
    λ known. fault_inside c.args.inst.now c.args.bytes.now (omega arith) own c.new-scan.result c.new-scan.ensures fault (c.in_err-proof.ensures.fault known) in
    search rules

pub returns-in_err-end-clause-fault : goal.returns-in_err-end-clause-fault
returns-in_err-end-clause-fault c =
    let own : has_other_version c.args.bytes.now ≡ false = search rules in
    let broken = fault_behind c.args.inst.now c.args.bytes.now (omega arith) own c.new-scan.result c.new-scan.ensures c.take_tree.new.scan (written_tree c.args.inst.now c.in_ok-proof.proof) _ c.in_ok-proof.ensures.ok c.in_err-end.ensures.fault in
    search rules

pub returns-clause-ok : goal.returns-clause-ok
returns-clause-ok c =
    let own : has_other_version c.args.bytes.now ≡ false = search rules in
    all_is_read c.args.inst.now c.args.bytes.now (omega arith) own c.new-scan.result c.new-scan.ensures c.take_tree.new.scan (written_tree c.args.inst.now c.in_ok-proof.proof) c.in_ok-proof.ensures.ok c.in_ok-end.ensures.ok

pub returns-clause-spelled : goal.returns-clause-spelled
returns-clause-spelled c =
    spelled_where_read c.args.inst.now c.nodes-nodes.ensures.network c.args.bytes.now c.in_ok-proof.proof (returns-clause-ok c) c.in_ok-proof.ensures.fits c.in_ok-proof.ensures.kept

pub returns-clause-one : goal.returns-clause-one
returns-clause-one c = λ q is. one_tree c.args.inst.now c.nodes-nodes.ensures.network c.args.bytes.now c.in_ok-proof.proof q (returns-clause-spelled c) is
