use Rattle.std.proofs.Common.{◌∙◌, arith}
use Rattle.std.proofs.lemmas.Grind.{common_steps}
use Rattle.customer_sets.specs.Pairs.{allows_of}
use Rattle.mixed_model.proofs.KindRoutes.{kind_is}
use Rattle.mixed_model.proofs.ProofRules.{closed_in, kind_result, listed_labels, told_in}
use Rattle.mixed_model.proofs.kinds.fault_in.Goals as goal

pub returns-in-Ok-clause-told : goal.returns-in-Ok-clause-told
returns-in-Ok-clause-told c =
    let kinds = c.args.kinds.now in
    let p = c.args.p.now in
    let g = c.index-kinds-kind.result in
    let same = kind_is kinds c.args.kind g c.requires.known c.index-kinds-kind.is in
    let labels = c.as_slice-labels.ensures ∙ listed_labels p c.args.kind c.as_slice.result.now c.index-as_slice-kind.result c.as_slice.ensures c.requires.fits.one_list c.requires.known c.index-as_slice-kind.is in
    closed_in kinds p c.args.kind g (allows_of c.new-pairs.result) c.as_slice-2.result.now c.as_slice-labels.result.now same c.new-pairs.ensures.pairs c.as_slice-2.ensures labels c.in-Ok.ensures.closed

pub returns-in-Err-clause-told : goal.returns-in-Err-clause-told
returns-in-Err-clause-told c =
    let kinds = c.args.kinds.now in
    let p = c.args.p.now in
    let g = c.index-kinds-kind.result in
    let same = kind_is kinds c.args.kind g c.requires.known c.index-kinds-kind.is in
    let labels = c.as_slice-labels.ensures ∙ listed_labels p c.args.kind c.as_slice.result.now c.index-as_slice-kind.result c.as_slice.ensures c.requires.fits.one_list c.requires.known c.index-as_slice-kind.is in
    let told = told_in kinds p c.args.kind g (allows_of c.new-pairs.result) c.as_slice-2.result.now c.as_slice-labels.result.now same c.new-pairs.ensures.pairs c.as_slice-2.ensures labels c.in-Err.fault c.in-Err.ensures.broken in
    kind_result kinds p c.args.kind c.in-Err.fault c.told.result c.requires.known told c.told.ensures.told c.told.ensures.some

pub returns-in-Ok-clause-network : goal.returns-in-Ok-clause-network
returns-in-Ok-clause-network = grind (arith, common_steps)

pub check_labels-requires-clause-one_price : goal.check_labels-requires-clause-one_price
check_labels-requires-clause-one_price = grind (arith, common_steps)

pub returns-in-Err-clause-network : goal.returns-in-Err-clause-network
returns-in-Err-clause-network = grind (arith, common_steps)
