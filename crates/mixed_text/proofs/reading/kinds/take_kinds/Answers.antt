use Rattle.std.proofs.Common.{arith, rules, ◌≡◌, ◌≢◌, Err, subst, sym}
use Rattle.std.proofs.lemmas.Grind.{common_steps}
use Rattle.ev_model.specs.Network.{Network}
use Rattle.certificate_parts.specs.Refusals.{or_refused}
use Rattle.certificate_parts.specs.declared.cert_text.CertText.TheVariants.{Memory}
use Rattle.mixed_text.specs.Reading.{kind_at, kinds_at}
use Rattle.mixed_text.proofs.TextParts.{kind_is}
use Rattle.mixed_text.proofs.KindLoops.{kinds-begin, kinds-break, kinds-networks, kinds-step}
use Rattle.mixed_text.proofs.reading.kinds.take_kinds.Goals as goal

pub loop-kind-init : goal.loop-kind-init
loop-kind-init c = kinds-begin c.args.kinds.now c.args.scan.now c.new-lists.result.items c.new-lists.ensures.items

pub loop-kind-preserved : goal.loop-kind-preserved
loop-kind-preserved c =
    let kinds = c.args.kinds.now in
    let kind = c.loop-kind.kind in
    let g = c.index-kinds-kind.result in
    kinds-step kinds c.requires.kinds c.args.scan.now c.loop-kind.scan c.take_kind.new.scan c.loop-kind.lists.items c.push.new.self.items c.from_vec.result c.in_ok-labels.labels.items kind g
    c.loop-kind-test.true c.loop-kind.invariant (kind_is kinds kind g c.loop-kind-test.true c.index-kinds-kind.is) c.from_vec.ensures
    c.in_ok-labels.ensures.ok c.in_ok-labels.ensures.fits c.in_ok-labels.ensures.kept c.in_ok-labels.ensures.network c.in_ok-push.ensures.items

pub returns-in_err-labels-clause-fault : goal.returns-in_err-labels-clause-fault
returns-in_err-labels-clause-fault c =
    let kinds = c.args.kinds.now in
    let kind = c.loop-kind.kind in
    let g = c.index-kinds-kind.result in
    let there = kind_is kinds kind g c.loop-kind-test.true c.index-kinds-kind.is in
    let fault = c.in_err-labels.field-0.0 in
    let broken : fault ≢ Memory → or_refused (kinds_at 0 kinds c.args.scan.now) ≡ Err fault =
    λ known. kinds-break kinds c.args.scan.now c.loop-kind.scan c.loop-kind.lists.items kind fault c.loop-kind-test.true c.loop-kind.invariant
    (subst (λ (h : Network). or_refused (kind_at kind h c.loop-kind.scan) ≡ Err fault) (sym there) (c.in_err-labels.ensures.fault known)) in
    search rules

pub returns-clause-networks : goal.returns-clause-networks
returns-clause-networks c = kinds-networks c.args.kinds.now c.args.scan.now c.loop-kind.scan c.loop-kind.lists.items c.loop-kind.kind (omega arith) c.loop-kind.invariant

pub returns-clause-ok : goal.returns-clause-ok
returns-clause-ok = grind (arith, common_steps)
