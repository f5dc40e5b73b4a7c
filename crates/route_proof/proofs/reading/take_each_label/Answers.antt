use Rattle.std.proofs.Common.{arith, rules, ◌≡◌, ◌≢◌, ◌+◌, ◌-◌, Err, subst, sym}
use Rattle.std.specs.List.{All}
use Rattle.std.proofs.lemmas.List.Elements.{All-nil}
use Rattle.ev_text.specs.Readers.{so_many}
use Rattle.ev_text.proofs.Loops.{many-begins, many-ends}
use Rattle.certificate_parts.specs.Refusals.{or_refused}
use Rattle.certificate_parts.specs.declared.cert_text.CertText.TheVariants.{Memory}
use Rattle.certificate_parts.proofs.ItemLoops.{all_more, breaks, goes_on}
use Rattle.route_proof.specs.Ranges.{RouteLabelFits}
use Rattle.route_proof.specs.Reading.{label_at}
use Rattle.route_proof.proofs.reading.take_each_label.Goals as goal

pub loop-init : goal.loop-init
loop-init c = (
  many-begins (label_at c.args.inst.now c.args.route.now) c.args.count (c.args.count - 0) c.new-labels.result.items c.args.scan.now (omega arith) c.new-labels.ensures.items,
  subst (All (RouteLabelFits c.args.inst.now c.args.route.now)) (sym c.new-labels.ensures.items) (All-nil (RouteLabelFits c.args.inst.now c.args.route.now)),
)

pub loop-preserved : goal.loop-preserved
loop-preserved c = (
  goes_on (label_at c.args.inst.now c.args.route.now) c.args.scan.now c.loop.scan c.take_label.new.scan c.args.count (c.args.count - c.loop.counter) (c.args.count - (c.loop.counter + 1)) c.loop.labels.items c.push.new.self.items c.in_ok-label.label
      (omega arith) c.loop.invariant.0 c.in_ok-label.ensures.ok c.in_ok-push.ensures.items,
  all_more (RouteLabelFits c.args.inst.now c.args.route.now) c.loop.labels.items c.push.new.self.items c.in_ok-label.label c.loop.invariant.1 c.in_ok-label.ensures.fits c.in_ok-push.ensures.items,
)

pub returns-in_err-label-clause-fault : goal.returns-in_err-label-clause-fault
returns-in_err-label-clause-fault c =
    let fault = c.in_err-label.field-0.0 in
    let read = label_at c.args.inst.now c.args.route.now in
    let broken : fault ≢ Memory → or_refused (so_many c.args.count read c.args.scan.now) ≡ Err fault =
    λ known. breaks read c.args.scan.now c.loop.scan c.args.count (c.args.count - c.loop.counter) (c.args.count - (c.loop.counter + 1)) c.loop.labels.items fault (omega arith) c.loop.invariant.0 (c.in_err-label.ensures.fault known) in
    search rules

pub returns-clause-ok : goal.returns-clause-ok
returns-clause-ok c =
    let read = label_at c.args.inst.now c.args.route.now in
    many-ends read (so_many c.args.count read c.args.scan.now) c.loop.scan _ c.loop.labels.items (omega arith) c.loop.invariant.0

pub returns-clause-fits : goal.returns-clause-fits
returns-clause-fits c = c.loop.invariant.1
