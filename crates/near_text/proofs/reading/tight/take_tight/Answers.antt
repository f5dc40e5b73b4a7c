use Rattle.std.proofs.Common.{arith, rules, ◌≡◌, ◌≢◌, ◌+◌, ◌-◌, Err, subst, sym}
use Rattle.std.specs.List.{All}
use Rattle.std.proofs.lemmas.List.Elements.{All-nil}
use Rattle.ev_text.specs.Readers.{so_many}
use Rattle.ev_text.proofs.Loops.{many-begins, many-ends}
use Rattle.certificate_parts.specs.Ranges.{ColumnFits}
use Rattle.certificate_parts.specs.Refusals.{or_refused}
use Rattle.certificate_parts.specs.declared.cert_text.CertText.TheVariants.{Memory}
use Rattle.certificate_parts.proofs.ItemLoops.{all_more, breaks, goes_on, many_length}
use Rattle.near_text.specs.Reading.{tight_at}
use Rattle.near_text.proofs.reading.tight.take_tight.Goals as goal

pub loop-init : goal.loop-init
loop-init c = (
  many-begins tight_at c.args.count (c.args.count - 0) c.new-plans.result.items c.args.scan.now (omega arith) c.new-plans.ensures.items,
  subst (All ColumnFits) (sym c.new-plans.ensures.items) (All-nil ColumnFits),
)

pub loop-preserved : goal.loop-preserved
loop-preserved c = (
  goes_on tight_at c.args.scan.now c.loop.scan c.take_tight_route.new.scan c.args.count (c.args.count - c.loop.counter) (c.args.count - (c.loop.counter + 1)) c.loop.plans.items c.push.new.self.items c.in_ok-plan.plan
      (omega arith) c.loop.invariant.0 c.in_ok-plan.ensures.ok c.in_ok-push.ensures.items,
  all_more ColumnFits c.loop.plans.items c.push.new.self.items c.in_ok-plan.plan c.loop.invariant.1 c.in_ok-plan.ensures.fits c.in_ok-push.ensures.items,
)

pub returns-in_err-plan-clause-fault : goal.returns-in_err-plan-clause-fault
returns-in_err-plan-clause-fault c =
    let fault = c.in_err-plan.field-0.0 in
    let broken : fault ≢ Memory → or_refused (so_many c.args.count tight_at c.args.scan.now) ≡ Err fault =
    λ known. breaks tight_at c.args.scan.now c.loop.scan c.args.count (c.args.count - c.loop.counter) (c.args.count - (c.loop.counter + 1)) c.loop.plans.items fault (omega arith) c.loop.invariant.0 (c.in_err-plan.ensures.fault known) in
    search rules

pub returns-clause-ok : goal.returns-clause-ok
returns-clause-ok c = many-ends tight_at (so_many c.args.count tight_at c.args.scan.now) c.loop.scan _ c.loop.plans.items (omega arith) c.loop.invariant.0

pub returns-clause-fits : goal.returns-clause-fits
returns-clause-fits c = c.loop.invariant.1

pub returns-clause-count : goal.returns-clause-count
returns-clause-count c = many_length tight_at c.args.count c.args.scan.now c.loop.scan c.loop.plans.items (returns-clause-ok c)
