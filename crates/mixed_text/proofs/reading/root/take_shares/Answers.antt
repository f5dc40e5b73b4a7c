use Rattle.std.proofs.Common.{arith, rules, ◌≡◌, ◌≢◌, ◌+◌, ◌-◌, Err, subst, sym}
use Rattle.std.specs.List.{All}
use Rattle.std.proofs.lemmas.List.Elements.{All-nil}
use Rattle.ev_text.specs.Readers.{so_many}
use Rattle.ev_text.proofs.Loops.{many-begins, many-ends}
use Rattle.certificate_parts.specs.Refusals.{or_refused}
use Rattle.mixed_model.specs.Ranges.{ShareFits}
use Rattle.mixed_text.specs.Reading.{mixed_share_at}
use Rattle.certificate_parts.specs.declared.cert_text.CertText.TheVariants.{Memory}
use Rattle.certificate_parts.proofs.ItemLoops.{all_more, breaks, goes_on, many_length}
use Rattle.mixed_text.proofs.reading.root.take_shares.Goals as goal

pub loop-init : goal.loop-init
loop-init c = (
  many-begins (mixed_share_at c.args.kinds) c.args.count (c.args.count - 0) c.new-shares.result.items c.args.scan.now (omega arith) c.new-shares.ensures.items,
  subst (All (ShareFits c.args.kinds)) (sym c.new-shares.ensures.items) (All-nil (ShareFits c.args.kinds)),
)

pub loop-preserved : goal.loop-preserved
loop-preserved c = (
  goes_on (mixed_share_at c.args.kinds) c.args.scan.now c.loop.scan c.take_share.new.scan c.args.count (c.args.count - c.loop.counter) (c.args.count - (c.loop.counter + 1)) c.loop.shares.items c.push.new.self.items c.in_ok-share.share
      (omega arith) c.loop.invariant.0 c.in_ok-share.ensures.ok c.in_ok-push.ensures.items,
  all_more (ShareFits c.args.kinds) c.loop.shares.items c.push.new.self.items c.in_ok-share.share c.loop.invariant.1 c.in_ok-share.ensures.fits c.in_ok-push.ensures.items,
)

pub returns-in_err-share-clause-fault : goal.returns-in_err-share-clause-fault
returns-in_err-share-clause-fault c =
    let fault = c.in_err-share.field-0.0 in
    let broken : fault ≢ Memory → or_refused (so_many c.args.count (mixed_share_at c.args.kinds) c.args.scan.now) ≡ Err fault =
    λ known. breaks (mixed_share_at c.args.kinds) c.args.scan.now c.loop.scan c.args.count (c.args.count - c.loop.counter) (c.args.count - (c.loop.counter + 1)) c.loop.shares.items fault (omega arith) c.loop.invariant.0 (c.in_err-share.ensures.fault known) in
    search rules

pub returns-clause-ok : goal.returns-clause-ok
returns-clause-ok c = many-ends (mixed_share_at c.args.kinds) (so_many c.args.count (mixed_share_at c.args.kinds) c.args.scan.now) c.loop.scan _ c.loop.shares.items (omega arith) c.loop.invariant.0

pub returns-clause-fits : goal.returns-clause-fits
returns-clause-fits c = c.loop.invariant.1

pub returns-clause-count : goal.returns-clause-count
returns-clause-count c = many_length (mixed_share_at c.args.kinds) c.args.count c.args.scan.now c.loop.scan c.loop.shares.items (returns-clause-ok c)
