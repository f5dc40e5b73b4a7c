use Rattle.std.proofs.Common.{arith, rules, ◌≡◌, ◌≢◌, ◌+◌, ◌-◌, Err, subst, sym}
use Rattle.std.specs.List.{All}
use Rattle.std.proofs.lemmas.List.Elements.{All-nil}
use Rattle.ev_text.specs.Readers.{so_many}
use Rattle.ev_text.proofs.Loops.{many-begins, many-ends}
use Rattle.certificate_parts.specs.Refusals.{or_refused}
use Rattle.mixed_model.specs.Ranges.{RouteFits}
use Rattle.mixed_text.specs.Reading.{mixed_column_at}
use Rattle.certificate_parts.specs.declared.cert_text.CertText.TheVariants.{Memory}
use Rattle.certificate_parts.proofs.ItemLoops.{all_more, breaks, goes_on, many_length}
use Rattle.mixed_text.proofs.reading.root.take_columns.Goals as goal

pub loop-init : goal.loop-init
loop-init c = (
  many-begins (mixed_column_at c.args.kinds) c.args.count (c.args.count - 0) c.new-columns.result.items c.args.scan.now (omega arith) c.new-columns.ensures.items,
  subst (All (RouteFits c.args.kinds)) (sym c.new-columns.ensures.items) (All-nil (RouteFits c.args.kinds)),
)

pub loop-preserved : goal.loop-preserved
loop-preserved c = (
  goes_on (mixed_column_at c.args.kinds) c.args.scan.now c.loop.scan c.take_column.new.scan c.args.count (c.args.count - c.loop.counter) (c.args.count - (c.loop.counter + 1)) c.loop.columns.items c.push.new.self.items c.in_ok-column.column
      (omega arith) c.loop.invariant.0 c.in_ok-column.ensures.ok c.in_ok-push.ensures.items,
  all_more (RouteFits c.args.kinds) c.loop.columns.items c.push.new.self.items c.in_ok-column.column c.loop.invariant.1 c.in_ok-column.ensures.fits c.in_ok-push.ensures.items,
)

pub returns-in_err-column-clause-fault : goal.returns-in_err-column-clause-fault
returns-in_err-column-clause-fault c =
    let fault = c.in_err-column.field-0.0 in
    let broken : fault ≢ Memory → or_refused (so_many c.args.count (mixed_column_at c.args.kinds) c.args.scan.now) ≡ Err fault =
    λ known. breaks (mixed_column_at c.args.kinds) c.args.scan.now c.loop.scan c.args.count (c.args.count - c.loop.counter) (c.args.count - (c.loop.counter + 1)) c.loop.columns.items fault (omega arith) c.loop.invariant.0 (c.in_err-column.ensures.fault known) in
    search rules

pub returns-clause-ok : goal.returns-clause-ok
returns-clause-ok c = many-ends (mixed_column_at c.args.kinds) (so_many c.args.count (mixed_column_at c.args.kinds) c.args.scan.now) c.loop.scan _ c.loop.columns.items (omega arith) c.loop.invariant.0

pub returns-clause-fits : goal.returns-clause-fits
returns-clause-fits c = c.loop.invariant.1

pub returns-clause-count : goal.returns-clause-count
returns-clause-count c = many_length (mixed_column_at c.args.kinds) c.args.count c.args.scan.now c.loop.scan c.loop.columns.items (returns-clause-ok c)
