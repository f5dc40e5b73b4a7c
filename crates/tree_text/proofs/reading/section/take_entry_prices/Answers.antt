use Rattle.std.proofs.Common.{FitsSigned, arith, rules, ◌+◌, ◌-◌}
use Rattle.std.specs.Int.{w128}
use Rattle.std.proofs.lemmas.Int.{to_z-of_z}
use Rattle.ev_text.specs.Readers.{so_many}
use Rattle.ev_text.proofs.Loops.{many-begins, many-breaks, many-ends}
use Rattle.certificate_parts.proofs.ItemLoops.{goes_on}
use Rattle.tree_text.specs.Reading.{entry_at}
use Rattle.tree_text.proofs.reading.section.take_entry_prices.Goals as goal

pub loop-init : goal.loop-init
loop-init c = many-begins entry_at c.args.count (c.args.count - 0) c.new-prices.result.items c.args.scan.now (omega arith) c.new-prices.ensures.items

pub loop-preserved : goal.loop-preserved
loop-preserved c =
    let wide : FitsSigned w128 c.in_ok-price.price = search rules in
    goes_on entry_at c.args.scan.now c.loop.scan c.take_entry_price.new.scan c.args.count (c.args.count - c.loop.counter) (c.args.count - (c.loop.counter + 1)) c.loop.prices.items c.push.new.self.items c.in_ok-price.price
    (omega arith) c.loop.invariant c.in_ok-price.ensures.ok (simp to_z-of_z at c.in_ok-push.ensures.items)

pub returns-in_err-price-clause-fault : goal.returns-in_err-price-clause-fault
returns-in_err-price-clause-fault c =
    let broken = many-breaks entry_at (so_many c.args.count entry_at c.args.scan.now) c.loop.scan (c.args.count - c.loop.counter) (c.args.count - (c.loop.counter + 1)) c.loop.prices.items _ (omega arith) c.loop.invariant c.in_err-price.ensures.fault in
    search rules

pub returns-clause-ok : goal.returns-clause-ok
returns-clause-ok c = many-ends entry_at (so_many c.args.count entry_at c.args.scan.now) c.loop.scan _ c.loop.prices.items (omega arith) c.loop.invariant
