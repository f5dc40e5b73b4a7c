use Rattle.std.proofs.Common.{arith, rules, ◌+◌, ◌-◌}
use Rattle.near_text.proofs.PriceRows.{prices-break, prices-go_on, prices-no_mark}
use Rattle.near_text.proofs.reading.prices.take_each_price.Goals as goal

pub loop-preserved : goal.loop-preserved
loop-preserved c =
    prices-go_on c.args.scan.now c.args.count c.loop.scan c.word.new.self c.whole-in-loop.new.self (c.args.count - c.loop.counter) (c.args.count - (c.loop.counter + 1)) c.loop.prices.items c.push-in-loop.new.self.items _
    (omega arith) c.loop.invariant c.in_ok-word.ensures.ok c.in_ok-price.ensures.ok (search rules)

pub returns-in_err-word-clause-fault : goal.returns-in_err-word-clause-fault
returns-in_err-word-clause-fault c =
    let broken = prices-no_mark c.args.scan.now c.args.count c.loop.scan (c.args.count - c.loop.counter) (c.args.count - (c.loop.counter + 1)) c.loop.prices.items _ (omega arith) c.loop.invariant c.in_err-word.ensures.fault in
    search rules

pub returns-in_err-price-clause-fault : goal.returns-in_err-price-clause-fault
returns-in_err-price-clause-fault c =
    let broken = prices-break c.args.scan.now c.args.count c.loop.scan c.word.new.self (c.args.count - c.loop.counter) (c.args.count - (c.loop.counter + 1)) c.loop.prices.items _ (omega arith) c.loop.invariant c.in_ok-word.ensures.ok c.in_err-price.ensures.fault in
    search rules
