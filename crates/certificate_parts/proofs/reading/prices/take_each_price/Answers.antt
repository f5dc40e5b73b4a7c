use Rattle.std.proofs.Common.{FitsSigned, arith, rules, ◌+◌, ◌-◌}
use Rattle.std.specs.Int.{w128}
use Rattle.std.proofs.lemmas.Int.{to_z-of_z}
use Rattle.certificate_parts.proofs.RowReading.{prices-break, prices-go_on, prices-no_mark}
use Rattle.certificate_parts.proofs.reading.prices.take_each_price.Goals as goal

pub loop-preserved : goal.loop-preserved
loop-preserved c =
    let wide : FitsSigned w128 c.in_ok-price.price = search rules in
    prices-go_on c.args.scan.now c.args.count c.loop.scan c.word.new.self c.signed-in-loop.new.self (c.args.count - c.loop.counter) (c.args.count - (c.loop.counter + 1)) c.loop.prices.items c.push-in-loop.new.self.items c.in_ok-price.price
    (omega arith) c.loop.invariant c.in_ok-word.ensures.ok c.in_ok-price.ensures.ok (simp to_z-of_z at c.in_ok-push-2.ensures.items)

pub returns-in_err-word-clause-fault : goal.returns-in_err-word-clause-fault
returns-in_err-word-clause-fault c =
    let broken = prices-no_mark c.args.scan.now c.args.count c.loop.scan (c.args.count - c.loop.counter) (c.args.count - (c.loop.counter + 1)) c.loop.prices.items _ (omega arith) c.loop.invariant c.in_err-word.ensures.fault in
    search rules

pub returns-in_err-price-clause-fault : goal.returns-in_err-price-clause-fault
returns-in_err-price-clause-fault c =
    let broken = prices-break c.args.scan.now c.args.count c.loop.scan c.word.new.self (c.args.count - c.loop.counter) (c.args.count - (c.loop.counter + 1)) c.loop.prices.items _ (omega arith) c.loop.invariant c.in_ok-word.ensures.ok c.in_err-price.ensures.fault in
    search rules
