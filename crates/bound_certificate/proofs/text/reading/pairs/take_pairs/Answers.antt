use Rattle.std.proofs.Common.{arith, ◌∙◌, ◌+◌, ◌-◌, length, ap}
use Rattle.bound_certificate.proofs.PairReading.{pairs-begin, pairs-go_on}
use Rattle.bound_certificate.proofs.text.reading.pairs.take_pairs.Goals as goal

pub loop-init : goal.loop-init
loop-init c = pairs-begin c.args.inst.now c.args.scan.now c.args.count (c.args.count - 0) c.new-pairs.result (omega arith) c.new-pairs.ensures.pairs (c.new-pairs.ensures.customers ∙ ap (λ xs. length xs) c.customers.ensures.value)

pub loop-preserved : goal.loop-preserved
loop-preserved c =
    pairs-go_on c.args.inst.now c.args.scan.now c.loop.scan c.take_pair.new.scan c.args.count (c.args.count - c.loop.counter) (c.args.count - (c.loop.counter + 1)) c.loop.pairs c.forbid.new.self c.loop.last c.in_ok-i.i c.in_ok-i.j
    (omega arith) c.loop.invariant c.in_ok-i.ensures.ok c.in_ok-i.ensures.first c.in_ok-i.ensures.second c.in_ok-i.ensures.rises.1 c.forbid.ensures.pairs c.forbid.ensures.customers
