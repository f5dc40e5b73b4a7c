use Rattle.std.proofs.Common.{rules, ◌<◌}
use Rattle.certificate_parts.specs.Ranges.{customer_count}
use Rattle.tree_text.proofs.SetLoops.{sets-break, sets-go_on}
use Rattle.tree_text.proofs.reading.nears.take_nears.Goals as goal

pub returns-in_err-set-clause-fault : goal.returns-in_err-set-clause-fault
returns-in_err-set-clause-fault c =
    let less : c.loop-number.number < customer_count c.args.inst.now = search rules in
    let broken = sets-break c.args.inst.now c.args.scan.now c.loop-number.scan c.loop-number.sets.items c.loop-number.number _ less c.loop-number.invariant c.in_err-set.ensures.fault in
    search rules

pub loop-number-preserved : goal.loop-number-preserved
loop-number-preserved c =
    let less : c.loop-number.number < customer_count c.args.inst.now = search rules in
    sets-go_on c.args.inst.now c.args.scan.now c.loop-number.scan c.take_near.new.scan c.loop-number.sets.items c.push.new.self.items c.in_ok-set.set c.loop-number.number less c.loop-number.invariant
    c.in_ok-set.ensures.ok c.in_ok-set.ensures.among c.in_ok-set.ensures.own c.in_ok-set.ensures.kept c.in_ok-push.ensures.items
