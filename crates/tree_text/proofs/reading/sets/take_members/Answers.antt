use Rattle.std.proofs.Common.{rules, arith}
use Rattle.std.proofs.lemmas.Grind.{common_steps}
use Rattle.certificate_parts.proofs.SetReading.{members-begin, members-break, members-break_off, members-end, members-go_on, members-shorter}
use Rattle.instance_reader.specs.Instance.{customer_nodes}
use Rattle.certificate_parts.specs.Written.{nodes_in}
use Rattle.tree_text.proofs.LeafFits.{some_are_read}
use Rattle.tree_text.proofs.reading.sets.take_members.Goals as goal

pub loop-last-init : goal.loop-last-init
loop-last-init c =
    members-begin c.args.inst.now c.args.mark c.args.scan.now c.take_member.new.scan c.empty.result c.with-set.result c.in_ok-last.last
    c.in_ok-last.ensures.ok c.in_ok-last.ensures.some c.in_ok-last.ensures.place c.empty.ensures c.with-set.ensures.members

pub loop-last-smaller : goal.loop-last-smaller
loop-last-smaller c =
    members-shorter c.args.inst.now c.args.mark c.loop-last.last c.in_ok-last-2.last c.loop-last.scan c.take_if.new.self c.take_member-in-loop-last.new.scan c.loop-last-test.ensures c.in_ok-last-2.ensures.ok

pub loop-last-preserved : goal.loop-last-preserved
loop-last-preserved c =
    members-go_on c.args.inst.now c.args.mark c.args.scan.now c.loop-last.scan c.take_if.new.self c.take_member-in-loop-last.new.scan c.loop-last.set c.with-set-in-loop-last.result c.loop-last.last c.in_ok-last-2.last
    c.loop-last.invariant c.loop-last-test.ensures c.in_ok-last-2.ensures.ok c.in_ok-last-2.ensures.some c.in_ok-last-2.ensures.place c.in_ok-last-2.ensures.above c.with-set-in-loop-last.ensures.members

pub returns-in_err-last-2-clause-fault : goal.returns-in_err-last-2-clause-fault
returns-in_err-last-2-clause-fault c =
    let broken = members-break c.args.inst.now c.args.mark c.args.scan.now c.loop-last.scan c.take_if.new.self c.loop-last.set c.loop-last.last _ c.loop-last.invariant c.loop-last-test.ensures c.in_err-last-2.ensures.fault in
    search rules

pub returns-in_err-word-clause-fault : goal.returns-in_err-word-clause-fault
returns-in_err-word-clause-fault c =
    let broken = members-break_off c.args.inst.now c.args.mark c.args.scan.now c.loop-last.scan c.take_if.new.self c.loop-last.set c.loop-last.last _ c.loop-last.invariant c.loop-last-test.ensures c.in_err-word.ensures.fault in
    search rules

pub returns-clause-ok : goal.returns-clause-ok
returns-clause-ok c =
    members-end c.args.inst.now c.args.mark c.args.scan.now c.loop-last.scan c.take_if.new.self c.word.new.self c.loop-last.set c.loop-last.last c.loop-last.invariant c.loop-last-test.ensures c.in_ok-word.ensures.ok

pub returns-clause-within : goal.returns-clause-within
returns-clause-within = grind (arith, common_steps)

pub returns-clause-some : goal.returns-clause-some
returns-clause-some c = some_are_read c.args.inst.now c.args.mark c.args.scan.now c.word.new.self (nodes_in c.loop-last.set 0 (customer_nodes c.args.inst.now)) (returns-clause-ok c)
