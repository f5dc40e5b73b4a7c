use Rattle.std.proofs.Common.{rules, arith}
use Rattle.std.proofs.lemmas.Grind.{common_steps}
use Rattle.near_text.proofs.MemberLoops.{no_first, own-among, own-begin, own-break, own-ends, own-go_on, own-no_end, own-shorter}
use Rattle.tree_text.proofs.reading.nears.take_own_members.Goals as goal

pub returns-in_err-last-clause-fault : goal.returns-in_err-last-clause-fault
returns-in_err-last-clause-fault c =
    let broken = no_first c.args.inst.now c.args.number c.requires c.args.scan.now _ c.in_err-last.ensures.fault in
    search rules

pub loop-at-init : goal.loop-at-init
loop-at-init c = λ within.
    own-begin c.args.inst.now c.args.number within c.args.scan.now c.take_member.new.scan c.empty.result c.with-set.result c.place-at.result c.in_ok-last.last c.place-at.ensures.place
    c.in_ok-last.ensures.ok c.in_ok-last.ensures.some c.in_ok-last.ensures.place c.empty.ensures c.with-set.ensures.members

pub returns-in_err-last-2-clause-fault : goal.returns-in_err-last-2-clause-fault
returns-in_err-last-2-clause-fault c =
    let broken = own-break c.args.inst.now c.args.number c.requires c.args.scan.now c.loop-at.scan c.take_if.new.self c.loop-at.set c.loop-at.at c.loop-at.last _ (c.loop-at.invariant c.requires) c.loop-at-test.ensures c.in_err-last-2.ensures.fault in
    search rules

pub loop-at-smaller : goal.loop-at-smaller
loop-at-smaller c =
    own-shorter c.args.inst.now c.args.number c.requires c.loop-at.scan c.take_if.new.self c.take_member-in-loop-at.new.scan c.loop-at.last c.in_ok-last-2.last c.loop-at-test.ensures c.in_ok-last-2.ensures.ok

pub loop-at-preserved : goal.loop-at-preserved
loop-at-preserved c = λ within.
    own-go_on c.args.inst.now c.args.number within c.args.scan.now c.loop-at.scan c.take_if.new.self c.take_member-in-loop-at.new.scan c.loop-at.set c.with-set-in-loop-at.result c.loop-at.at c.place-at-in-loop-at.result c.loop-at.last c.in_ok-last-2.last
    (c.loop-at.invariant within) c.place-at-in-loop-at.ensures.place c.loop-at-test.ensures c.in_ok-last-2.ensures.ok c.in_ok-last-2.ensures.some c.in_ok-last-2.ensures.place c.in_ok-last-2.ensures.above c.with-set-in-loop-at.ensures.members

pub returns-in_err-take_end-clause-fault : goal.returns-in_err-take_end-clause-fault
returns-in_err-take_end-clause-fault c =
    let broken = own-no_end c.args.inst.now c.args.number c.requires c.args.scan.now c.loop-at.scan c.take_if.new.self c.loop-at.set c.loop-at.at c.loop-at.last c.has.result c.has.ensures.value _ (c.loop-at.invariant c.requires) c.loop-at-test.ensures c.in_err-take_end.ensures.fault in
    search rules

pub returns-clause-ok : goal.returns-clause-ok
returns-clause-ok c =
    own-ends c.args.inst.now c.args.number c.requires c.args.scan.now c.loop-at.scan c.take_if.new.self c.take_end.new.scan c.loop-at.set c.loop-at.at c.loop-at.last c.has.result c.has.ensures.value (c.loop-at.invariant c.requires) c.loop-at-test.ensures c.in_ok-take_end.ensures.ok

pub returns-clause-among : goal.returns-clause-among
returns-clause-among c = own-among c.args.inst.now c.args.number c.requires c.args.scan.now c.loop-at.scan c.loop-at.set c.loop-at.at c.loop-at.last (c.loop-at.invariant c.requires)

pub returns-clause-kept : goal.returns-clause-kept
returns-clause-kept = grind (arith, common_steps)
