use Rattle.std.proofs.Common.{rules, arith}
use Rattle.std.proofs.lemmas.Grind.{elements}
use Rattle.bound_certificate.proofs.HeadLines.{other_home}
use Rattle.bound_certificate.proofs.text.reading.take_head.Goals as goal

pub returns-in_err-take_own-2-clause-fault : goal.returns-in_err-take_own-2-clause-fault
returns-in_err-take_own-2-clause-fault c =
    let broken =
    other_home c.args.inst.now c.args.scan.now c.word-2.new.self c.word-3.new.self c.take_own.new.scan c.word-4.new.self c.min_q.result c.home_q.result _
    (search rules) c.in_ok-word.ensures.ok c.in_ok-word-2.ensures.ok c.min_q.ensures.value c.in_ok-take_own.ensures.ok c.in_ok-word-3.ensures.ok c.home_q.ensures.value c.in_err-take_own-2.ensures.fault in
    search rules

pub returns-clause-ok : goal.returns-clause-ok
returns-clause-ok = grind (arith, elements)

pub returns-in_err-take_own-clause-fault : goal.returns-in_err-take_own-clause-fault
returns-in_err-take_own-clause-fault = grind (arith, elements)
