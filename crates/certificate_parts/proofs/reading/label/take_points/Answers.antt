use Rattle.std.proofs.Common.{arith, rules, ◌∙◌, ◌∷◌, ◌++◌, [], ap}
use Rattle.certificate_parts.proofs.PointReading.{points-begin, points-break, points-break_off, points-end, points-go_on, points-shorter, points_are_valid, points_fit, points_read}
use Rattle.certificate_parts.proofs.reading.label.take_points.Goals as goal

pub loop-last-init : goal.loop-last-init
loop-last-init c = (
  points-begin c.args.inst.now c.args.scan.now c.take_point.new.scan c.push.new.self.items c.in_ok-last.last c.in_ok-last.ensures.ok (c.in_ok-push.ensures.ok ∙ ap (λ xs. xs ++ c.in_ok-last.last ∷ []) c.new-points.ensures.items),
  c.in_ok-last.ensures.limits.0,
  c.in_ok-last.ensures.limits.1,
)

pub loop-last-smaller : goal.loop-last-smaller
loop-last-smaller c =
    points-shorter c.args.inst.now c.loop-last.last c.in_ok-last-2.last c.loop-last.scan c.take_if.new.self c.take_point-in-loop-last.new.scan c.loop-last-test.ensures c.in_ok-last-2.ensures.ok

pub loop-last-preserved : goal.loop-last-preserved
loop-last-preserved c = (
  points-go_on c.args.inst.now c.args.scan.now c.loop-last.scan c.take_if.new.self c.take_point-in-loop-last.new.scan c.loop-last.points.items c.push-in-loop-last.new.self.items c.loop-last.last c.in_ok-last-2.last
      c.loop-last.invariant.0 c.loop-last-test.ensures c.in_ok-last-2.ensures.ok c.in_ok-push-2.ensures.ok,
  c.loop-last.invariant.1,
  c.loop-last.invariant.2,
)

pub returns-in_err-last-2-clause-fault : goal.returns-in_err-last-2-clause-fault
returns-in_err-last-2-clause-fault c =
    let broken = points-break c.args.inst.now c.args.scan.now c.loop-last.scan c.take_if.new.self c.loop-last.points.items c.loop-last.last _ c.loop-last.invariant.0 c.loop-last-test.ensures c.in_err-last-2.ensures.fault in
    search rules

pub returns-in_err-word-clause-fault : goal.returns-in_err-word-clause-fault
returns-in_err-word-clause-fault c =
    let broken = points-break_off c.args.inst.now c.args.scan.now c.loop-last.scan c.take_if.new.self c.loop-last.points.items c.loop-last.last _ c.loop-last.invariant.0 c.loop-last-test.ensures c.in_err-word.ensures.fault in
    search rules

pub returns-clause-ok : goal.returns-clause-ok
returns-clause-ok c =
    points-end c.args.inst.now c.args.scan.now c.loop-last.scan c.take_if.new.self c.word.new.self c.loop-last.points.items c.loop-last.last c.loop-last.invariant.0 c.loop-last-test.ensures c.in_ok-word.ensures.ok

pub returns-clause-points : goal.returns-clause-points
returns-clause-points c =
    points_are_valid c.args.inst.now c.loop-last.points.items
    (points_read c.args.inst.now (let small = c.loop-last.invariant.1 in omega (arith, small)) (let small = c.loop-last.invariant.2 in omega (arith, small)) c.args.scan.now c.word.new.self c.loop-last.points.items (returns-clause-ok c))

pub returns-clause-fits : goal.returns-clause-fits
returns-clause-fits c =
    points_fit c.args.inst.now c.loop-last.points.items
    (points_read c.args.inst.now (let small = c.loop-last.invariant.1 in omega (arith, small)) (let small = c.loop-last.invariant.2 in omega (arith, small)) c.args.scan.now c.word.new.self c.loop-last.points.items (returns-clause-ok c))
