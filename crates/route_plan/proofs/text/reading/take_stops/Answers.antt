use Rattle.std.proofs.Common.{rules, ◌≡◌, ◌∙◌, ℕ, List, [], ◌∷◌, ◌++◌, Result, Ok, ap, sym}
use Rattle.ev_model.specs.declared.Stop.{Stop}
use Rattle.ev_text.specs.declared.TextFault.{TextFault}
use Rattle.route_plan.proofs.PlanLoops.{begins_stops, ends_line, next_stop, no_line_end, no_stop, shorter_line}
use Rattle.route_plan.proofs.text.reading.take_stops.Goals as goal

pub loop-scan-init : goal.loop-scan-init
loop-scan-init c =
    let first = c.in_ok-first.first in
    let only : c.push.new.self.items ≡ first ∷ [] = c.in_ok-push.ensures.items ∙ ap (λ xs. xs ++ first ∷ []) c.new-stops.ensures.items in
    begins_stops c.args.scan.now c.take_stop.new.scan first c.push.new.self.items c.in_ok-first.ensures.ok only

pub loop-scan-smaller : goal.loop-scan-smaller
loop-scan-smaller c = shorter_line c.loop-scan.scan c.take_if.new.self c.take_stop-in-loop-scan.new.scan c.in_ok-next.next c.loop-scan-test.ensures c.in_ok-next.ensures.ok

pub loop-scan-preserved : goal.loop-scan-preserved
loop-scan-preserved c =
    next_stop c.args.scan.now c.loop-scan.scan c.take_if.new.self c.take_stop-in-loop-scan.new.scan c.loop-scan.stops.items c.push-in-loop-scan.new.self.items c.in_ok-next.next
    c.loop-scan.invariant c.loop-scan-test.ensures c.in_ok-next.ensures.ok c.in_ok-push-2.ensures.items

pub returns-in_err-next-clause-fault : goal.returns-in_err-next-clause-fault
returns-in_err-next-clause-fault c =
    let broken = no_stop c.args.scan.now c.loop-scan.scan c.take_if.new.self c.loop-scan.stops.items _ c.loop-scan.invariant c.loop-scan-test.ensures c.in_err-next.ensures.fault in
    search rules

pub returns-in_err-word-clause-fault : goal.returns-in_err-word-clause-fault
returns-in_err-word-clause-fault c =
    let broken = no_line_end c.args.scan.now c.loop-scan.scan c.take_if.new.self c.loop-scan.stops.items _ c.loop-scan.invariant c.loop-scan-test.ensures c.in_err-word.ensures.fault in
    search rules

pub returns-clause-ok : goal.returns-clause-ok
returns-clause-ok c =
    ends_line c.args.scan.now c.loop-scan.scan c.take_if.new.self c.word.new.self c.loop-scan.stops.items c.loop-scan.invariant c.loop-scan-test.ensures c.in_ok-word.ensures.ok
    ∙ ap (λ (stops : List Stop). let r : Result (List Stop × (List ℕ × ℕ)) TextFault = Ok (stops, c.word.new.self) in r) (sym c.from_vec.ensures)
