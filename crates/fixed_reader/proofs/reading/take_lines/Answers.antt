use Rattle.std.proofs.Common.{rules, ◌<◌, length}
use Rattle.ev_text.specs.Scans.{rest_of}
use Rattle.fixed_reader.proofs.LineLoops.{begins_lines, next_line, no_line, shorter_line, something_left}
use Rattle.fixed_reader.proofs.reading.take_lines.Goals as goal

pub loop-scan-init : goal.loop-scan-init
loop-scan-init c = begins_lines c.args.scan.now c.new-stops.result.items c.new-stops.ensures.items

pub loop-scan-smaller : goal.loop-scan-smaller
loop-scan-smaller c = shorter_line c.loop-scan.scan c.take_line.new.scan c.in_ok-stop.stop c.in_ok-stop.ensures.ok

pub loop-scan-preserved : goal.loop-scan-preserved
loop-scan-preserved c =
    let some : 0 < length (rest_of c.loop-scan.scan) = something_left (rest_of c.loop-scan.scan) (λ none. c.loop-scan-test.ensures.rest.1 none) in
    next_line c.args.scan.now c.loop-scan.scan c.take_line.new.scan c.loop-scan.stops.items c.push.new.self.items c.in_ok-stop.stop
    c.loop-scan.invariant some c.in_ok-stop.ensures.ok c.in_ok-push.ensures.items

pub returns-in_err-stop-clause-fault : goal.returns-in_err-stop-clause-fault
returns-in_err-stop-clause-fault c =
    let some : 0 < length (rest_of c.loop-scan.scan) = something_left (rest_of c.loop-scan.scan) (λ none. c.loop-scan-test.ensures.rest.1 none) in
    let broken = no_line c.args.scan.now c.loop-scan.scan c.loop-scan.stops.items _ c.loop-scan.invariant some c.in_err-stop.ensures.fault in
    search rules
