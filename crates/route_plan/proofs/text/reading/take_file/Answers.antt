use Rattle.std.proofs.Common.{rules}
use Rattle.route_plan.proofs.PlanLoops.{no_first_line}
use Rattle.route_plan.proofs.text.reading.take_file.Goals as goal

pub returns-in_err-word-clause-fault : goal.returns-in_err-word-clause-fault
returns-in_err-word-clause-fault c =
    let missing = no_first_line c.args.scan.now _ c.in_err-word.ensures.fault in
    search rules
