use Rattle.std.proofs.Common.{rules}
use Rattle.certificate_parts.proofs.PlanParts.{reads-plan}
use Rattle.certificate_parts.proofs.reading.plan.take_plan.Goals as goal

pub returns-clause-fits : goal.returns-clause-fits
returns-clause-fits c = (reads-plan.standing c.args.scan.now c.take_stops.new.scan c.in_ok-plan.plan (search rules)).0
