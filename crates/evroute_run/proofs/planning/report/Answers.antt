use Rattle.evroute_run.proofs.SearchReports.{are_outcomes}
use Rattle.evroute_run.proofs.planning.report.Goals as goal

pub push_fleet_report-requires : goal.push_fleet_report-requires
push_fleet_report-requires c =
    are_outcomes c.args.inst.now c.requires.outcome.0 c.args.outcome.now c.looked_at.result c.root_line.result
    c.requires.outcome.1 c.root_line.ensures.told c.root_line.ensures.lowest

pub root_line-requires-clause-network : goal.root_line-requires-clause-network
root_line-requires-clause-network c = c.requires.outcome.1.network
