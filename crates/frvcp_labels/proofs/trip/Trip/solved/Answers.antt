use Rattle.frvcp_labels.proofs.RoutePlans.{in_time_answer}
use Rattle.frvcp_labels.proofs.trip.Trip.solved.Goals as goal

pub returns-clause-plan : goal.returns-clause-plan
returns-clause-plan c = in_time_answer c.args.self.now.network c.args.self.now.route c.args.self.now.start c.past_limit-past.result c.in_ok-plan.plan c.past_limit-past.ensures c.in_ok-plan.ensures
