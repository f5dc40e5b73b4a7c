use Rattle.std.proofs.lemmas.Result.{IfOk-weaker}
use Rattle.frvcp_labels.proofs.RoutePlans.{in_time_answer}
use Rattle.frvcp_labels.proofs.trip.Trip.fastest.Goals as goal

pub returns : goal.returns
returns c = IfOk-weaker c.fastest_below.result _ _ (λ answer is. in_time_answer c.args.self.now.network c.args.self.now.route c.args.self.now.start c.past_limit.result answer c.past_limit.ensures is) c.fastest_below.ensures
