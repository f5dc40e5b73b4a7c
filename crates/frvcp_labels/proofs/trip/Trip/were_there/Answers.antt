use Rattle.std.proofs.Common.{◌∙◌, ap, subst}
use Rattle.label_steps.specs.Arrivals.{ArrivesAs}
use Rattle.route_steps.specs.Trips.{Journey}
use Rattle.frvcp_labels.proofs.ChargedStates.{none_held, was_held}
use Rattle.frvcp_labels.proofs.trip.Trip.were_there.Goals as goal

pub returns-in-Some : goal.returns-in-Some
returns-in-Some c is =
    was_held c.args.self.now c.args.pool.now.labels c.args.from.now c.args.passed c.args.to c.min_q.result c.in_ok-arrived.field-0 c.in-Some.arrived c.in-Some.is (c.min_q.ensures.value ∙ ap (λ (j : Journey). j.network.reserve) c.self.view_is) c.if-to-eq0.false
    (subst (λ (j : Journey). ArrivesAs j.network c.args.from.now.value c.args.from.now.node c.args.to c.min_q.result c.in_ok-arrived.field-0) c.self.view_is c.in_ok-arrived.ensures.left) (c.is_covered.ensures is)

pub returns-in-None : goal.returns-in-None
returns-in-None c _ =
    none_held c.args.self.now c.args.pool.now.labels c.args.from.now c.args.passed c.args.to c.min_q.result c.in_ok-arrived.field-0 c.in-None.is (c.min_q.ensures.value ∙ ap (λ (j : Journey). j.network.reserve) c.self.view_is) c.if-to-eq0.false
    (subst (λ (j : Journey). ArrivesAs j.network c.args.from.now.value c.args.from.now.node c.args.to c.min_q.result c.in_ok-arrived.field-0) c.self.view_is c.in_ok-arrived.ensures.left)
