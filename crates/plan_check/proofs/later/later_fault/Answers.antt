use Rattle.std.proofs.Common.{◌∙◌, refl, sym, arith}
use Rattle.std.proofs.lemmas.Grind.{common_steps}
use Rattle.plan_check.proofs.VisitCounts.{twice_by, unserved_by}
use Rattle.plan_check.proofs.later.later_fault.Goals as goal

pub returns-in-Some : goal.returns-in-Some
returns-in-Some g c =
    let at = twice_by c.args.inst.now c.count_visits.new.visits g.R.HasStops.stops_of c.args.routes.now c.count_visits.ensures c.first_again.result c.first_again.ensures ∙ c.in-Some.is in
    rw at refl

pub returns-in-Some-first_missed : goal.returns-in-Some-first_missed
returns-in-Some-first_missed g c =
    let none = twice_by c.args.inst.now c.count_visits.new.visits g.R.HasStops.stops_of c.args.routes.now c.count_visits.ensures c.first_again.result c.first_again.ensures ∙ c.in_default.is in
    let at = unserved_by c.args.inst.now c.count_visits.new.visits g.R.HasStops.stops_of c.args.routes.now c.count_visits.ensures c.first_missed.result c.first_missed.ensures ∙ c.in-Some-first_missed.is in
    rw (none, at) refl

pub returns-in-Some-empty_route : goal.returns-in-Some-empty_route
returns-in-Some-empty_route g c =
    let none = twice_by c.args.inst.now c.count_visits.new.visits g.R.HasStops.stops_of c.args.routes.now c.count_visits.ensures c.first_again.result c.first_again.ensures ∙ c.in_default.is in
    let all = unserved_by c.args.inst.now c.count_visits.new.visits g.R.HasStops.stops_of c.args.routes.now c.count_visits.ensures c.first_missed.result c.first_missed.ensures ∙ c.in_default-first_missed.is in
    let at = sym c.empty_route.ensures ∙ c.in-Some-empty_route.is in
    rw (none, all, at) refl

pub returns : goal.returns
returns g c =
    let none = twice_by c.args.inst.now c.count_visits.new.visits g.R.HasStops.stops_of c.args.routes.now c.count_visits.ensures c.first_again.result c.first_again.ensures ∙ c.in_default.is in
    let all = unserved_by c.args.inst.now c.count_visits.new.visits g.R.HasStops.stops_of c.args.routes.now c.count_visits.ensures c.first_missed.result c.first_missed.ensures ∙ c.in_default-first_missed.is in
    let some = sym c.empty_route.ensures ∙ c.in_default-empty_route.is in
    rw (none, all, some) c.stray.ensures

pub empty_route-requires : goal.empty_route-requires
empty_route-requires = grind (arith, common_steps)

pub stray-requires : goal.stray-requires
stray-requires = grind (arith, common_steps)
