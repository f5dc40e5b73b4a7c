use Rattle.std.proofs.Common.{ℕ, ◌≡◌, ◌∙◌, ◌+◌, ◌*◌, ◌<◌, ◌≤◌, Option, ap, arith, length, subst, sym}
use Rattle.std.specs.Prelude.{slice_index}
use Rattle.std.proofs.lemmas.Bool.{leb-true}
use Rattle.std.proofs.lemmas.List.{get_or_default}
use Rattle.ev_model.specs.Network.{node_count}
use Rattle.frvcp_labels.specs.Rest.{IsBelowPoints, IsRestBound, step_cost}
use Rattle.frvcp_labels.specs.Search.{IsLateTo}
use Rattle.route_steps.specs.Trips.{Journey}
use Rattle.frvcp_labels.proofs.LateStops.{late_to}
use Rattle.frvcp_labels.proofs.trip.Trip.is_late_over.Goals as goal

pub returns : goal.returns
returns c over =
    let t = c.args.self.now in
    let rest = c.self.inside.rest.now in
    let bound = subst (λ (j : Journey). IsRestBound j.network j.route c.self.inside.rest.now.rate c.self.inside.rest.now.least.items) c.self.view_is c.self.invariant.rest in
    let count = bound.count in
    let inside : c.bucket.result < length c.self.inside.rest.now.least.items = (let within = c.bucket.ensures.within in omega (arith, within, count)) in
    let read : c.index-rest.result.now ≡ slice_index c.self.inside.rest.now.least.items c.bucket.result =
    c.index-rest.ensures ∙ get_or_default c.self.inside.rest.now.least.items c.bucket.result c.index-rest.result.now 0 inside in
    let at : c.index-rest.result.now ≡ slice_index c.self.inside.rest.now.least.items (c.args.passed * node_count c.args.self.now.network + c.args.to) =
    read ∙ ap (λ i. slice_index c.self.inside.rest.now.least.items i) c.bucket.ensures.value in
    let below : IsBelowPoints c.self.inside.rest.now.rate c.saturating_add-on.result c.args.from.now.value c.least_total.result =
    subst (λ ps. IsBelowPoints c.self.inside.rest.now.rate c.saturating_add-on.result ps c.least_total.result) c.points.ensures.value c.least_total.ensures in
    let cost : c.cost.result ≤ step_cost c.args.self.now.network c.self.inside.rest.now.rate c.args.from.now.node c.args.to =
    subst (λ (j : Journey). c.cost.result ≤ step_cost j.network c.self.inside.rest.now.rate c.args.from.now.node c.args.to) c.self.view_is c.cost.ensures in
    let sum : c.saturating_add-on.result ≤ c.cost.result + slice_index c.self.inside.rest.now.least.items (c.args.passed * node_count c.args.self.now.network + c.args.to) = omega (arith, at) in
    let past : c.in-Some.bar ≤ c.least_total.result = (let same = c.from.ensures in let test = leb-true c.in-Some.bar c.from.result over in omega (arith, test, same)) in
    subst (λ (b : Option ℕ). IsLateTo c.args.self.now b c.args.from.now c.args.passed c.args.to) (sym c.in-Some.is)
    (late_to t rest.rate rest.least.items bound c.args.from.now c.args.passed c.args.to c.cost.result c.saturating_add-on.result c.least_total.result c.in-Some.bar c.points.ensures.valid cost sum below past)
