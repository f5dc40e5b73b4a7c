use Rattle.std.proofs.Common.{◌≡◌, ◌∙◌, ◌+◌, ◌*◌, ◌<◌, ℕ, List, ap, arith, length, subst}
use Rattle.std.proofs.lemmas.Grind.{common_steps}
use Rattle.std.specs.Prelude.{slice_index}
use Rattle.std.proofs.lemmas.List.{get_or_default}
use Rattle.ev_model.specs.Network.{node_count}
use Rattle.frvcp_labels.specs.Rest.{IsBelowPoints, IsRestBound}
use Rattle.route_steps.specs.Trips.{Journey}
use Rattle.frvcp_labels.proofs.RestLaw.{home_below, total_below}
use Rattle.frvcp_labels.proofs.trip.Trip.key.Goals as goal

pub returns-clause-below : goal.returns-clause-below
returns-clause-below c v stops holds rest =
    let t = c.args.self.now in
    let s = c.args.state.now in
    let least = c.self.inside.rest.now.least.items in
    let rate = c.self.inside.rest.now.rate in
    let bound = subst (λ (j : Journey). IsRestBound j.network j.route c.self.inside.rest.now.rate c.self.inside.rest.now.least.items) c.self.view_is c.self.invariant.rest in
    let count = bound.count in
    let inside : c.bucket.result < length c.self.inside.rest.now.least.items = (let within = c.bucket.ensures.within in omega (arith, within, count)) in
    let read : c.index-rest.result.now ≡ slice_index c.self.inside.rest.now.least.items c.bucket.result =
    c.index-rest.ensures ∙ get_or_default c.self.inside.rest.now.least.items c.bucket.result c.index-rest.result.now 0 inside in
    let at : c.index-rest.result.now ≡ slice_index c.self.inside.rest.now.least.items (c.args.state.now.passed * node_count c.args.self.now.network + c.args.state.now.node) =
    read ∙ ap (λ i. slice_index c.self.inside.rest.now.least.items i) c.bucket.ensures.value in
    let below = subst (λ (ps : List (ℕ × ℕ)). IsBelowPoints c.self.inside.rest.now.rate (slice_index c.self.inside.rest.now.least.items (c.args.state.now.passed * node_count c.args.self.now.network + c.args.state.now.node)) ps c.least_total.result) c.points.ensures.value
    (subst (λ x. IsBelowPoints c.self.inside.rest.now.rate x c.points.result.now c.least_total.result) at c.least_total.ensures) in
    let own = home_below t s c.least-least.result.0 c.least-least.result.1 c.least-least.ensures.valid c.least-least.ensures.level c.least-least.ensures.time v stops holds rest in
    let other = total_below t rate least s c.least_total.result bound c.requires.state.node c.points.ensures.valid below v stops holds rest in
    omega (arith, own, other)

pub returns-clause-valid : goal.returns-clause-valid
returns-clause-valid = grind (arith, common_steps)

pub returns-then-state-end-clause-home : goal.returns-then-state-end-clause-home
returns-then-state-end-clause-home = grind (arith, common_steps)

pub index-rest-requires : goal.index-rest-requires
index-rest-requires = grind (arith, common_steps)
