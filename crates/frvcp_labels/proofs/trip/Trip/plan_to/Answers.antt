use Rattle.std.proofs.Common.{◌∙◌, Option, ℕ, ap, subst, sym}
use Rattle.std.proofs.lemmas.Option.{same_Some, slice_get_within}
use Rattle.label_pool.specs.declared.label.Label.{Label}
use Rattle.route_steps.specs.declared.state.State.{State}
use Rattle.frvcp_labels.specs.Answers.{IsFastestBelow, IsHome, IsHomeOrNone}
use Rattle.frvcp_labels.proofs.RoutePlans.{fastest_home, none_below_bar}
use Rattle.frvcp_labels.proofs.trip.Trip.plan_to.Goals as goal

pub returns-in_default : goal.returns-in_default
returns-in_default c =
    none_below_bar c.args.self.now c.args.bar c.requires.pool.trip (subst (λ (o : Option ℕ). IsHomeOrNone c.args.self.now c.args.pool.now.labels c.args.bar o) c.in_default.is c.requires.home)

pub stops_to-requires-clause-known : goal.stops_to-requires-clause-known
stops_to-requires-clause-known c =
    let is : IsHome c.args.self.now c.args.pool.now.labels c.args.bar c.in-Some.i = subst (λ (o : Option ℕ). IsHomeOrNone c.args.self.now c.args.pool.now.labels c.args.bar o) c.in-Some.is c.requires.home in
    slice_get_within c.args.pool.now.labels c.in-Some.i is.label is.here

pub stops_to-requires-clause-home : goal.stops_to-requires-clause-home
stops_to-requires-clause-home c label here =
    let is : IsHome c.args.self.now c.args.pool.now.labels c.args.bar c.in-Some.i = subst (λ (o : Option ℕ). IsHomeOrNone c.args.self.now c.args.pool.now.labels c.args.bar o) c.in-Some.is c.requires.home in
    ap (λ (l : Label State). l.value.passed) (same_Some label is.label (sym here ∙ is.here)) ∙ is.home

pub returns : goal.returns
returns c =
    let is : IsHome c.args.self.now c.args.pool.now.labels c.args.bar c.in-Some.i = subst (λ (o : Option ℕ). IsHomeOrNone c.args.self.now c.args.pool.now.labels c.args.bar o) c.in-Some.is c.requires.home in
    subst (λ stops. IsFastestBelow c.args.self.now.network c.args.self.now.route c.args.self.now.start c.args.bar stops) (sym c.from_vec.ensures)
    (fastest_home c.args.self.now c.args.pool.now.labels c.args.bar c.in-Some.i c.in_ok-stops.stops.items c.requires.pool.trip is c.in_ok-stops.ensures)
