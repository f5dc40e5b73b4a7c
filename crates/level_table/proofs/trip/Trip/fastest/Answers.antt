use Rattle.std.proofs.Common.{◌≡◌, ◌∙◌, ◌+◌, ◌≤◌, ℕ, List, Option, None, Some, true, false, is_some, sym, subst, refl, ap, arith}
use Rattle.std.proofs.lemmas.Grind.{common_steps}
use Rattle.std.specs.Option.{IfSome}
use Rattle.std.proofs.lemmas.List.{get_or_read}
use Rattle.ev_model.specs.Feasible.{IsFeasible}
use Rattle.ev_model.specs.Network.{Network, scaled_limit}
use Rattle.ev_model.specs.Route.{FollowsRoute}
use Rattle.ev_model.specs.Time.{time_of}
use Rattle.ev_model.specs.declared.Stop.{Stop}
use Rattle.level_table.specs.Answer.{HasNoWholePlan, IsFastestWhole}
use Rattle.level_table.specs.Table.{IsClosed, IsTable, entry_at}
use Rattle.level_table.specs.Places.{IsTrip, entry_count, index_of}
use Rattle.level_table.specs.Walk.{start_place}
use Rattle.level_table.specs.declared.reach.Reach.{Reach}
use Rattle.level_table.proofs.WayHome.{entry_time, start_bound, time_at}
use Rattle.level_table.proofs.trip.Trip.fastest.Goals as goal

nothing-held : (o : Option Reach) → is_some o ≡ false → o ≡ None
nothing-held None none = refl
nothing-held (Some r) none = cc

-- where the cell of the start holds nothing, a plan would be past the limit
no-plan : (g : Network) (route : List ℕ) (entries : List (Option Reach)) (start : ℕ) → IsTrip g route → IsTable g route entries →
    IsClosed g route entries 0 (entry_count g route) → start ≤ g.capacity → entry_at entries (index_of g (start_place start)) ≡ None → HasNoWholePlan g route start
no-plan g route entries start trip table closed low none = λ stops feasible follows.
    let bound = start_bound g route entries trip table closed stops start low feasible follows in
    let time : time_at g entries (index_of g (start_place start)) ≡ scaled_limit g + 1 = ap (entry_time (scaled_limit g)) none in
    absurd (omega (arith, bound, time, feasible.in_time))

-- and where it holds a time, no plan takes less
fastest-plan : (g : Network) (route : List ℕ) (entries : List (Option Reach)) (start : ℕ) (stops : List Stop) (o : Option Reach) → IsTrip g route → IsTable g route entries →
    IsClosed g route entries 0 (entry_count g route) → start ≤ g.capacity → entry_at entries (index_of g (start_place start)) ≡ o → is_some o ≡ true →
    IsFeasible g 1 start stops → FollowsRoute route stops → IfSome o (λ r. time_of g 1 start stops ≤ r.time) → IsFastestWhole g route start stops
fastest-plan g route entries start stops None trip table closed low holds some feasible follows time = cc
fastest-plan g route entries start stops (Some r) trip table closed low holds some feasible follows time = record {
  feasible = feasible;
  follows = follows;
  fastest = λ others is_feasible is_followed.
      let bound = start_bound g route entries trip table closed others start low is_feasible is_followed in
      let here : time_at g entries (index_of g (start_place start)) ≡ r.time = ap (entry_time (scaled_limit g)) holds in
      omega (arith, bound, here, time);
}

pub returns-then-is_none : goal.returns-then-is_none
returns-then-is_none c =
    let g = c.args.self.now.network in
    let entries = c.in_ok-entries.entries.items in
    let at : c.index.result.now ≡ entry_at entries (index_of g (start_place c.args.start)) =
    get_or_read entries c.index_of.result c.index.result.now (omega (arith, c.index_of.ensures.within, c.in_ok-entries.ensures.table.count)) c.index.ensures None
    ∙ ap (λ i. entry_at entries i) c.index_of.ensures.value in
    no-plan g c.args.self.now.route entries c.args.start c.in_ok-entries.ensures.table.trip c.in_ok-entries.ensures.table c.in_ok-entries.ensures.closed
    c.requires.level (sym at ∙ nothing-held c.index.result.now c.if-is_none.ensures)

pub returns : goal.returns
returns c =
    let g = c.args.self.now.network in
    let entries = c.in_ok-entries.entries.items in
    let at : c.index.result.now ≡ entry_at entries (index_of g (start_place c.args.start)) =
    get_or_read entries c.index_of.result c.index.result.now (omega (arith, c.index_of.ensures.within, c.in_ok-entries.ensures.table.count)) c.index.ensures None
    ∙ ap (λ i. entry_at entries i) c.index_of.ensures.value in
    fastest-plan g c.args.self.now.route entries c.args.start c.in_ok-stops.stops.items (entry_at entries (index_of g (start_place c.args.start)))
    c.in_ok-entries.ensures.table.trip c.in_ok-entries.ensures.table c.in_ok-entries.ensures.closed c.requires.level refl
    (ap (λ (o : Option Reach). is_some o) (sym at) ∙ c.if-is_none.ensures)
    c.in_ok-stops.ensures.feasible c.in_ok-stops.ensures.follows
    (subst (λ (xs : List (Option Reach)). IfSome (entry_at xs (index_of g (start_place c.args.start))) (λ r. time_of g 1 c.args.start c.in_ok-stops.stops.items ≤ r.time))
    c.deref.ensures.value c.in_ok-stops.ensures.time)

pub walk-requires-clause-table : goal.walk-requires-clause-table
walk-requires-clause-table = grind (arith, common_steps)
