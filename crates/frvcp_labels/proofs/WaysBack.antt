-- The way back from a label to the start, as a way to the end of the route.
use Rattle.std.proofs.Common.{◌≡◌, ℕ, suc, ◌+◌, ◌-◌, ◌≤◌, List, [], ◌∷◌, ◌++◌, length, reverse, get_or, refl, sym, ◌∙◌, ap, subst, arith, Option, Some, None}
use Rattle.std.specs.Prelude.{nat_eq, slice_get}
use Rattle.std.proofs.lemmas.List.{drop_all, get_or_push, length-append, reverse-append}
use Rattle.std.proofs.lemmas.Option.{same_Some}
use Rattle.ev_model.specs.Network.{Network, energy, scaled_limit}
use Rattle.ev_model.specs.Levels.{leaving_level}
use Rattle.ev_model.specs.Time.{time_from}
use Rattle.ev_model.specs.declared.Stop.{Stop}
use Rattle.dominance.specs.LevelTimes.{IsLevel, time_at}
use Rattle.label_pool.specs.declared.label.Label.{Label}
use Rattle.piece_fn.specs.PieceFn.{level_times}
use Rattle.route_steps.specs.Homes.{IsPlanWithin}
use Rattle.frvcp_labels.specs.Search.{AreSound, HasOrigin, IsStart}
use Rattle.route_steps.specs.Steps.{IsStep, added_at, leaving_of, level_before, stop_at}
use Rattle.route_steps.specs.Trips.{IsTrip, Journey}
use Rattle.route_steps.specs.Ways.{IsRest, begin, depot_stop, leaving_after}
use Rattle.route_steps.specs.declared.state.State.{State}
use Rattle.frvcp_labels.proofs.Points.{start_level}
use Rattle.route_steps.proofs.Plans.{rest_plan}
use Rattle.route_steps.proofs.Rests.{rest_before}

-- from a level of the label `at` the stops lead to the end of the route, no later than the least time of the label at home
pub record IsTraced (t : Journey) (labels : List (Label State)) (home at level : ℕ) (stops : List Stop) : Type 0 where
  pub last : Label State
  pub last_here : slice_get labels home ≡ Some last
  pub label : Label State
  pub here : slice_get labels at ≡ Some label
  pub is : IsLevel (level_times label.value.value) level
  pub rest : IsRest t.network t.route (leaving_of label.value level) stops
  pub in_time : time_at (level_times label.value.value) level + time_from t.network 1 label.value.node level stops ≤ last.key

-- a vehicle that is no later
earlier : (g : Network) (route : List ℕ) (passed node level time sooner : ℕ) (stops : List Stop) → sooner ≤ time → IsRest g route (record { passed = passed; node = node; level = level; time = time }) stops
    → IsRest g route (record { passed = passed; node = node; level = level; time = sooner }) stops
earlier g route passed node level time sooner stops less is = record {
  moves = is.moves;
  ends = is.ends;
  battery = is.battery;
  home = is.home;
  follows = is.follows;
  within = is.within;
  in_time = (let limit = is.in_time in omega (arith, limit, less));
}

-- no stop is left at the end of the route
pub at_home : (t : Journey) (s : State) (level : ℕ) → s.passed ≡ length t.route - 1 → 2 ≤ length t.route → t.network.home_level ≤ level → time_at (level_times s.value) level ≤ scaled_limit t.network → IsRest t.network t.route (leaving_of s level) []
at_home t s level home two high in_time = record {
  moves = record {};
  ends = λ some. absurd (some refl);
  battery = record {};
  home = high;
  follows = sym (drop_all (s.passed + 1) t.route (omega arith));
  within = omega arith;
  in_time = omega arith;
}

module _ (t : Journey) (labels : List (Label State)) (ends : get_or t.route (length t.route - 1) 0 ≡ 0) where
  pub step_back : (from to : State) (level : ℕ) (stops : List Stop) → IsStep t.network t.route from to → IsLevel (level_times to.value) level → IsRest t.network t.route (leaving_of to level) stops
      → IsRest t.network t.route (leaving_of from (level_before t.network from to level)) (stop_at from to level ∷ stops)
  step_back from to level stops step is rest =
      let before = level_before t.network from to level in
      let stop = stop_at from to level in
      let v = leaving_of from before in
      let shape : IsRest t.network t.route (record { passed = (leaving_after t.network v stop).passed; node = to.node; level = (leaving_after t.network v stop).level; time = time_at (level_times to.value) level }) stops =
      subst (λ p. IsRest t.network t.route (record { passed = p; node = to.node; level = (leaving_after t.network v stop).level; time = time_at (level_times to.value) level }) stops) (sym (step.passed level))
      (subst (λ l. IsRest t.network t.route (record { passed = to.passed; node = to.node; level = l; time = time_at (level_times to.value) level }) stops) (sym (step.leaves level is)) rest) in
      rest_before t.network t.route v stop stops ends (step.may level is)
      (earlier t.network t.route (leaving_after t.network v stop).passed to.node (leaving_after t.network v stop).level (time_at (level_times to.value) level) (leaving_after t.network v stop).time stops (step.no_later level is) shape)

  pub time_back : (from to : State) (level time : ℕ) (stops : List Stop) → IsStep t.network t.route from to → IsLevel (level_times to.value) level → time_at (level_times to.value) level + time_from t.network 1 to.node level stops ≤ time
      → time_at (level_times from.value) (level_before t.network from to level) + time_from t.network 1 from.node (level_before t.network from to level) (stop_at from to level ∷ stops) ≤ time
  time_back from to level time stops step is in_time =
      let sooner = step.no_later level is in
      let same : time_from t.network 1 to.node (leaving_level t.network 1 from.node (level_before t.network from to level) (stop_at from to level)) stops ≡ time_from t.network 1 to.node level stops =
      ap (λ l. time_from t.network 1 to.node l stops) (step.leaves level is) in
      omega (arith, sooner, same, in_time)

-- the start of a label that was come to from none
pub at_start : (t : Journey) (s : State) (level time : ℕ) (stops : List Stop) → IsStart t s → IsLevel (level_times s.value) level → 2 ≤ length t.route → get_or t.route 0 0 ≡ 0 → IsRest t.network t.route (leaving_of s level) stops
    → time_at (level_times s.value) level + time_from t.network 1 s.node level stops ≤ time → IsPlanWithin t time (depot_stop ∷ stops)
at_start t s level time stops start is two first rest in_time =
    let level_is : IsLevel (level_times ((t.start, 0) ∷ [])) level = subst (λ v. IsLevel (level_times v) level) start.value is in
    let same : level ≡ t.start = start_level t.start 0 level level_is in
    let begun : IsRest t.network t.route (record { passed = s.passed; node = s.node; level = level; time = 0 }) stops = earlier t.network t.route s.passed s.node level (time_at (level_times s.value) level) 0 stops (omega arith) rest in
    let at_depot : IsRest t.network t.route (begin t.start) stops =
    subst (λ p. IsRest t.network t.route (record { passed = p; node = 0; level = t.start; time = 0 }) stops) start.passed
    (subst (λ n. IsRest t.network t.route (record { passed = s.passed; node = n; level = t.start; time = 0 }) stops) start.node
    (subst (λ l. IsRest t.network t.route (record { passed = s.passed; node = s.node; level = l; time = 0 }) stops) same begun)) in
    let plan = rest_plan t.network t.route t.start stops two first at_depot in
    let times : time_from t.network 1 s.node level stops ≡ time_from t.network 1 0 t.start stops = ap (λ n. time_from t.network 1 n level stops) start.node ∙ ap (λ l. time_from t.network 1 0 l stops) same in
    record { feasible = plan.0; follows = plan.1; within = omega (arith, plan.2, times, in_time) }

-- the ends of a route
pub first_is_depot : (t : Journey) → IsTrip t.network t.route → get_or t.route 0 0 ≡ 0
first_is_depot t trip = ap (λ r. get_or r 0 0) trip.is_route.1.ends

last_is : (inner : List ℕ) → get_or (0 ∷ inner ++ 0 ∷ []) (length (0 ∷ inner ++ 0 ∷ []) - 1) 0 ≡ 0
last_is inner =
    let count : length (inner ++ 0 ∷ []) ≡ length inner + 1 = length-append inner (0 ∷ []) in
    let at : length (0 ∷ inner ++ 0 ∷ []) - 1 ≡ suc (length inner) = omega (arith, count) in
    ap (λ n. get_or (0 ∷ inner ++ 0 ∷ []) n 0) at ∙ get_or_push inner 0 0 (length inner) refl

pub last_is_depot : (t : Journey) → IsTrip t.network t.route → get_or t.route (length t.route - 1) 0 ≡ 0
last_is_depot t trip = ap (λ r. get_or r (length r - 1) 0) trip.is_route.1.ends ∙ last_is trip.is_route.0

module _ (t : Journey) (labels : List (Label State)) (sound : AreSound t labels) (trip : IsTrip t.network t.route) where
  -- the label that one was come to from
  pub origin_at : (at parent : ℕ) (label : Label State) (o : Option ℕ) → slice_get labels at ≡ Some label → o ≡ label.parent → o ≡ Some parent → (from : Label State) × (slice_get labels parent ≡ Some from) × IsStep t.network t.route from.value label.value
  origin_at at parent label o here told is = subst (λ (p : Option ℕ). HasOrigin t labels p label.value) (sym told ∙ is) (sound at label here).origin

  -- a label at the end of the route was come to with the level at home
  high_at : (parent : Option ℕ) (s : State) (level : ℕ) → HasOrigin t labels parent s → s.passed ≡ length t.route - 1 → IsLevel (level_times s.value) level → t.network.home_level ≤ level
  high_at None s level start home is = (let two = trip.two in let passed = start.passed in absurd (omega arith))
  high_at (Some p) s level from home is =
      let step = from.2 in
      let high = ((step.may level is).home (step.passed level ∙ home)).1 in
      let leaves = step.leaves level is in
      omega (arith, high, leaves)

  pub traced_home : (home level : ℕ) (label : Label State) → slice_get labels home ≡ Some label → label.value.passed ≡ length t.route - 1 → level ≡ (level_times label.value.value).first → IsTraced t labels home home level []
  traced_home home level label here passed first =
      let is = sound home label here in
      let there : IsLevel (level_times label.value.value) level = subst (λ l. IsLevel (level_times label.value.value) l) (sym first) is.first in
      let key : label.key ≡ time_at (level_times label.value.value) level = is.home passed ∙ ap (λ l. time_at (level_times label.value.value) l) (sym first) in
      record {
        last = label;
        last_here = here;
        label = label;
        here = here;
        is = there;
        rest = at_home t label.value level passed trip.two (high_at label.parent label.value level is.origin passed there) (is.state.times level there);
        in_time = omega (arith, key);
      }

  -- the numbers of one turn
  pub record IsTurn (at parent level : ℕ) (f to : State) (added arc : ℕ) : Type 0 where
    pub label : Label State
    pub here : slice_get labels at ≡ Some label
    pub is : IsLevel (level_times label.value.value) level
    pub from : Label State
    pub from_here : slice_get labels parent ≡ Some from
    pub step : IsStep t.network t.route from.value label.value
    pub from_is : f ≡ from.value
    pub to_is : to ≡ label.value
    pub before : level - added + arc ≡ level_before t.network from.value label.value level
    pub stop : record { node = to.node; added = added; via = nat_eq f.passed to.passed } ≡ stop_at from.value label.value level

  stop_made : State → State → ℕ → Stop
  stop_made f to added = record { node = to.node; added = added; via = nat_eq f.passed to.passed }

  pub turn_is : (home at parent level : ℕ) (stops : List Stop) (o : Option ℕ) (f to : State) (added arc : ℕ) → IsTraced t labels home at level stops → ((label : Label State) → slice_get labels at ≡ Some label → o ≡ label.parent) → o ≡ Some parent
      → ((label : Label State) → slice_get labels parent ≡ Some label → f ≡ label.value) → ((label : Label State) → slice_get labels at ≡ Some label → to ≡ label.value) → added ≡ added_at to level → arc ≡ energy t.network f.node to.node
      → IsTurn at parent level f to added arc
  unfolding stop_made
  turn_is home at parent level stops o f to added arc traced told some told_from told_to adds takes =
      let label = traced.label in
      let from = origin_at at parent label o traced.here (told label traced.here) some in
      let from_is : f ≡ from.0.value = told_from from.0 from.1 in
      let to_is : to ≡ label.value = told_to label traced.here in
      let added_is : added ≡ added_at label.value level = adds ∙ ap (λ (s : State). added_at s level) to_is in
      let arc_is : arc ≡ energy t.network from.0.value.node label.value.node = takes ∙ ap (λ (s : State). energy t.network s.node to.node) from_is ∙ ap (λ (s : State). energy t.network from.0.value.node s.node) to_is in
      record {
        label = label;
        here = traced.here;
        is = traced.is;
        from = from.0;
        from_here = from.1;
        step = from.2;
        from_is = from_is;
        to_is = to_is;
        before = ap (λ a. level - a + arc) added_is ∙ ap (λ a. level - added_at label.value level + a) arc_is;
        stop = ap (λ (s : State). stop_made s to added) from_is ∙ ap (λ (s : State). stop_made from.0.value s added) to_is ∙ ap (λ a. stop_made from.0.value label.value a) added_is;
      }

  pub traced_back : (home at parent level : ℕ) (stops pushed : List Stop) (f to : State) (added arc : ℕ) (traced : IsTraced t labels home at level (reverse stops)) → (turn : IsTurn at parent level f to added arc) → turn.label ≡ traced.label
      → pushed ≡ stops ++ record { node = to.node; added = added; via = nat_eq f.passed to.passed } ∷ [] → IsTraced t labels home parent (level - added + arc) (reverse pushed)
  traced_back home at parent level stops pushed f to added arc traced turn same items =
      let ends = last_is_depot t trip in
      let stop = stop_at turn.from.value turn.label.value level in
      let turned : reverse pushed ≡ stop ∷ reverse stops =
      ap reverse items ∙ reverse-append stops (record { node = to.node; added = added; via = nat_eq f.passed to.passed } ∷ []) ∙ ap (λ s. s ∷ reverse stops) turn.stop in
      let rest : IsRest t.network t.route (leaving_of turn.label.value level) (reverse stops) = subst (λ (l : Label State). IsRest t.network t.route (leaving_of l.value level) (reverse stops)) (sym same) traced.rest in
      let in_time : time_at (level_times turn.label.value.value) level + time_from t.network 1 turn.label.value.node level (reverse stops) ≤ traced.last.key =
      subst (λ (l : Label State). time_at (level_times l.value.value) level + time_from t.network 1 l.value.node level (reverse stops) ≤ traced.last.key) (sym same) traced.in_time in
      let back : IsTraced t labels home parent (level_before t.network turn.from.value turn.label.value level) (stop ∷ reverse stops) = record {
        last = traced.last;
        last_here = traced.last_here;
        label = turn.from;
        here = turn.from_here;
        is = turn.step.comes level turn.is;
        rest = step_back t labels ends turn.from.value turn.label.value level (reverse stops) turn.step turn.is rest;
        in_time = time_back t labels ends turn.from.value turn.label.value level traced.last.key (reverse stops) turn.step turn.is in_time;
      } in
      subst (λ l. IsTraced t labels home parent l (reverse pushed)) (sym turn.before) (subst (λ (ss : List Stop). IsTraced t labels home parent (level_before t.network turn.from.value turn.label.value level) ss) (sym turned) back)

  -- and at the start, the whole plan
  pub traced_start : (home at level : ℕ) (stops pushed turned : List Stop) (o : Option ℕ) (label : Label State) → IsTraced t labels home at level (reverse stops) → ((label : Label State) → slice_get labels at ≡ Some label → o ≡ label.parent) → o ≡ None
      → pushed ≡ stops ++ depot_stop ∷ [] → turned ≡ reverse pushed → slice_get labels home ≡ Some label → IsPlanWithin t label.key turned
  traced_start home at level stops pushed turned o label traced told none items reversed here =
      let start : IsStart t traced.label.value = subst (λ (p : Option ℕ). HasOrigin t labels p traced.label.value) (sym (told traced.label traced.here) ∙ none) (sound at traced.label traced.here).origin in
      let all : depot_stop ∷ reverse stops ≡ turned = sym (reversed ∙ ap reverse items ∙ reverse-append stops (depot_stop ∷ [])) in
      let last : traced.last ≡ label = same_Some traced.last label (sym traced.last_here ∙ here) in
      subst (λ (l : Label State). IsPlanWithin t l.key turned) last
      (subst (λ (ss : List Stop). IsPlanWithin t traced.last.key ss) all
      (at_start t traced.label.value level traced.last.key (reverse stops) start traced.is trip.two (first_is_depot t trip) traced.rest traced.in_time))
