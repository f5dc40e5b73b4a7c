-- Where a vehicle is reached, it is once it has charged; so what arrives where it was is needless.
use Rattle.std.proofs.Common.{◌≡◌, ℕ, ◌+◌, ◌-◌, ◌*◌, ◌<◌, ◌≤◌, ◌⊎◌, inl, inr, List, [], length, refl, sym, ◌∙◌, ap, subst, arith, Option, Some, None, false}
use Rattle.std.specs.Prelude.{◌≢◌, IfSome, nat_eq, slice_get, slice_index}
use Rattle.std.specs.Option.{IsSome}
use Rattle.std.proofs.lemmas.Option.{none-some, slice_get_within}
use Rattle.std.proofs.lemmas.Bool.{and_parts, cases_eq, cases_lt, eqb-true}
use Rattle.charge_curve.specs.Points.{ArePoints, last_level}
use Rattle.dominance.specs.Coverage.{Reaches}
use Rattle.dominance.specs.LevelTimes.{IsLevel, time_at}
use Rattle.ev_model.specs.Levels.{leaving_level}
use Rattle.ev_model.specs.Network.{IsNetwork, curve_at, energy, node_count}
use Rattle.ev_model.specs.Time.{stop_time}
use Rattle.ev_model.specs.declared.Stop.{Stop}
use Rattle.label_pool.specs.Labels.{IsFirstLive, IsLive}
use Rattle.label_pool.specs.declared.label.Label.{Label}
use Rattle.label_steps.specs.Arrivals.{ArrivesAs, drive_time}
use Rattle.label_steps.specs.Leaves.{charge_time_at}
use Rattle.label_steps.proofs.Arrivals.{arrives_covers}
use Rattle.label_steps.proofs.Stops.{stop_parts}
use Rattle.label_steps.proofs.Vehicles.{covers_vehicle, reaches_vehicle}
use Rattle.piece_fn.specs.PieceFn.{level_times}
use Rattle.piece_fn.proofs.Levels.{level_is}
use Rattle.route_steps.specs.Steps.{AreSteps, CoverStops, Holds, IsStep, MayGo, added_at, leaving_of, level_before, state_at, stop_at}
use Rattle.route_steps.specs.Trips.{IsTrip, Journey}
use Rattle.route_steps.specs.Ways.{Leaving, MayStop, leaving_after, passed_after}
use Rattle.route_steps.specs.declared.state.State.{State}
use Rattle.route_steps.proofs.LeavingValues.{arrives}
use Rattle.frvcp_labels.specs.Charged.{AreCharged, AreThere, MayCharge, OnlyAdds, WereThere, charged_by}
use Rattle.frvcp_labels.specs.Search.{AreReached, AreSound, Reached, SpreadsTo}
use Rattle.frvcp_labels.proofs.ChargeTimes.{charge_on, sooner_charge}
use Rattle.frvcp_labels.proofs.MoreLabels.{same_place}
use Rattle.frvcp_labels.proofs.SearchTurns.{covers_spread}
use Rattle.frvcp_labels.proofs.WaysBack.{last_is_depot}

-- what holds a vehicle holds one with a level no higher, no sooner
pub reached_later : (labels : List (Label State)) (u v : Leaving) → Reached labels u → u.passed ≡ v.passed → u.node ≡ v.node → v.level ≤ u.level → u.time ≤ v.time → Reached labels v
reached_later labels u v r passed node level time =
    let reach = r.holds.reaches in
    record {
      by = r.by;
      label = r.label;
      here = r.here;
      live = r.live;
      holds = record {
        passed = r.holds.passed ∙ passed;
        node = r.holds.node ∙ node;
        reaches = (reach.0, reach.1, (omega (arith, level, reach.2.0), omega (arith, time, reach.2.1)));
      };
    }

-- a step to another node than the depot is short of the end of the route
short_of_end : (t : Journey) (before passed to : ℕ) → IsTrip t.network t.route → MayGo t.network t.route before passed to → to ≢ 0 → passed < length t.route - 1
short_of_end t before passed to trip go other = elim go.leads [
  | inl stays ↦ (let on_way = go.on_way in omega (arith, stays.0, on_way))
  | inr more ↦ elim (cases_eq passed (length t.route - 1)) [
    | inl end ↦ absurd (other (sym more.1 ∙ ap (λ i. slice_index t.route i) end ∙ last_is_depot t trip))
    | inr short ↦ (let on_way = go.on_way in omega (arith, more.0, on_way, short))
  ]
]

-- what arrives where it was is needless, whatever it charges
pub was_spreads : (t : Journey) (labels : List (Label State)) (from : State) (passed to : ℕ) → IsTrip t.network t.route → MayGo t.network t.route from.passed passed to → AreCharged t labels → WereThere t labels from passed to → SpreadsTo t labels from passed to
was_spreads t labels from passed to trip go charged was v stop holds may node after =
    let g = t.network in
    let parts = arrives t from passed to go v stop holds may node after in
    let arc : energy g v.node stop.node ≡ energy g from.node to = ap (λ n. energy g n stop.node) (sym holds.node) ∙ ap (λ n. energy g from.node n) node in
    let low = may.reserve in
    let there = was.there v.level v.time (covers_vehicle (level_times from.value) v.level v.time holds.reaches) (omega (arith, low, arc)) parts.1 in
    let w : Leaving = record { passed = passed; node = to; level = v.level - energy g from.node to; time = v.time + drive_time g from.node to } in
    let within = may.within in
    let in_time = may.in_time in
    let can : MayCharge t w stop.added = record {
      on_way = short_of_end t from.passed passed to trip go was.other;
      station = λ more. subst (λ n. IsSome (curve_at g n)) node (may.stop.station (inr more));
      within = omega (arith, within, parts.2);
      in_time = omega (arith, in_time, parts.3);
    } in
    reached_later labels (charged_by g w stop.added) (leaving_after g v stop) (charged w stop.added there was.other can) (sym after) (sym node) (omega (arith, parts.2)) (omega (arith, parts.3))

-- what arrives, and is held where it does
pub was_held : (t : Journey) (labels : List (Label State)) (from : State) (passed to least : ℕ) (o : Option (List (ℕ × ℕ))) (w : List (ℕ × ℕ)) → o ≡ Some w → least ≡ t.network.reserve → to ≢ 0 → ArrivesAs t.network from.value from.node to least o
    → ((v : Leaving) → Holds (state_at passed to 0 w) v → Reached labels v) → WereThere t labels from passed to
was_held t labels from passed to least o w is reserve other arrived held = record {
  other = other;
  there = λ level time covers enough in_time.
      let g = t.network in
      let covered = arrives_covers g from.value from.node to least (Some w) (subst (λ (x : Option (List (ℕ × ℕ))). ArrivesAs g from.value from.node to least x) is arrived) level time covers (omega (arith, enough, reserve)) in_time in
      held (record { passed = passed; node = to; level = level - energy g from.node to; time = time + drive_time g from.node to })
      (record { passed = refl; node = refl; reaches = reaches_vehicle (level_times w) (level - energy g from.node to) (time + drive_time g from.node to) covered });
}

pub none_held : (t : Journey) (labels : List (Label State)) (from : State) (passed to least : ℕ) (o : Option (List (ℕ × ℕ))) → o ≡ None → least ≡ t.network.reserve → to ≢ 0 → ArrivesAs t.network from.value from.node to least o → WereThere t labels from passed to
none_held t labels from passed to least o is reserve other arrived = record {
  other = other;
  there = λ level time covers enough in_time.
      absurd (arrives_covers t.network from.value from.node to least None (subst (λ (x : Option (List (ℕ × ℕ))). ArrivesAs t.network from.value from.node to least x) is arrived) level time covers (omega (arith, enough, reserve)) in_time);
}

-- one vehicle with the highest level, no later than any that arrives, stands for all
pub highest_there : (t : Journey) (labels : List (Label State)) (from : State) (passed to top least time : ℕ) → ArePoints from.value → top ≡ last_level from.value
    → ((high : ℕ) → IsLevel (level_times from.value) high → energy t.network from.node to + t.network.reserve ≤ high → least ≤ time_at (level_times from.value) high) → time ≤ least + drive_time t.network from.node to
    → Reached labels (record { passed = passed; node = to; level = top - energy t.network from.node to; time = time }) → AreThere t labels from passed to
highest_there t labels from passed to top least time points is none_less early reached level at covers enough in_time =
    let r = reaches_vehicle (level_times from.value) level at covers in
    let high = (level_is from.value r.0 points r.1).1 in
    let no_less = none_less r.0 r.1 (omega (arith, enough, r.2.0)) in
    let e = energy t.network from.node to in
    reached_later labels (record { passed = passed; node = to; level = top - e; time = time }) (record { passed = passed; node = to; level = level - e; time = at + drive_time t.network from.node to }) reached refl refl
    (omega (arith, high, is, r.2.0)) (omega (arith, early, no_less, r.2.1))

-- none may drive there where the arc takes more than the highest level
pub none_there_low : (t : Journey) (labels : List (Label State)) (from : State) (passed to top : ℕ) → ArePoints from.value → top ≡ last_level from.value → top < energy t.network from.node to → AreThere t labels from passed to
none_there_low t labels from passed to top points is low level at covers enough in_time =
    let r = reaches_vehicle (level_times from.value) level at covers in
    let high = (level_is from.value r.0 points r.1).1 in
    absurd (omega (arith, high, is, r.2.0, enough, low))

-- what a live label of a bucket reaches
pub reached_by : (t : Journey) (labels : List (Label State)) (passed node i level time : ℕ) (value : State) → AreSound t labels → node < node_count t.network → (live : IsLive labels (passed * node_count t.network + node) i) → value ≡ live.label.value
    → Reaches (level_times value.value) 0 level time → Reached labels (record { passed = passed; node = node; level = level; time = time })
reached_by t labels passed node i level time value sound known live same reaches =
    let label = live.label in
    let is = sound i label live.here in
    let lives = and_parts label.live (nat_eq label.bucket (passed * node_count t.network + node)) live.lives in
    let bucket : label.bucket ≡ passed * node_count t.network + node = eqb-true label.bucket (passed * node_count t.network + node) lives.1 in
    let place = same_place (node_count t.network) label.value.passed passed label.value.node node (sym is.bucket ∙ bucket) is.state.node known in
    record {
      by = i;
      label = label;
      here = live.here;
      live = lives.0;
      holds = record { passed = place.0; node = place.1; reaches = subst (λ (s : State). Reaches (level_times s.value) 0 level time) same reaches };
    }

-- a walk along the live labels of a bucket
abbrev pub left_from : List (Label State) → Option ℕ → ℕ
left_from labels None = 0
left_from labels (Some i) = length labels - i

pub first_lives : (labels : List (Label State)) (bucket from : ℕ) (o : Option ℕ) → IsFirstLive labels bucket from o → IfSome o (IsLive labels bucket)
first_lives labels bucket from None is = tt
first_lives labels bucket from (Some i) is = is.1

pub lives_at : (labels : List (Label State)) (bucket i : ℕ) (o : Option ℕ) → o ≡ Some i → IfSome o (IsLive labels bucket) → IsLive labels bucket i
lives_at labels bucket i o is lives = subst (λ (x : Option ℕ). IfSome x (IsLive labels bucket)) is lives

pub left_falls : (labels : List (Label State)) (bucket i : ℕ) (at o : Option ℕ) → at ≡ Some i → IsLive labels bucket i → IsFirstLive labels bucket (i + 1) o → left_from labels o < left_from labels at
left_falls labels bucket i at None is live next =
    let inside = slice_get_within labels i live.label live.here in
    subst (λ (x : Option ℕ). 0 < left_from labels x) (sym is) (omega (arith, inside))
left_falls labels bucket i at (Some j) is live next =
    let inside = slice_get_within labels i live.label live.here in
    subst (λ (x : Option ℕ). length labels - j < left_from labels x) (sym is) (omega (arith, inside, next.0))

module _ (t : Journey) (network : IsNetwork t.network) (from : State) (passed to : ℕ) (values : List (List (ℕ × ℕ))) (steps : AreSteps t.network t.route from passed to values) (covers : CoverStops t.network t.route from passed to values)
    (now : List (Label State)) (reached : AreReached now passed to values) where
  -- a vehicle of one of the values charges on, above the level that holds it
  module _ (k : ℕ) (w : List (ℕ × ℕ)) (here : slice_get values k ≡ Some w) (v : Leaving) (added : ℕ) (holds : Holds (state_at passed to k w) v) (may : MayCharge t v added) where
    abbrev s : State
    s = state_at passed to k w

    abbrev top : ℕ
    top = holds.reaches.0

    abbrev before : Leaving
    before = leaving_of from (level_before t.network from s top)

    abbrev more : ℕ
    more = v.level + added - top

    abbrev stop : Stop
    stop = record { node = to; added = added_at s top + more; via = nat_eq from.passed passed }

    step : IsStep t.network t.route from s
    step = (steps k w here).step

    passes : passed_after from.passed stop ≡ passed
    passes = step.passed top

    leaves : top < v.level + added → leaving_level t.network 1 from.node before.level stop ≡ v.level + added
    leaves short = let was = step.leaves top holds.reaches.1 in omega (arith, was, short)

    takes : top < v.level + added → before.time + stop_time t.network 1 from.node before.level stop ≤ v.time + charge_time_at t.network v.node v.level added
    takes short =
        let g = t.network in
        let arriving : ℕ = before.level - energy g from.node to in
        let is : arriving + added_at s top ≡ top = (let was = step.leaves top holds.reaches.1 in omega (arith, was)) in
        let some : 0 < more = omega (arith, short) in
        let first = stop_parts g from.node before.level (stop_at from s top) in
        let second = stop_parts g from.node before.level stop in
        let sum : charge_time_at g to arriving (added_at s top + more) ≤ charge_time_at g to arriving (added_at s top) + charge_time_at g to top more =
        subst (λ l. charge_time_at g to arriving (added_at s top + more) ≤ charge_time_at g to arriving (added_at s top) + charge_time_at g to l more) is (charge_on g to arriving (added_at s top) more some) in
        let sooner : charge_time_at g to top more ≤ charge_time_at g v.node v.level added =
        subst (λ n. charge_time_at g to top more ≤ charge_time_at g n v.level added) holds.node (sooner_charge g to v.level top added more network holds.reaches.2.0 some (omega (arith, short))) in
        let later = step.no_later top holds.reaches.1 in
        let last = holds.reaches.2.1 in
        omega (arith, first, second, sum, sooner, later, last)

    may_stop : top < v.level + added → MayStop t.network t.route before stop
    may_stop short =
        let was = step.may top holds.reaches.1 in
        let curve : IsSome (curve_at t.network to) = subst (λ n. IsSome (curve_at t.network n)) (sym holds.node) (may.station (let low = holds.reaches.2.0 in omega (arith, short, low))) in
        let high = may.within in
        let limit = may.in_time in
        record {
          other = was.other;
          stop = record { known = was.stop.known; station = λ either. curve };
          on_way = was.on_way;
          next = was.next;
          reserve = was.reserve;
          within = omega (arith, leaves short, high);
          home = λ end. (let on_way = may.on_way in let place = holds.passed in absurd (omega (arith, passes, end, on_way, place)));
          in_time = omega (arith, takes short, limit);
        }

    charges_on : Reached now (charged_by t.network v added)
    charges_on = elim (cases_lt top (v.level + added)) [
      | inl short ↦
          let held : Holds from before = record { passed = refl; node = refl; reaches = (before.level, step.comes top holds.reaches.1, (omega arith, omega arith)) } in
          reached_later now (leaving_after t.network before stop) (charged_by t.network v added) (covers_spread t now from passed to values covers reached before stop held (may_stop short) refl passes)
          (passes ∙ holds.passed) holds.node (omega (arith, leaves short)) (omega (arith, takes short))
      | inr high ↦
          reached k w here (charged_by t.network v added)
          (record { passed = holds.passed; node = holds.node; reaches = (top, holds.reaches.1, (omega (arith, high), (let last = holds.reaches.2.1 in omega (arith, last)))) })
    ]

  -- once the values of a step are reached
  pub charged_still : (old : List (Label State)) → ((v : Leaving) → Reached old v → Reached now v) → AreCharged t old
      → ((v : Leaving) → Reached now v → Reached old v ⊎ ((k : ℕ) × (w : List (ℕ × ℕ)) × (slice_get values k ≡ Some w) × Holds (state_at passed to k w) v)) → AreCharged t now
  charged_still old keeps charged only v added r other may = elim (only v r) [
    | inl was ↦ keeps (charged_by t.network v added) (charged v added was other may)
    | inr own ↦ charges_on own.0 own.1 own.2 v added own.3 may
  ]

-- no vehicle is reached but at the depot
pub charged_start : (t : Journey) (old now : List (Label State)) (value : List (ℕ × ℕ)) → old ≡ [] → OnlyAdds old now (record { passed = 0; node = 0; charged = false; value = value }) → AreCharged t now
charged_start t old now value empty only v added r other may = elim (only v r) [
  | inl was ↦ absurd (none-some was.label (ap (λ xs. slice_get xs was.by) (sym empty) ∙ was.here))
  | inr own ↦ absurd (other (sym own.node))
]
