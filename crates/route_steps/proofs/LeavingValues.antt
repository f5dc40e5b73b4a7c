-- Values on leaving a node, after an arc: what they cover, and from what they come.
use Rattle.std.proofs.Common.{◌≡◌, ℕ, zero, suc, ◌+◌, ◌-◌, ◌<◌, ◌≤◌, inl, inr, List, [], ◌∷◌, length, refl, sym, ◌∙◌, ap, subst, arith, true, false}
use Rattle.std.specs.Prelude.{◌≢◌, nat_eq, nat_lt, slice_get, slice_index}
use Rattle.std.specs.Option.{IsSome}
use Rattle.std.proofs.lemmas.Option.{same_Some, none-some}
use Rattle.std.proofs.lemmas.Bool.{cases_eq, eq-eqb, eqb-true, false≢true, le-leb}
use Rattle.std.proofs.lemmas.Bool.Decides.{eqb_tells}
use Rattle.std.proofs.Math.Nat.{le-max_left, le-max_right, max-le}
use Rattle.ev_model.specs.Network.{Network, curve_at, energy, scaled_limit}
use Rattle.ev_model.specs.Levels.{leaving_level}
use Rattle.ev_model.specs.Time.{stop_time}
use Rattle.ev_model.specs.declared.Stop.{Stop}
use Rattle.dominance.specs.Coverage.{SomeReaches}
use Rattle.dominance.specs.LevelTimes.{IsLevel, LevelTimes, time_at}
use Rattle.piece_fn.specs.PieceFn.{level_times}
use Rattle.label_steps.specs.Arrivals.{CoversVehicle, drive_time, IsArrival}
use Rattle.label_steps.specs.Leaves.{AreLeft, CoverCharges, IsPlugged, charge_time_at}
use Rattle.label_steps.proofs.Stops.{passing_time, stop_parts}
use Rattle.label_steps.proofs.Vehicles.{covers_vehicle, reaches_vehicle}
use Rattle.route_steps.specs.Steps.{AreSteps, CoverStops, Holds, IsSoundStep, MayGo, added_at, level_before, stop_at, state_at}
use Rattle.route_steps.specs.Trips.{Journey, least_level}
use Rattle.route_steps.specs.Ways.{Leaving, MayStop, leaving_after, passed_after}
use Rattle.route_steps.specs.declared.state.State.{State}

not_equal : (a b : ℕ) → (a ≡ b → ⊥) → nat_eq a b ≡ false
not_equal a b apart = elim (eqb_tells a b) [ inl same ↦ absurd (apart same.1) | inr other ↦ other.0 ]

reserve_within : (g : Network) (route : List ℕ) (passed : ℕ) → g.reserve ≤ least_level g route passed
reserve_within g route passed = elim (cases_eq passed (length route - 1)) [
  | inl home ↦ (let is = eq-eqb passed (length route - 1) home in rw is (le-max_left g.reserve g.home_level))
  | inr other ↦ (let is = not_equal passed (length route - 1) other in rw is (omega arith))
]

home_within : (g : Network) (route : List ℕ) (passed : ℕ) → passed ≡ length route - 1 → g.home_level ≤ least_level g route passed
home_within g route passed home = let is = eq-eqb passed (length route - 1) home in rw is (le-max_right g.reserve g.home_level)

least_within : (g : Network) (route : List ℕ) (passed level : ℕ) → g.reserve ≤ level → (passed ≡ length route - 1 → g.home_level ≤ level) → least_level g route passed ≤ level
least_within g route passed level reserve home = elim (cases_eq passed (length route - 1)) [
  | inl end ↦
      let is = eq-eqb passed (length route - 1) end in
      let high = home end in
      rw is (max-le reserve high)
  | inr other ↦ (let is = not_equal passed (length route - 1) other in rw is reserve)
]

module _ (t : Journey) (from : State) (passed to : ℕ) (go : MayGo t.network t.route from.passed passed to) where
  -- what arrives of a vehicle that may stop there
  pub arrives : (v : Leaving) (stop : Stop) → Holds from v → MayStop t.network t.route v stop → stop.node ≡ to → passed_after v.passed stop ≡ passed
      → (energy t.network from.node to + least_level t.network t.route passed ≤ v.level) × (v.time + drive_time t.network from.node to ≤ scaled_limit t.network)
      × (v.level - energy t.network from.node to + stop.added ≡ (leaving_after t.network v stop).level)
      × (v.time + drive_time t.network from.node to + charge_time_at t.network to (v.level - energy t.network from.node to) stop.added ≡ (leaving_after t.network v stop).time)
  arrives v stop holds may node after =
      let g = t.network in
      let arc : energy g v.node stop.node ≡ energy g from.node to = ap (λ n. energy g n stop.node) (sym holds.node) ∙ ap (λ n. energy g from.node n) node in
      let drive : drive_time g v.node stop.node ≡ drive_time g from.node to = ap (λ n. drive_time g n stop.node) (sym holds.node) ∙ ap (λ n. drive_time g from.node n) node in
      let parts = stop_parts g v.node v.level stop in
      let charge : charge_time_at g stop.node (v.level - energy g v.node stop.node) stop.added ≡ charge_time_at g to (v.level - energy g from.node to) stop.added =
      ap (λ n. charge_time_at g n (v.level - energy g v.node stop.node) stop.added) node ∙ ap (λ e. charge_time_at g to (v.level - e) stop.added) arc in
      let reserve = may.reserve in
      let home : passed ≡ length t.route - 1 → g.home_level ≤ v.level - energy g from.node to = λ end.
      let both = may.home (after ∙ end) in
      omega (arith, both.0, both.1, arc) in
      let enough = least_within g t.route passed (v.level - energy g from.node to) (omega (arith, reserve, arc)) home in
      let limit = may.in_time in
      (omega (arith, enough, reserve, arc), omega (arith, limit, parts, drive), omega (arith, arc), omega (arith, parts, drive, charge))

  -- the values that are left cover each stop
  pub left_covers : (arrived : List (ℕ × ℕ)) (values : List (List (ℕ × ℕ))) → ((level time : ℕ) → CoversVehicle (level_times from.value) level time → energy t.network from.node to + least_level t.network t.route passed ≤ level → time + drive_time t.network from.node to ≤ scaled_limit t.network
      → CoversVehicle (level_times arrived) (level - energy t.network from.node to) (time + drive_time t.network from.node to)) → CoverCharges t.network to arrived values → CoverStops t.network t.route from passed to values
  left_covers arrived values covers charges v stop holds may node after =
      let parts = arrives v stop holds may node after in
      let there = covers v.level v.time (covers_vehicle (level_times from.value) v.level v.time holds.reaches) parts.0 parts.1 in
      let station : 0 < stop.added → IsSome (curve_at t.network to) = λ more. subst (λ n. IsSome (curve_at t.network n)) node (may.stop.station (inr more)) in
      let within = may.within in
      let limit = may.in_time in
      let some = charges (v.level - energy t.network from.node to) (v.time + drive_time t.network from.node to) stop.added there station (omega (arith, within, parts.2)) (omega (arith, limit, parts.3)) in
      subst (λ l. SomeReaches level_times values 0 l (leaving_after t.network v stop).time) parts.2
      (subst (λ x. SomeReaches level_times values 0 (v.level - energy t.network from.node to + stop.added) x) parts.3 some)

  -- where nothing may arrive there is no stop
  pub none_covers : (values : List (List (ℕ × ℕ))) → ((level time : ℕ) → CoversVehicle (level_times from.value) level time → energy t.network from.node to + least_level t.network t.route passed ≤ level → time + drive_time t.network from.node to ≤ scaled_limit t.network → ⊥)
      → CoverStops t.network t.route from passed to values
  none_covers values none v stop holds may node after =
      let parts = arrives v stop holds may node after in
      absurd (none v.level v.time (covers_vehicle (level_times from.value) v.level v.time holds.reaches) parts.0 parts.1)

  -- at the end of the route nothing is charged
  pub end_covers : (arrived : List (ℕ × ℕ)) (values : List (List (ℕ × ℕ))) → ((level time : ℕ) → CoversVehicle (level_times from.value) level time → energy t.network from.node to + least_level t.network t.route passed ≤ level → time + drive_time t.network from.node to ≤ scaled_limit t.network
      → CoversVehicle (level_times arrived) (level - energy t.network from.node to) (time + drive_time t.network from.node to)) → passed ≡ length t.route - 1 → values ≡ arrived ∷ [] → CoverStops t.network t.route from passed to values
  end_covers arrived values covers end one v stop holds may node after =
      let parts = arrives v stop holds may node after in
      let there = covers v.level v.time (covers_vehicle (level_times from.value) v.level v.time holds.reaches) parts.0 parts.1 in
      let none : stop.added ≡ 0 = (may.home (after ∙ end)).0 in
      let time : charge_time_at t.network to (v.level - energy t.network from.node to) stop.added ≡ 0 = ap (λ a. charge_time_at t.network to (v.level - energy t.network from.node to) a) none ∙ passing_time t.network to (v.level - energy t.network from.node to) in
      let r = reaches_vehicle (level_times arrived) (v.level - energy t.network from.node to) (v.time + drive_time t.network from.node to) there in
      subst (λ vs. SomeReaches level_times vs 0 (leaving_after t.network v stop).level (leaving_after t.network v stop).time) (sym one)
      (0, arrived, omega arith, refl, (r.0, r.1, (omega (arith, r.2.0, parts.2, none), omega (arith, r.2.1, parts.3, time))))

-- how one level of a value on leaving is come to
pub record IsComing (t : Journey) (passed to : ℕ) (arrived : LevelTimes) (level added time : ℕ) : Type 0 where
  pub up : added ≤ level
  pub there : IsLevel arrived (level - added)
  pub station : 0 < added → IsSome (curve_at t.network to)
  pub end : passed ≡ length t.route - 1 → added ≡ 0
  pub within : level ≤ t.network.capacity
  pub no_later : time_at arrived (level - added) + charge_time_at t.network to (level - added) added ≤ time
  pub in_time : time ≤ scaled_limit t.network

module _ (t : Journey) (from : State) (passed to : ℕ) (go : MayGo t.network t.route from.passed passed to) (other : to ≢ from.node) (sound : (level : ℕ) → IsLevel (level_times from.value) level → level ≤ t.network.capacity) (arrived : LevelTimes)
    (arrival : IsArrival (energy t.network from.node to) (drive_time t.network from.node to) (scaled_limit t.network) (least_level t.network t.route passed) (level_times from.value) arrived)
    (k : ℕ) (w : List (ℕ × ℕ)) (coming : (level : ℕ) → IsLevel (level_times w) level → IsComing t passed to arrived level (added_at (state_at passed to k w) level) (time_at (level_times w) level)) where
  abbrev s : State
  s = state_at passed to k w

  via_passed : (level : ℕ) → passed_after from.passed (stop_at from s level) ≡ passed
  via_passed level = elim go.leads [
    | inl stays ↦ (let is = eq-eqb from.passed passed (sym stays.0) in rw is (sym stays.0))
    | inr more ↦ (let is = not_equal from.passed passed (λ e. absurd (omega (arith, e, more.0))) in rw is (sym more.0))
  ]

  before_is : (level : ℕ) → IsLevel (level_times w) level → level_before t.network from s level - energy t.network from.node to ≡ level - added_at s level
  before_is level is = omega arith

  leaves_is : (level : ℕ) → IsLevel (level_times w) level → leaving_level t.network 1 from.node (level_before t.network from s level) (stop_at from s level) ≡ level
  leaves_is level is = let up = (coming level is).up in omega (arith, up)

  no_later_is : (level : ℕ) → IsLevel (level_times w) level
      → time_at (level_times from.value) (level_before t.network from s level) + stop_time t.network 1 from.node (level_before t.network from s level) (stop_at from s level) ≤ time_at (level_times w) level
  no_later_is level is =
      let comes = coming level is in
      let later = arrival.later (level - added_at s level) comes.there in
      let parts = stop_parts t.network from.node (level_before t.network from s level) (stop_at from s level) in
      let charge : charge_time_at t.network to (level_before t.network from s level - energy t.network from.node to) (added_at s level) ≡ charge_time_at t.network to (level - added_at s level) (added_at s level) =
      ap (λ l. charge_time_at t.network to l (added_at s level)) (before_is level is) in
      let last = comes.no_later in
      omega (arith, later, parts, charge, last)

  may_is : (level : ℕ) → IsLevel (level_times w) level → MayStop t.network t.route (record { passed = from.passed; node = from.node; level = level_before t.network from s level; time = time_at (level_times from.value) (level_before t.network from s level) }) (stop_at from s level)
  may_is level is =
      let comes = coming level is in
      let enough = ((arrival.left (level - added_at s level)).0 comes.there).1 in
      let reserve = reserve_within t.network t.route passed in
      let leaves = leaves_is level is in
      let later = no_later_is level is in
      let limit = comes.in_time in
      let within = comes.within in
      let up = comes.up in
      record {
        other = other;
        stop = record {
          known = go.known;
          station = λ either. elim either [
            | inl via ↦ elim go.leads [
              | inl stays ↦ stays.1
              | inr more ↦ (let same = eqb-true from.passed passed via in absurd (omega (arith, same, more.0)))
            ]
            | inr more ↦ comes.station more
          ];
        };
        on_way = go.on_way;
        next = λ own. elim go.leads [
          | inl stays ↦ absurd (false≢true (sym own ∙ eq-eqb from.passed passed (sym stays.0)))
          | inr more ↦ ap (λ n. slice_index t.route n) (sym more.0) ∙ more.1
        ];
        reserve = omega (arith, enough, reserve);
        within = omega (arith, leaves, within);
        home = λ last.
            let end : passed ≡ length t.route - 1 = sym (via_passed level) ∙ last in
            let high = home_within t.network t.route passed end in
            (comes.end end, omega (arith, high, enough, leaves, up));
        in_time = omega (arith, later, limit);
      }

  pub is_step : IsSoundStep t.network t.route from s
  is_step = record {
    state = record {
      passed = (let before = go.on_way in elim go.leads [ inl stays ↦ omega (arith, stays.0, before) | inr more ↦ omega (arith, more.0, before) ]);
      node = go.known;
      levels = λ level is. (coming level is).within;
      times = λ level is. (coming level is).in_time;
    };
    step = record {
      passed = via_passed;
      comes = λ level is. ((arrival.left (level - added_at s level)).0 (coming level is).there).0;
      may = may_is;
      leaves = leaves_is;
      no_later = no_later_is;
    };
  }

module _ (t : Journey) (from : State) (passed to : ℕ) (go : MayGo t.network t.route from.passed passed to) (other : to ≢ from.node) (sound : (level : ℕ) → IsLevel (level_times from.value) level → level ≤ t.network.capacity) (arrived : List (ℕ × ℕ))
    (arrival : IsArrival (energy t.network from.node to) (drive_time t.network from.node to) (scaled_limit t.network) (least_level t.network t.route passed) (level_times from.value) (level_times arrived)) where
  pub arrived_low : (level : ℕ) → IsLevel (level_times arrived) level → level ≤ t.network.capacity
  arrived_low level is = let low = sound (level + energy t.network from.node to) ((arrival.left level).0 is).0 in omega (arith, low)

  passing : IsSoundStep t.network t.route from (state_at passed to 0 arrived)
  passing = is_step t from passed to go other sound (level_times arrived) arrival 0 arrived (λ level is.
      let none = passing_time t.network to level in
      let back : level ≡ level - 0 = omega arith in
      record {
        up = omega arith;
        there = subst (λ l. IsLevel (level_times arrived) l) back is;
        station = λ more. absurd (omega (arith, more));
        end = λ e. refl;
        within = arrived_low level is;
        no_later = subst (λ l. time_at (level_times arrived) l + charge_time_at t.network to l 0 ≤ time_at (level_times arrived) level) back (omega (arith, none));
        in_time = omega (arith, arrival.later level is, ((arrival.left level).0 is).2);
      })

  charged : (k : ℕ) (w : List (ℕ × ℕ)) → 0 < k → passed < length t.route - 1 → IsPlugged t.network to (level_times arrived) (level_times w) → IsSoundStep t.network t.route from (state_at passed to k w)
  charged zero w more before plugged = absurd (omega arith)
  charged (suc k) w more before plugged = is_step t from passed to go other sound (level_times arrived) arrival (suc k) w (λ level is.
      let from_first = plugged.from level is in
      let flag : nat_lt 0 (suc k) ≡ true = le-leb 1 (suc k) (omega arith) in
      let added : added_at (state_at passed to (suc k) w) level ≡ level - (level_times w).first = rw flag refl in
      let back : level - added_at (state_at passed to (suc k) w) level ≡ (level_times w).first = omega (arith, added, from_first.1) in
      record {
        up = omega (arith, added);
        there = subst (λ l. IsLevel (level_times arrived) l) (sym back) from_first.0;
        station = λ some. plugged.station;
        end = λ e. absurd (omega (arith, e, before));
        within = from_first.2;
        no_later = subst (λ l. time_at (level_times arrived) l + charge_time_at t.network to l (added_at (state_at passed to (suc k) w) level) ≤ time_at (level_times w) level) (sym back)
            (subst (λ a. time_at (level_times arrived) (level_times w).first + charge_time_at t.network to (level_times w).first a ≤ time_at (level_times w) level) (sym added) (plugged.no_later level is));
        in_time = plugged.in_time level is;
      })

  -- the values that are left are steps
  pub left_steps : (values : List (List (ℕ × ℕ))) → passed < length t.route - 1 → AreLeft t.network to arrived values → AreSteps t.network t.route from passed to values
  left_steps values before left zero w here = subst (λ x. IsSoundStep t.network t.route from (state_at passed to 0 x)) (sym (left.passing w here)) passing
  left_steps values before left (suc k) w here = charged (suc k) w (omega arith) before (left.plugged (suc k) w here (omega arith))

  pub one_step : (values : List (List (ℕ × ℕ))) → values ≡ arrived ∷ [] → AreSteps t.network t.route from passed to values
  one_step values one zero w here = subst (λ x. IsSoundStep t.network t.route from (state_at passed to 0 x)) (same_Some arrived w (ap (λ vs. slice_get vs 0) (sym one) ∙ here)) passing
  one_step values one (suc k) w here = absurd (none-some w (ap (λ vs. slice_get vs (suc k)) (sym one) ∙ here))
