-- The ways home from a label, and the plan that a way home from the start makes.
use Rattle.std.proofs.Common.{◌≡◌, ◌∙◌, ℕ, ◌+◌, ◌-◌, ◌*◌, ◌<◌, ◌≤◌, Bool, true, false, refl, sym, ap, subst, List, [], ◌∷◌, ◌++◌, arith, inl, inr}
use Rattle.std.specs.Prelude.{filter, IsSome, IsTrue, ◌⊎◌}
use Rattle.std.specs.List.{All}
use Rattle.std.proofs.lemmas.Bool.{false≢true}
use Rattle.std.proofs.lemmas.List.Elements.{All-cons, All-nil}
use Rattle.dominance.specs.LevelTimes.{IsLevel, time_at}
use Rattle.ev_model.specs.Feasible.{IsFeasible}
use Rattle.ev_model.specs.Fleet.{customers_of}
use Rattle.ev_model.specs.Levels.{KeepsBatteryFrom, leaving_level, level_after}
use Rattle.ev_model.specs.Network.{curve_at, energy, is_customer, Network, node_count, scaled_limit}
use Rattle.ev_model.specs.Plan.{AreStopsFrom, EndsAtDepot}
use Rattle.ev_model.specs.Route.{route_of}
use Rattle.ev_model.specs.Time.{stop_time, time_from}
use Rattle.ev_model.specs.declared.Stop.{Stop}
use Rattle.fleet_model.proofs.Counts.{AreCustomers}
use Rattle.fleet_model.proofs.Sound.{home_stop}
use Rattle.frvcp_labels.proofs.Points.{start_level}
use Rattle.label_search.specs.Laws.{IsLawful, PaysHome}
use Rattle.label_search.specs.Space.{Space}
use Rattle.label_search.specs.Steps.{ComesBy, IsInRange, IsStart, IsStep}
use Rattle.label_search.proofs.Orders.{all_served}
use Rattle.label_steps.specs.Arrivals.{drive_time}
use Rattle.label_steps.proofs.Stops.{nothing_charged}
use Rattle.piece_fn.specs.PieceFn.{level_times}

home_time : (g : Network) (from level : ℕ) → time_from g 1 from level (home_stop ∷ []) ≡ drive_time g from 0
home_time g from level =
    let none = nothing_charged g.denominator (curve_at g 0) (level - 1 * energy g from 0) in
    omega (arith, none)

no_way_by_via : IsTrue false ⊎ (0 < 0) → (P : Type 0) → P
no_way_by_via either P = elim either [
  | inl via ↦ absurd (grind (arith, via))
  | inr more ↦ absurd (omega (arith, more))
]

module _ {Label Target Route : Type 0} (s : Space Label Target Route) where
  -- the scaled time at the end of stops from a level of a label
  abbrev pub whole_time : Label → ℕ → List Stop → ℕ
  whole_time l level stops = time_at (level_times (s.value l)) level + time_from s.network 1 (s.node l) level stops

  -- stops that lead home from a level of the label, over the customers at these nodes, and pay
  pub record IsWayHome (l : Label) (level : ℕ) (stops : List Stop) (order : List ℕ) : Type 0 where
    pub is : IsLevel (level_times (s.value l)) level
    pub are_stops : AreStopsFrom s.network (s.node l) stops
    pub ends : EndsAtDepot stops
    pub battery : KeepsBatteryFrom s.network 1 (s.node l) level stops
    pub home : 1 * s.network.home_level ≤ level_after s.network 1 (s.node l) level stops
    pub in_time : whole_time l level stops ≤ scaled_limit s.network
    pub only : route_of stops ≡ order ++ 0 ∷ []
    pub customers : AreCustomers s.network order
    pub known : All (λ x. x < node_count s.network) order
    pub pays : s.pays l (whole_time l level stops) order

  -- the step home
  pub at_home : (l : Label) → IsInRange s l → (pays : PaysHome s l) → IsWayHome l pays.level (home_stop ∷ []) []
  at_home l range pays =
      let g = s.network in
      let y = pays.level in
      let time = home_time s.network (s.node l) pays.level in
      let whole : time_at (level_times (s.value l)) pays.level + drive_time s.network (s.node l) 0 ≡ whole_time l pays.level (home_stop ∷ []) = omega (arith, time) in
      let fits = range.levels pays.level pays.is in
      let step = pays.goes in
      record {
        is = pays.is;
        are_stops = (step.moves, record { known = step.known; station = λ either. no_way_by_via either (IsSome (curve_at s.network 0)) }, tt);
        ends = refl;
        battery = (omega (arith, step.reaches), omega (arith, fits), tt);
        home = omega (arith, step.home);
        in_time = omega (arith, whole, step.in_time);
        only = refl;
        customers = tt;
        known = All-nil (λ x. x < node_count s.network);
        pays = subst (λ t. s.pays l t []) whole pays.pays;
      }

  -- a stop at the node of a label, with so much charged
  abbrev stop_at : Label → ℕ → Bool → Stop
  stop_at to added via = record { node = s.node to; added = added; via = via }

  module _ (lawful : IsLawful s) (from to : Label) (level : ℕ) (stops : List Stop) (order : List ℕ) (step : IsStep s from to) (way : IsWayHome to level stops order) where
    abbrev come : ComesBy s.network (s.value from) (s.node from) (s.node to) level (time_at (level_times (s.value to)) level)
    come = step.comes level way.is

    leaves_with : (via : Bool) → leaving_level s.network 1 (s.node from) come.before (stop_at to come.added via) ≡ level
    leaves_with via = let same = come.leaves in omega (arith, same)

    back_time : (via : Bool) → whole_time from come.before (stop_at to come.added via ∷ stops) ≤ whole_time to level stops
    back_time via =
        let same = ap (λ l. time_from s.network 1 (s.node to) l stops) (leaves_with via) in
        let sooner : time_at (level_times (s.value from)) come.before + stop_time s.network 1 (s.node from) come.before (stop_at to come.added via) ≤ time_at (level_times (s.value to)) level = come.no_sooner in
        omega (arith, same, sooner)

    back_battery : (via : Bool) → KeepsBatteryFrom s.network 1 (s.node from) come.before (stop_at to come.added via ∷ stops)
    back_battery via = (
      (let high = come.reaches in omega (arith, high)),
      (let full = come.full in omega (arith, leaves_with via, full)),
      subst (λ l. KeepsBatteryFrom s.network 1 (s.node to) l stops) (sym (leaves_with via)) way.battery,
    )

    back_home : (via : Bool) → 1 * s.network.home_level ≤ level_after s.network 1 (s.node from) come.before (stop_at to come.added via ∷ stops)
    back_home via = subst (λ l. 1 * s.network.home_level ≤ level_after s.network 1 (s.node to) l stops) (sym (leaves_with via)) way.home

    ends_behind : (s : Stop) (ss : List Stop) → EndsAtDepot ss → EndsAtDepot (s ∷ ss)
    ends_behind s [] ends = absurd ends
    ends_behind s (t ∷ ts) ends = ends

    -- before a station
    pub before_station : IsSome (curve_at s.network (s.node to)) → s.passes from to → IsWayHome from come.before (stop_at to come.added true ∷ stops) order
    before_station station passes = record {
      is = come.there;
      are_stops = (step.leads.moves, record { known = step.known; station = λ either. station }, way.are_stops);
      ends = ends_behind (stop_at to come.added true) stops way.ends;
      battery = back_battery true;
      home = back_home true;
      in_time = omega (arith, back_time true, way.in_time);
      only = way.only;
      customers = way.customers;
      known = way.known;
      pays = lawful.passing from to (whole_time from come.before (stop_at to come.added true ∷ stops)) (whole_time to level stops) order passes (back_time true) way.pays;
    }

    at_station : (via : Bool) → via ≡ false → IsTrue via ⊎ (0 < come.added) → IsSome (curve_at s.network (s.node to))
    at_station true own either = absurd (false≢true (sym own))
    at_station false own either = elim either [
      | inl via ↦ absurd (grind (arith, via))
      | inr more ↦ come.station more
    ]

    -- before a customer
    pub before_customer : is_customer s.network (s.node to) ≡ true → s.serves from to → IsWayHome from come.before (stop_at to come.added false ∷ stops) (s.node to ∷ order)
    before_customer customer serves = record {
      is = come.there;
      are_stops = (step.leads.moves, record { known = step.known; station = at_station false refl }, way.are_stops);
      ends = ends_behind (stop_at to come.added false) stops way.ends;
      battery = back_battery false;
      home = back_home false;
      in_time = omega (arith, back_time false, way.in_time);
      only = ap (λ ns. s.node to ∷ ns) way.only;
      customers = (customer, way.customers);
      known = All-cons (λ x. x < node_count s.network) (s.node to) order step.known way.known;
      pays = lawful.serving from to (whole_time from come.before (stop_at to come.added false ∷ stops)) (whole_time to level stops) order customer serves (back_time false) way.pays;
    }

  -- the way home from the start makes a plan
  module _ (lawful : IsLawful s) (l : Label) (level : ℕ) (stops : List Stop) (order : List ℕ) (start : IsStart s l) (way : IsWayHome l level stops order) where
    full : level ≡ s.network.capacity
    full = start_level s.network.capacity 0 level (subst (λ v. IsLevel (level_times v) level) start.value way.is)

    served : customers_of s.network (home_stop ∷ stops) ≡ order
    served = ap (filter (is_customer s.network)) way.only ∙ all_served s.network order way.customers

    one_level : 1 * s.network.capacity ≡ level
    one_level = omega (arith, full)

    shape : (n k : ℕ) → n ≡ s.node l → k ≡ level → KeepsBatteryFrom s.network 1 n k stops × (1 * s.network.home_level ≤ level_after s.network 1 n k stops) × (time_from s.network 1 n k stops ≡ time_from s.network 1 (s.node l) level stops)
    shape n k node same = rw (node, same) (way.battery, way.home, refl)

    feasible : IsFeasible s.network 1 s.network.capacity (home_stop ∷ stops)
    feasible =
        let at = shape 0 (1 * s.network.capacity) (sym start.node) one_level in
        record {
          plan = (omega arith, refl, way.ends, subst (λ n. AreStopsFrom s.network n stops) start.node way.are_stops);
          battery = (at.0, at.1);
          in_time = omega (arith, at.2, way.in_time);
        }

    pub route_home : s.has_route order
    route_home =
        let at = shape 0 (1 * s.network.capacity) (sym start.node) one_level in
        lawful.makes l (whole_time l level stops) order (home_stop ∷ stops) start.begins way.pays (record {
          feasible = feasible;
          serves = served;
          follows = ap (λ ns. 0 ∷ ns) way.only;
          known = way.known;
          in_time = omega (arith, at.2);
        })
