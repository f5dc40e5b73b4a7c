-- What is left of a route at a leaf, on from a state after a place, and one step of it.
use Rattle.std.proofs.Common.{◌≡◌, ◌≢◌, ◌∙◌, ℕ, zero, suc, ◌+◌, ◌*◌, ◌<◌, ◌≤◌, Bool, true, false, ◌&&◌, refl, sym, List, [], ◌∷◌, ◌++◌, map, Option, Some, None, arith, inl, inr}
use Rattle.std.specs.Prelude.{is_none, not, nat_eq, nat_lt, IsSome, ℤ, pos, ◌+ℤ◌, ◌≤ℤ◌}
use Rattle.std.proofs.lemmas.Bool.{lt-ltb, le-ltb}
use Rattle.std.proofs.lemmas.Int.{ints}
use Rattle.ev_model.specs.Fleet.{customers_of}
use Rattle.ev_model.specs.Levels.{arriving_level, KeepsBatteryFrom, leaving_level, level_after}
use Rattle.ev_model.specs.Network.{curve_at, energy, is_customer, Network, scaled_limit}
use Rattle.ev_model.specs.Plan.{AreStopsFrom}
use Rattle.ev_model.specs.Time.{charging_time, plugging_time, time_from}
use Rattle.ev_model.specs.declared.Stop.{Stop}
use Rattle.fleet_model.specs.Labels.{State}
use Rattle.fleet_model.specs.Pairs.{KeepsPairs}
use Rattle.fleet_model.specs.Places.{customer_number, numbers_of, place_of}
use Rattle.fleet_model.specs.Steps.{at_station, level_at, time_at}
use Rattle.near_tree.specs.Branches.{Branch}
use Rattle.near_tree.specs.Sections.{after, NearSection, LeafState}
use Rattle.near_tree.specs.Steps.{at_leaf_customer, earned_at, IsLeafCustomerStep, IsLeafStationStep}
use Rattle.near_proof.specs.Routes.{KeepsMemory}

-- a state after a place
abbrev pub at_place : ℕ → State → LeafState
at_place i a = record { last = after i; state = a }

-- what is earned by serving customers one after another, the first of them after a place
abbrev pub route_earned : Network → Branch → NearSection → ℕ → List ℕ → ℤ
route_earned g b s i [] = pos 0
route_earned g b s i (x ∷ xs) = earned_at g b s (after i) x +ℤ route_earned g b s (place_of g x) xs

-- the rest of a plan, on from a state after a place
pub record IsRest (g : Network) (b : Branch) (s : NearSection) (i : ℕ) (a : State) (stops : List Stop) : Type 0 where
  pub are_stops : AreStopsFrom g a.node stops
  pub battery : KeepsBatteryFrom g 1 a.node a.level stops
  pub home : 1 * g.home_level ≤ level_after g 1 a.node a.level stops
  pub in_time : a.time + time_from g 1 a.node a.level stops ≤ scaled_limit g
  pub pairs : KeepsPairs b.allows (i ∷ map (place_of g) (customers_of g stops) ++ 0 ∷ [])
  pub some : i ≡ 0 → customers_of g stops ≢ []
  pub keeps : KeepsMemory s.sets a.served (numbers_of g stops)

-- the rest takes no less than it earns, with what was taken and earned before
abbrev pub Pays : Network → Branch → NearSection → ℕ → State → List Stop → Type 0
Pays g b s i a stops =
    (route_earned g b s i (customers_of g stops) +ℤ a.paid) ≤ℤ pos (s.weight * (a.time + time_from g 1 a.node a.level stops))

customers_via : (g : Network) (s : Stop) (ss : List Stop) → s.via ≡ true → customers_of g (s ∷ ss) ≡ customers_of g ss
customers_via g s ss via = rw via refl

customers_own : (g : Network) (s : Stop) (ss : List Stop) → s.via ≡ false → is_customer g s.node ≡ true → customers_of g (s ∷ ss) ≡ s.node ∷ customers_of g ss
customers_own g s ss own is = rw (own, is) refl

-- a customer is no station, so nothing is charged there
none_of : (a b : Bool) → (a && b) ≡ true → b ≡ true
none_of true b h = h
none_of false true h = refl
none_of false false h = h

none_adds : (c : Option (List (ℕ × ℕ))) (added : ℕ) → is_none c ≡ true → (0 < added → IsSome c) → added ≡ 0
none_adds None zero none some = refl
none_adds None (suc n) none some = let h : IsSome {T = List (ℕ × ℕ)} None = some (omega arith) in grind (arith, h)
none_adds (Some c) added none some = grind (arith, none)

none_charges : (c : Option (List (ℕ × ℕ))) (k d a b : ℕ) → is_none c ≡ true → charging_time k d c a b ≡ 0
none_charges None k d a b none = refl
none_charges (Some c) k d a b none = grind (arith, none)

arrives_at : (g : Network) (b : State) (stop : Stop) → arriving_level g 1 b.node b.level stop ≡ level_at g b stop.node
arrives_at g b stop = let one : 1 * energy g b.node stop.node ≡ energy g b.node stop.node = omega arith in rw one refl

-- something is charged exactly where the level rises
charged : (low added : ℕ) → nat_lt low (low + added) ≡ nat_lt 0 added
charged low zero = le-ltb low (low + 0) (omega arith)
charged low (suc n) = lt-ltb low (low + suc n) (omega arith) ∙ sym (lt-ltb 0 (suc n) (omega arith))

-- a stop that was inserted is a step to a station
via_time : (g : Network) (b : State) (stop : Stop) (ss : List Stop) →
    (at_station g b stop.node (leaving_level g 1 b.node b.level stop)).time + time_from g 1 stop.node (leaving_level g 1 b.node b.level stop) ss ≡ b.time + time_from g 1 b.node b.level (stop ∷ ss)
via_time g b stop ss = rw (arrives_at g b stop, charged (level_at g b stop.node) stop.added) (omega arith)

pub place_some : (g : Network) (x : ℕ) → is_customer g x ≡ true → place_of g x ≢ 0
place_some g x is none =
    let more : customer_number g x + 1 ≡ 0 = rw is at none in
    omega (arith, more)

module _ (g : Network) (b : Branch) (s : NearSection) (i : ℕ) (a : State) (stop : Stop) (ss : List Stop) (rest : IsRest g b s i a (stop ∷ ss)) where
  module _ (via : stop.via ≡ true) where
    pub via_rest : IsRest g b s i (at_station g a stop.node (leaving_level g 1 a.node a.level stop)) ss
    via_rest = record {
      are_stops = rest.are_stops.2;
      battery = rest.battery.2;
      home = rest.home;
      in_time = rw (via_time g a stop ss) rest.in_time;
      pairs = rw (customers_via g stop ss via) at rest.pairs;
      some = rw (customers_via g stop ss via) at rest.some;
      keeps = rw (customers_via g stop ss via) at rest.keeps;
    }

    pub via_step : IsLeafStationStep g (at_place i a) stop.node (leaving_level g 1 a.node a.level stop)
    via_step = record {
      step = record { known = rest.are_stops.1.known; moves = rest.are_stops.0; reaches = omega (arith, rest.battery.0) };
      station = rest.are_stops.1.station (inl via);
      charges = omega arith;
      full = omega (arith, rest.battery.1);
      in_time = omega (arith, via_time g a stop ss, rest.in_time);
    }

    pub via_pays : Pays g b s i (at_station g a stop.node (leaving_level g 1 a.node a.level stop)) ss → Pays g b s i a (stop ∷ ss)
    via_pays later = rw (customers_via g stop ss via, ← via_time g a stop ss) later

  -- another stop before the last is a step to a customer
  module _ (own : stop.via ≡ false) (is : is_customer g stop.node ≡ true) where
    own_adds : stop.added ≡ 0
    own_adds = none_adds (curve_at g stop.node) stop.added (none_of _ _ is) (λ some. rest.are_stops.1.station (inr some))

    own_level : leaving_level g 1 a.node a.level stop ≡ level_at g a stop.node
    own_level = omega (arith, own_adds)

    own_time : time_at g a stop.node + time_from g 1 stop.node (level_at g a stop.node) ss ≡ a.time + time_from g 1 a.node a.level (stop ∷ ss)
    own_time =
        let free : charging_time 1 g.denominator (curve_at g stop.node) (arriving_level g 1 a.node a.level stop) (leaving_level g 1 a.node a.level stop) ≡ 0 =
        none_charges (curve_at g stop.node) 1 g.denominator (arriving_level g 1 a.node a.level stop) (leaving_level g 1 a.node a.level stop) (none_of (not (nat_eq stop.node 0)) (is_none (curve_at g stop.node)) is) in
        let no_plug : plugging_time g stop ≡ 0 = rw own_adds refl in
        rw (free, no_plug) (rw own_level (omega arith))

    pub own_rest : IsRest g b s (place_of g stop.node) (at_leaf_customer g b s (at_place i a) stop.node).state ss
    own_rest =
        let keeps = rw (customers_own g stop ss own is) at rest.keeps in
        let pairs = rw (customers_own g stop ss own is) at rest.pairs in
        record {
          are_stops = rest.are_stops.2;
          battery = rw own_level at rest.battery.2;
          home = rw own_level at rest.home;
          in_time = rw own_time rest.in_time;
          pairs = pairs.1;
          some = λ none. absurd (place_some g stop.node is none);
          keeps = keeps.1;
        }

    pub own_step : IsLeafCustomerStep g b (at_place i a) stop.node
    own_step =
        let keeps = rw (customers_own g stop ss own is) at rest.keeps in
        let pairs = rw (customers_own g stop ss own is) at rest.pairs in
        record {
          step = record { known = rest.are_stops.1.known; moves = rest.are_stops.0; reaches = omega (arith, rest.battery.0) };
          customer = is;
          new = keeps.0;
          next = (pairs.0, λ first none. place_some g stop.node is none);
          in_time = omega (arith, own_time, rest.in_time);
        }

    pub own_pays : Pays g b s (place_of g stop.node) (at_leaf_customer g b s (at_place i a) stop.node).state ss → Pays g b s i a (stop ∷ ss)
    own_pays later = rw (customers_own g stop ss own is, ← own_time) (omega (arith, ints, later))
