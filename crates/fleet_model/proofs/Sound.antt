-- Soundness of closed lists: what is left of a plan takes as long as its prices ask.
use Rattle.std.proofs.Common.{◌≡◌, ◌≢◌, ◌∙◌, ℕ, zero, suc, ◌+◌, ◌*◌, ◌<◌, ◌≤◌, Bool, true, false, ◌&&◌, refl, sym, subst, List, [], ◌∷◌, ◌++◌, map, Option, Some, None, arith, inl, inr}
use Rattle.std.specs.Prelude.{is_none, not, nat_eq, IsSome, ℤ, pos, ◌+ℤ◌, ◌≤ℤ◌, nat_lt}
use Rattle.std.proofs.Math.Nat.{mul-le-mul_left}
use Rattle.std.proofs.lemmas.Bool.{cases_Bool, cases_eq, lt-ltb, le-ltb}
use Rattle.std.proofs.lemmas.Int.{ints}
use Rattle.ev_model.specs.Fleet.{customers_of}
use Rattle.ev_model.specs.Levels.{arriving_level, leaving_level, KeepsBatteryFrom, level_after}
use Rattle.ev_model.specs.Network.{Network, IsNetwork, energy, curve_at, is_customer, scaled_limit}
use Rattle.ev_model.specs.Plan.{AreStopsFrom, EndsAtDepot, IsEnd}
use Rattle.ev_model.specs.Time.{charging_time, plugging_time, time_from}
use Rattle.ev_model.specs.declared.Stop.{Stop}
use Rattle.fleet_model.specs.Pairs.{KeepsPairs}
use Rattle.fleet_model.specs.Places.{numbers_of, place_of}
use Rattle.fleet_model.specs.Labels.{State}
use Rattle.fleet_model.specs.Prices.{price_sum}
use Rattle.fleet_model.specs.Section.{Section, IsSectionOf}
use Rattle.fleet_model.specs.Coverage.{IsCovered}
use Rattle.fleet_model.specs.Steps.{level_at, time_at, at_customer, IsCustomerStep, at_station, IsStationStep, IsHomeStep}
use Rattle.fleet_model.specs.ClosedList.{IsClosed}
use Rattle.fleet_model.proofs.Counts.{AreNew}
use Rattle.fleet_model.proofs.Steps.{customer_step, station_step, home_step}

-- the rest of a plan, on from a state
pub record IsRest (g : Network) (s : Section) (b : State) (stops : List Stop) : Type 0 where
  pub are_stops : AreStopsFrom g b.node stops
  pub battery : KeepsBatteryFrom g 1 b.node b.level stops
  pub home : 1 * g.home_level ≤ level_after g 1 b.node b.level stops
  pub in_time : b.time + time_from g 1 b.node b.level stops ≤ scaled_limit g
  pub pairs : KeepsPairs s.allows (place_of g b.last ∷ map (place_of g) (customers_of g stops) ++ 0 ∷ [])
  pub new : AreNew b.served (numbers_of g stops)
  pub none_yet : b.last ≡ 0 → b.paid ≡ pos 0

-- each stop before the last that was not inserted is at a customer
abbrev pub HasNoStray : Network → List Stop → Type 0
HasNoStray g [] = Unit {0}
HasNoStray g (s ∷ []) = Unit {0}
HasNoStray g (s ∷ t ∷ ss) = (s.via ≡ false → is_customer g s.node ≡ true) × HasNoStray g (t ∷ ss)

abbrev pub Pays : Network → Section → State → List Stop → Type 0
Pays g s b stops = (b.paid +ℤ price_sum s.prices (numbers_of g stops)) ≤ℤ pos (s.weight * (b.time + time_from g 1 b.node b.level stops))

customers_via : (g : Network) (s : Stop) (ss : List Stop) → s.via ≡ true → customers_of g (s ∷ ss) ≡ customers_of g ss
customers_via g s ss via = rw via refl

customers_own : (g : Network) (s : Stop) (ss : List Stop) → s.via ≡ false → is_customer g s.node ≡ true → customers_of g (s ∷ ss) ≡ s.node ∷ customers_of g ss
customers_own g s ss own is = rw (own, is) refl

-- a customer is no station, so nothing is charged there
none_of : (a b : Bool) → (a && b) ≡ true → b ≡ true
none_of true b h = h
none_of false true h = refl
none_of false false h = h

not_depot : (g : Network) (x : ℕ) → is_customer g x ≡ true → x ≢ 0
not_depot g x is zero_is = grind (arith, is, zero_is)

none_adds : (c : Option (List (ℕ × ℕ))) (added : ℕ) → is_none c ≡ true → (0 < added → IsSome c) → added ≡ 0
none_adds None zero none some = refl
none_adds None (suc n) none some = let h : IsSome {T = List (ℕ × ℕ)} None = some (omega arith) in grind (arith, h)
none_adds (Some c) added none some = grind (arith, none)

none_charges : (c : Option (List (ℕ × ℕ))) (k d a b : ℕ) → is_none c ≡ true → charging_time k d c a b ≡ 0
none_charges None k d a b none = refl
none_charges (Some c) k d a b none = grind (arith, none)

arrives_at : (g : Network) (b : State) (stop : Stop) → arriving_level g 1 b.node b.level stop ≡ level_at g b stop.node
arrives_at g b stop = let one : 1 * energy g b.node stop.node ≡ energy g b.node stop.node = omega arith in rw one refl

-- something is charged exactly where the level rises
charged : (low added : ℕ) → nat_lt low (low + added) ≡ nat_lt 0 added
charged low zero = le-ltb low (low + 0) (omega arith)
charged low (suc n) = lt-ltb low (low + suc n) (omega arith) ∙ sym (lt-ltb 0 (suc n) (omega arith))

-- a stop that was inserted is a step to a station
via_time : (g : Network) (b : State) (stop : Stop) (ss : List Stop) →
    (at_station g b stop.node (leaving_level g 1 b.node b.level stop)).time + time_from g 1 stop.node (leaving_level g 1 b.node b.level stop) ss ≡ b.time + time_from g 1 b.node b.level (stop ∷ ss)
via_time g b stop ss = rw (arrives_at g b stop, charged (level_at g b stop.node) stop.added) (omega arith)

via_rest : (g : Network) (s : Section) (b : State) (stop : Stop) (ss : List Stop) → stop.via ≡ true → IsRest g s b (stop ∷ ss) → IsRest g s (at_station g b stop.node (leaving_level g 1 b.node b.level stop)) ss
via_rest g s b stop ss via rest = record {
  are_stops = rest.are_stops.2;
  battery = rest.battery.2;
  home = rest.home;
  in_time = rw (via_time g b stop ss) rest.in_time;
  pairs = rw (customers_via g stop ss via) at rest.pairs;
  new = rw (customers_via g stop ss via) at rest.new;
  none_yet = rest.none_yet;
}

via_step : (g : Network) (s : Section) (b : State) (stop : Stop) (ss : List Stop) → stop.via ≡ true → IsRest g s b (stop ∷ ss) → IsStationStep g b stop.node (leaving_level g 1 b.node b.level stop)
via_step g s b stop ss via rest = record {
  step = record { known = rest.are_stops.1.known; moves = rest.are_stops.0; reaches = omega (arith, rest.battery.0) };
  station = rest.are_stops.1.station (inl via);
  charges = omega arith;
  full = omega (arith, rest.battery.1);
  in_time = omega (arith, via_time g b stop ss, rest.in_time);
}

via_pays : (g : Network) (s : Section) (b : State) (stop : Stop) (ss : List Stop) → stop.via ≡ true → Pays g s (at_station g b stop.node (leaving_level g 1 b.node b.level stop)) ss → Pays g s b (stop ∷ ss)
via_pays g s b stop ss via later = rw (customers_via g stop ss via, ← via_time g b stop ss) later

-- another stop before the last is a step to a customer
own_adds : (g : Network) (s : Section) (b : State) (stop : Stop) (ss : List Stop) → is_customer g stop.node ≡ true → IsRest g s b (stop ∷ ss) → stop.added ≡ 0
own_adds g s b stop ss is rest = none_adds (curve_at g stop.node) stop.added (none_of _ _ is) (λ some. rest.are_stops.1.station (inr some))

own_level : (g : Network) (s : Section) (b : State) (stop : Stop) (ss : List Stop) → is_customer g stop.node ≡ true → IsRest g s b (stop ∷ ss) → leaving_level g 1 b.node b.level stop ≡ level_at g b stop.node
own_level g s b stop ss is rest = omega (arith, own_adds g s b stop ss is rest)

own_time : (g : Network) (s : Section) (b : State) (stop : Stop) (ss : List Stop) → is_customer g stop.node ≡ true → IsRest g s b (stop ∷ ss) →
    time_at g b stop.node + time_from g 1 stop.node (level_at g b stop.node) ss ≡ b.time + time_from g 1 b.node b.level (stop ∷ ss)
own_time g s b stop ss is rest =
    let free : charging_time 1 g.denominator (curve_at g stop.node) (arriving_level g 1 b.node b.level stop) (leaving_level g 1 b.node b.level stop) ≡ 0 =
    none_charges (curve_at g stop.node) 1 g.denominator (arriving_level g 1 b.node b.level stop) (leaving_level g 1 b.node b.level stop) (none_of (not (nat_eq stop.node 0)) (is_none (curve_at g stop.node)) is) in
    let no_plug : plugging_time g stop ≡ 0 = rw (own_adds g s b stop ss is rest) refl in
    rw (free, no_plug) (rw (own_level g s b stop ss is rest) (omega arith))

own_rest : (g : Network) (s : Section) (b : State) (stop : Stop) (ss : List Stop) → stop.via ≡ false → is_customer g stop.node ≡ true → IsRest g s b (stop ∷ ss) → IsRest g s (at_customer g s b stop.node) ss
own_rest g s b stop ss own is rest =
    let new = rw (customers_own g stop ss own is) at rest.new in
    let pairs = rw (customers_own g stop ss own is) at rest.pairs in
    record {
      are_stops = rest.are_stops.2;
      battery = rw (own_level g s b stop ss is rest) at rest.battery.2;
      home = rw (own_level g s b stop ss is rest) at rest.home;
      in_time = rw (own_time g s b stop ss is rest) rest.in_time;
      pairs = pairs.1;
      new = new.1;
      none_yet = λ zero_is. absurd (not_depot g stop.node is zero_is);
    }

own_step : (g : Network) (s : Section) (b : State) (stop : Stop) (ss : List Stop) → stop.via ≡ false → is_customer g stop.node ≡ true → IsRest g s b (stop ∷ ss) → IsCustomerStep g s b stop.node
own_step g s b stop ss own is rest =
    let new = rw (customers_own g stop ss own is) at rest.new in
    let pairs = rw (customers_own g stop ss own is) at rest.pairs in
    record {
      step = record { known = rest.are_stops.1.known; moves = rest.are_stops.0; reaches = omega (arith, rest.battery.0) };
      customer = is;
      new = new.0;
      allowed = pairs.0;
      in_time = omega (arith, own_time g s b stop ss is rest, rest.in_time);
    }

own_pays : (g : Network) (s : Section) (b : State) (stop : Stop) (ss : List Stop) → stop.via ≡ false → is_customer g stop.node ≡ true → IsRest g s b (stop ∷ ss) → Pays g s (at_customer g s b stop.node) ss → Pays g s b (stop ∷ ss)
own_pays g s b stop ss own is rest later = rw (customers_own g stop ss own is, ← own_time g s b stop ss is rest) (omega (arith, ints, later))

-- the last stop is the step home
abbrev pub home_stop : Stop
home_stop = record { node = 0; added = 0; via = false }

home_time : (g : Network) (b : State) → time_at g b 0 ≤ b.time + time_from g 1 b.node b.level (home_stop ∷ [])
home_time g b = omega arith

took : (p : ℤ) (w t u : ℕ) → p ≤ℤ pos (w * t) → t ≤ u → (p +ℤ pos 0) ≤ℤ pos (w * u)
took p w t u paid le =
    let scaled : w * t ≤ w * u = mul-le-mul_left w le in
    omega (arith, ints, paid, scaled)

home_pays : (g : Network) (s : Section) (b : State) → IsClosed g s → IsCovered s b → IsRest g s b (home_stop ∷ []) → Pays g s b (home_stop ∷ [])
home_pays g s b closed covered rest = elim (cases_eq b.last 0) [
  | inl zero_is ↦ rw (rest.none_yet zero_is) (omega (arith, ints))
  | inr some ↦
      let later = home_time g b in
      let step : IsHomeStep g s b = record {
        step = record { known = rest.are_stops.1.known; moves = rest.are_stops.0; reaches = omega (arith, rest.battery.0) };
        some = some;
        allowed = rest.pairs.0;
        home = omega (arith, rest.home, rest.battery.0);
        in_time = omega (arith, later, rest.in_time);
      } in
      took _ _ _ _ (home_step g s b closed covered step) later
]

last_pays : (g : Network) (s : Section) (b : State) (stop : Stop) → IsClosed g s → IsCovered s b → IsEnd stop → IsRest g s b (stop ∷ []) → Pays g s b (stop ∷ [])
last_pays g s b stop closed covered end rest = subst (λ (x : Stop). IsRest g s b (x ∷ []) → Pays g s b (x ∷ [])) (sym end) (home_pays g s b closed covered) rest

pub pays : (g : Network) (s : Section) (b : State) (stops : List Stop) → IsNetwork g → IsSectionOf g s → IsClosed g s → IsCovered s b → EndsAtDepot stops → HasNoStray g stops → IsRest g s b stops → Pays g s b stops
pays g s b [] network of closed covered ends fine rest = absurd ends
pays g s b (stop ∷ []) network of closed covered ends fine rest = last_pays g s b stop closed covered ends rest
pays g s b (stop ∷ t ∷ ss) network of closed covered ends fine rest = elim (cases_Bool stop.via) [
  | inl via ↦
      let z = leaving_level g 1 b.node b.level stop in
      let next = station_step g s b stop.node z network of closed covered (via_step g s b stop (t ∷ ss) via rest) in
      via_pays g s b stop (t ∷ ss) via (pays g s (at_station g b stop.node z) (t ∷ ss) network of closed next ends fine.1 (via_rest g s b stop (t ∷ ss) via rest))
  | inr own ↦
      let is = fine.0 own in
      let next = customer_step g s b stop.node closed covered (own_step g s b stop (t ∷ ss) own is rest) in
      own_pays g s b stop (t ∷ ss) own is rest (pays g s (at_customer g s b stop.node) (t ∷ ss) network of closed next ends fine.1 (own_rest g s b stop (t ∷ ss) own is rest))
]
