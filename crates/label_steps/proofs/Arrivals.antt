-- What is left of a value on arriving: moved along the arc, and cut at the least level.
use Rattle.std.proofs.Common.{◌≡◌, ◌∙◌, ℕ, ◌+◌, ◌-◌, ◌<◌, ◌≤◌, List, Option, None, Some, Result, Ok, Err, refl, ap, arith, inl, inr}
use Rattle.std.specs.Prelude.{IfNone, IfOk, IfSome, MatchOption}
use Rattle.std.proofs.lemmas.Bool.{cases_lt}
use Rattle.dominance.specs.LevelTimes.{IsLevel, LevelTimes, time_at}
use Rattle.dominance.specs.Steps.{IsShift}
use Rattle.ev_model.specs.Network.{energy, Network, scaled_limit}
use Rattle.piece_fn.specs.PieceFn.{IsCut, level_times}
use Rattle.label_steps.specs.Arrivals.{ArrivesAs, CoversVehicle, drive_time, IsArrival, IsWithin, NoArrival}
use Rattle.label_steps.proofs.Vehicles.{covers_vehicle, reaches_vehicle}

-- a value without levels below the least is its own cut
pub cut_of_itself : (least : ℕ) (v : LevelTimes) → least ≤ v.first → IsCut least v v
cut_of_itself least v low = record {
  begins = omega (arith, low);
  left = λ x. (λ is. (is, omega (arith, low, is.0)), λ both. both.0);
  same = λ x is. refl;
}

pub nothing_high : (energy time limit least : ℕ) (v w : LevelTimes) → IsShift energy time limit v w → ((level : ℕ) → IsLevel w level → level < least) → NoArrival energy time limit least v
nothing_high energy time limit least v w shift low level is high = elim (cases_lt limit (time_at v level + time)) [
  | inl past ↦ past
  | inr within ↦
      let back : level - energy + energy ≡ level = omega (arith, high) in
      let there : IsLevel v (level - energy + energy) × (time_at v (level - energy + energy) + time ≤ limit) = rw back (is, within) in
      let below = low (level - energy) ((shift.left (level - energy)).1 there) in
      absurd (omega (arith, below, high))
]

pub arrives : (energy time limit least : ℕ) (v w x : LevelTimes) → IsShift energy time limit v w → IsCut least w x → IsArrival energy time limit least v x
arrives energy time limit least v w x shift cut = record {
  left = λ level. (
    λ is.
        let kept = (cut.left level).0 is in
        let moved = (shift.left level).0 kept.0 in
        (moved.0, kept.1, moved.1),
    λ all. (cut.left level).1 ((shift.left level).1 (all.0, all.2), all.1),
  );
  later = λ level is. cut.same level is ∙ shift.later level ((cut.left level).0 is).0;
}

-- where nothing or something is left of a moved value, nothing or something arrives
pub cut_arrives : {E : Type 0} (energy time limit least : ℕ) (v w : LevelTimes) (r : Result (Option (List (ℕ × ℕ))) E) → IsShift energy time limit v w → IfOk r (λ cut. IfNone cut ((level : ℕ) → IsLevel w level → level < least))
    → IfOk r (λ cut. IfSome cut (λ x. IsCut least w (level_times x))) → IfOk r (λ o. MatchOption o (NoArrival energy time limit least v) (λ x. IsArrival energy time limit least v (level_times x)))
cut_arrives energy time limit least v w (Err e) shift none some = tt
cut_arrives energy time limit least v w (Ok None) shift none some = nothing_high energy time limit least v w shift none
cut_arrives energy time limit least v w (Ok (Some x)) shift none some = arrives energy time limit least v w (level_times x) shift some

-- the same by numbers that the code computed
pub arrives_as : {E : Type 0} (g : Network) (v : List (ℕ × ℕ)) (from to least arc time limit : ℕ) (r : Result (Option (List (ℕ × ℕ))) E) → arc ≡ energy g from to → time ≡ drive_time g from to → limit ≡ scaled_limit g
    → IfOk r (λ o. MatchOption o (NoArrival arc time limit least (level_times v)) (λ w. IsArrival arc time limit least (level_times v) (level_times w))) → IfOk r (ArrivesAs g v from to least)
arrives_as g v from to least arc time limit (Err e) one two three is = tt
arrives_as g v from to least arc time limit (Ok None) one two three is = rw (← one, ← two, ← three) is
arrives_as g v from to least arc time limit (Ok (Some w)) one two three is = rw (← one, ← two, ← three) is

pub arrival_within : (g : Network) (v w : List (ℕ × ℕ)) (from to least : ℕ) → ((level : ℕ) → IsLevel (level_times v) level → level ≤ g.capacity) → ArrivesAs g v from to least (Some w) → IsWithin g w
arrival_within g v w from to least low is = record {
  levels = λ y level. let at = (is.left y).0 level in omega (arith, low (y + energy g from to) at.0);
  times = λ y level. let at = (is.left y).0 level in omega (arith, is.later y level, at.2);
}

pub is_within : {E : Type 0} (g : Network) (v : List (ℕ × ℕ)) (from to least : ℕ) (r : Result (Option (List (ℕ × ℕ))) E) → ((level : ℕ) → IsLevel (level_times v) level → level ≤ g.capacity) → IfOk r (ArrivesAs g v from to least) → IfOk r (λ o. IfSome o (IsWithin g))
is_within g v from to least (Err e) low is = tt
is_within g v from to least (Ok None) low is = tt
is_within g v from to least (Ok (Some w)) low is = arrival_within g v w from to least low is

module _ (g : Network) (v : List (ℕ × ℕ)) (from to least : ℕ) where
  -- a level of a value with enough for the arc, in time, arrives
  pub arrives_at : (w : List (ℕ × ℕ)) → ArrivesAs g v from to least (Some w) → (level : ℕ) → IsLevel (level_times v) level → energy g from to + least ≤ level → time_at (level_times v) level + drive_time g from to ≤ scaled_limit g
      → IsLevel (level_times w) (level - energy g from to) × (time_at (level_times w) (level - energy g from to) ≡ time_at (level_times v) level + drive_time g from to)
  arrives_at w arrival level is enough in_time =
      let back : level - energy g from to + energy g from to ≡ level = omega (arith, enough) in
      let there : IsLevel (level_times v) (level - energy g from to + energy g from to) × (time_at (level_times v) (level - energy g from to + energy g from to) + drive_time g from to ≤ scaled_limit g) = rw back (is, in_time) in
      let at = (arrival.left (level - energy g from to)).1 (there.0, omega (arith, enough), there.1) in
      (at, arrival.later (level - energy g from to) at ∙ ap (λ k. time_at (level_times v) k + drive_time g from to) back)

  -- a vehicle that is covered and has enough for the arc, in time, is covered by what is left
  pub arrives_covers : (o : Option (List (ℕ × ℕ))) → ArrivesAs g v from to least o → (level time : ℕ) → CoversVehicle (level_times v) level time → energy g from to + least ≤ level → time + drive_time g from to ≤ scaled_limit g
      → MatchOption o ⊥ (λ w. CoversVehicle (level_times w) (level - energy g from to) (time + drive_time g from to))
  arrives_covers None none level time covers enough in_time =
      let r = reaches_vehicle (level_times v) level time covers in
      let past = none r.0 r.1 (omega (arith, enough, r.2.0)) in
      absurd (omega (arith, past, r.2.1, in_time))
  arrives_covers (Some w) arrival level time covers enough in_time =
      let r = reaches_vehicle (level_times v) level time covers in
      let at = arrives_at w arrival r.0 r.1 (omega (arith, enough, r.2.0)) (omega (arith, r.2.1, in_time)) in
      covers_vehicle (level_times w) (level - energy g from to) (time + drive_time g from to) (r.0 - energy g from to, at.0, (omega (arith, r.2.0), omega (arith, at.1, r.2.1)))
