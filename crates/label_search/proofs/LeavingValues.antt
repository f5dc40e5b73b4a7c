-- What is left of a value at a node: as the vehicle arrives, and after plugging in and charging.
use Rattle.std.proofs.Common.{◌≡◌, ℕ, zero, suc, ◌+◌, ◌-◌, ◌<◌, ◌≤◌, ap, subst, sym, List, arith, Option, None, Some}
use Rattle.std.specs.Prelude.{Err, IfOk, IfSome, IsSome, Ok, Result, slice_get, slice_index_or, true}
use Rattle.std.specs.List.{All}
use Rattle.std.proofs.lemmas.Option.{slice_get-get_or}
use Rattle.dominance.specs.LevelTimes.{IsLevel, time_at}
use Rattle.ev_model.specs.Network.{curve_at, energy, Network}
use Rattle.piece_fn.specs.PieceFn.{level_times}
use Rattle.label_steps.specs.Arrivals.{ArrivesAs, drive_time, IsWithin}
use Rattle.label_steps.specs.Leaves.{AreLeft, charge_time_at}
use Rattle.label_steps.proofs.Stops.{passing_time, stop_parts}
use Rattle.label_search.specs.Steps.{ComesBy, IsLeft, time_of_stop}

module _ (g : Network) (v : List (ℕ × ℕ)) (u x : ℕ) (w : List (ℕ × ℕ)) (arrival : ArrivesAs g v u x g.reserve (Some w)) (within : IsWithin g w) where
  -- a level on leaving, with what was charged from a level on arriving
  comes_by : (a added level time : ℕ) → IsLevel (level_times w) a → a + added ≡ level → level ≤ g.capacity → (0 < added → IsSome (curve_at g x)) → time_at (level_times w) a + charge_time_at g x a added ≤ time → ComesBy g v u x level time
  comes_by a added level time is up full station no_later =
      let at = (arrival.left a).0 is in
      let later = arrival.later a is in
      let gone : a + energy g u x - energy g u x ≡ a = omega arith in
      let parts : time_of_stop g u (a + energy g u x) x added ≡ drive_time g u x + charge_time_at g x (a + energy g u x - energy g u x) added = stop_parts g u (a + energy g u x) (record { node = x; added = added; via = true }) in
      let charge : charge_time_at g x (a + energy g u x - energy g u x) added ≡ charge_time_at g x a added = ap (λ k. charge_time_at g x k added) gone in
      record {
        before = a + energy g u x;
        added = added;
        there = at.0;
        reaches = omega (arith, at.1);
        leaves = omega (arith, gone, up);
        full = full;
        station = station;
        no_sooner = omega (arith, later, parts, charge, no_later);
      }

  pub arrived_left : IsLeft g v u x w
  arrived_left = record {
    comes = λ level is. (let none = passing_time g x level in comes_by level 0 level (time_at (level_times w) level) is (omega arith) (within.levels level is) (λ more. absurd (omega (arith, more))) (omega (arith, none)));
    times = within.times;
  }

  left_at : (values : List (List (ℕ × ℕ))) → AreLeft g x w values → (k : ℕ) (value : List (ℕ × ℕ)) → slice_get values k ≡ Some value → IsLeft g v u x value
  left_at values left zero value here = subst (IsLeft g v u x) (sym (left.passing value here)) arrived_left
  left_at values left (suc k) value here =
      let plugged = left.plugged (suc k) value here (omega arith) in
      record {
        comes = λ level is.
            let from = plugged.from level is in
            comes_by (level_times value).first (level - (level_times value).first) level (time_at (level_times value) level) from.0 (omega (arith, from.1)) from.2 (λ more. plugged.station) (plugged.no_later level is);
        times = plugged.in_time;
      }

  pub all_left : (values : List (List (ℕ × ℕ))) → AreLeft g x w values → All (IsLeft g v u x) values
  all_left values left k d less = left_at values left k (slice_index_or values k d) (slice_get-get_or values k d less)

-- what is told of a network, a value and a node is told of the same ones
pub same_place : (P : Network → List (ℕ × ℕ) → ℕ → Type 0) (k g : Network) (w v : List (ℕ × ℕ)) (n u : ℕ) → k ≡ g → w ≡ v → n ≡ u → P k w n → P g v u
same_place P k g w v n u network value node told = subst (λ x. P g v x) node (subst (λ y. P g y n) value (subst (λ (h : Network). P h w n) network told))

-- what arrives leaves
pub leaves : {E : Type 0} (g : Network) (v : List (ℕ × ℕ)) (u x : ℕ) (r : Result (Option (List (ℕ × ℕ))) E) → IfOk r (ArrivesAs g v u x g.reserve) → IfOk r (λ o. IfSome o (IsWithin g)) → IfOk r (λ o. IfSome o (IsLeft g v u x))
leaves g v u x (Err e) arrives within = tt
leaves g v u x (Ok None) arrives within = tt
leaves g v u x (Ok (Some w)) arrives within = arrived_left g v u x w arrives within
