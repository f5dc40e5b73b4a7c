-- Values whose points are levels of the battery at times within the limit.
use Rattle.std.proofs.Common.{◌≡◌, ◌∙◌, ℕ, ◌-◌, ◌<◌, ◌≤◌, List, [], ◌∷◌, ap, arith, length, subst, take}
use Rattle.std.specs.Prelude.{Bool}
use Rattle.std.specs.List.{All}
use Rattle.std.proofs.Math.Seq.{take-length}
use Rattle.std.proofs.lemmas.List.Elements.{All-head, All-tail}
use Rattle.charge_curve.specs.Points.{ArePoints, last_level, time_on}
use Rattle.dominance.proofs.Pieces.{never_falls, time_on-later}
use Rattle.dominance.specs.LevelTimes.{IsLevel, time_at}
use Rattle.ev_model.specs.Network.{Network, node_count, scaled_limit}
use Rattle.piece_fn.proofs.Levels.{first_is_least, level_is, time_at-level_times}
use Rattle.piece_fn.specs.PieceFn.{level_times}
use Rattle.route_steps.specs.Trips.{Journey}
use Rattle.frvcp_labels.specs.Listing.{IsPointWithin, IsStateOnWay}

-- the first points of so many
pub all_within : (g : Network) (ps : List (ℕ × ℕ)) (i : ℕ) → i ≤ length ps → length ps ≤ i → All (IsPointWithin g) (take i ps) → All (IsPointWithin g) ps
all_within g ps i within past before =
    let same : i ≡ length ps = omega (arith, within, past) in
    subst (All (IsPointWithin g)) (ap (λ n. take n ps) same ∙ take-length ps) before

last_within : (g : Network) (ps : List (ℕ × ℕ)) → ArePoints ps → All (IsPointWithin g) ps → (last_level ps ≤ g.capacity) × (time_on ps (last_level ps) ≤ scaled_limit g)
last_within g [] are all = absurd are
last_within g (p ∷ []) are all = All-head (IsPointWithin g) p [] all
last_within g (p ∷ q ∷ ps) are all =
    let rest = last_within g (q ∷ ps) are.3 (All-tail (IsPointWithin g) p (q ∷ ps) all) in
    let same = time_on-later p q ps (last_level (q ∷ ps)) are (first_is_least (q ∷ ps) are.3) in
    (rest.0, omega (arith, rest.1, same))

level_within : (g : Network) (ps : List (ℕ × ℕ)) → ArePoints ps → All (IsPointWithin g) ps → (level : ℕ) → IsLevel (level_times ps) level → (level ≤ g.capacity) × (time_at (level_times ps) level ≤ scaled_limit g)
level_within g ps are all level is =
    let last = last_within g ps are all in
    let within = level_is ps level are is in
    let same = time_at-level_times ps level are is in
    let rises = never_falls ps are level (last_level ps) within.1 in
    (omega (arith, within.1, last.0), omega (arith, same, rises, last.1))

pub within_is_on_way : (t : Journey) (passed node : ℕ) (charged : Bool) (value : List (ℕ × ℕ)) → passed < length t.route - 1 → node < node_count t.network → ArePoints value → All (IsPointWithin t.network) value
    → IsStateOnWay t (record { passed = passed; node = node; charged = charged; value = value })
within_is_on_way t passed node charged value before known are all = record {
  sound = record {
    passed = omega (arith, before);
    node = known;
    levels = λ level is. (level_within t.network value are all level is).0;
    times = λ level is. (level_within t.network value are all level is).1;
  };
  on_way = before;
  valid = are;
}
