-- What the first level of a value on arriving says of the steps home from a label.
use Rattle.std.proofs.Common.{◌≡◌, ◌≢◌, ◌∙◌, ℕ, ◌+◌, ◌-◌, ◌*◌, ◌<◌, ◌≤◌, Bool, true, false, max, refl, ap, subst, arith, pos, ◌<ℤ◌, ◌↔◌, List}
use Rattle.std.specs.Prelude.{IsTrue}
use Rattle.std.proofs.Math.Nat.{mul-le-mul_left}
use Rattle.std.proofs.lemmas.Bool.{false≢true}
use Rattle.std.proofs.lemmas.Int.{ints}
use Rattle.dominance.specs.LevelTimes.{IsLevel, IsValue, time_at as value_time}
use Rattle.ev_model.specs.Network.{energy, node_count, scaled_limit}
use Rattle.fleet_model.specs.ClosedListRules.{EarnsAtHome}
use Rattle.fleet_model.specs.Labels.{state_at as label_state}
use Rattle.fleet_model.specs.Places.{place_of}
use Rattle.fleet_model.specs.Prices.{price_sum}
use Rattle.fleet_model.specs.Steps.{IsHomeStep, time_at}
use Rattle.piece_fn.specs.PieceFn.{level_times}
use Rattle.piece_fn.specs.declared.label.Label.{Label}
use Rattle.label_steps.specs.Arrivals.{drive_time, IsArrival, NoArrival}
use Rattle.closed_lists.specs.Questions.{Question, section}
use Rattle.closed_lists.specs.Sections.{paid_label}
use Rattle.closed_lists.specs.Tellings.{TellsHome}

module _ (q : Question) (l : Label) where
  pub Earns : Type 0
  Earns = EarnsAtHome q.network (section q) (paid_label q.prices l)

  module _ (w : List (ℕ × ℕ)) (t : ℕ) (arrival : IsArrival (energy q.network l.node 0) (drive_time q.network l.node 0) (scaled_limit q.network) (max q.network.reserve q.network.home_level) (level_times l.value) (level_times w))
      (valid : IsValue (level_times w)) (is : t ≡ value_time (level_times w) (level_times w).first) where
    earning : 0 < node_count q.network → 0 ≢ l.node → l.last ≢ 0 → (section q).allows (place_of q.network l.last) 0 ≡ true → pos (q.weight * t) <ℤ price_sum q.prices l.set → Earns
    unfolding Earns
    earning known moves some allowed less =
        let e = energy q.network l.node 0 in
        let a = (level_times w).first in
        let level : IsLevel (level_times w) (level_times w).first = (omega arith, omega (arith, valid.some)) in
        let at = (arrival.left a).0 level in
        let time = arrival.later a level in
        let step : IsHomeStep q.network (section q) (label_state (paid_label q.prices l) (a + e)) = record {
          step = record { known = known; moves = moves; reaches = omega (arith, at.1) };
          some = some;
          allowed = allowed;
          home = omega (arith, at.1);
          in_time = omega (arith, at.2);
        } in
        let same : t ≡ time_at q.network (label_state (paid_label q.prices l) (a + e)) 0 = is ∙ omega (arith, time) in
        (a + e, at.0, step, subst (λ k. pos (q.weight * k) <ℤ price_sum q.prices l.set) same less)

    not_earning : (pos (q.weight * t) <ℤ price_sum q.prices l.set → ⊥) → Earns → ⊥
    unfolding Earns
    not_earning free earns =
        let e = energy q.network l.node 0 in
        let v = level_times l.value in
        let y = earns.0 in
        let step = earns.2 in
        let back : y - e + e ≡ y = omega (arith, step.step.reaches) in
        let there : IsLevel v (y - e + e) × (value_time v (y - e + e) + (drive_time q.network l.node 0) ≤ scaled_limit q.network) = rw back (earns.1, omega (arith, step.in_time)) in
        let level = (arrival.left (y - e)).1 (there.0, omega (arith, step.step.reaches, step.home), there.1) in
        let time : value_time (level_times w) (y - e) ≡ value_time v y + (drive_time q.network l.node 0) = arrival.later (y - e) level ∙ ap (λ k. value_time v k + (drive_time q.network l.node 0)) back in
        let rises = valid.rising ((level_times w).first - (level_times w).first) (y - e - (level_times w).first) 0 (omega arith) (omega (arith, level.0, level.1)) in
        let later : t ≤ time_at q.network (label_state (paid_label q.prices l) y) 0 = omega (arith, is, rises, time) in
        let scaled : q.weight * t ≤ q.weight * time_at q.network (label_state (paid_label q.prices l) y) 0 = mul-le-mul_left q.weight later in
        free (omega (arith, ints, scaled, earns.3))

    pub home_told : (earns : Bool) → 0 < node_count q.network → 0 ≢ l.node → l.last ≢ 0 → (section q).allows (place_of q.network l.last) 0 ≡ true → (IsTrue earns ↔ (pos (q.weight * t) <ℤ price_sum q.prices l.set)) → TellsHome q l earns
    unfolding Earns
    home_told true known moves some allowed tells = earning known moves some allowed (tells.0 refl)
    home_told false known moves some allowed tells = not_earning (λ less. false≢true (tells.1 less))

  -- where there is no step home
  pub nothing_home : NoArrival (energy q.network l.node 0) (drive_time q.network l.node 0) (scaled_limit q.network) (max q.network.reserve q.network.home_level) (level_times l.value) → EarnsAtHome q.network (section q) (paid_label q.prices l) → ⊥
  nothing_home none earns =
      let past = none earns.0 earns.1 (omega (arith, earns.2.step.reaches, earns.2.home)) in
      omega (arith, past, earns.2.in_time)
