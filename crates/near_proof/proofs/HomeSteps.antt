-- What a value on arriving at home says of the steps home from a label, and a point of the start.
use Rattle.std.proofs.Common.{◌≡◌, ◌≢◌, ◌∙◌, ℕ, ◌+◌, ◌-◌, ◌*◌, ◌<◌, ◌≤◌, Bool, true, false, List, [], ◌∷◌, max, refl, sym, ap, subst, arith, pos, ◌↔◌}
use Rattle.std.specs.Prelude.{IsTrue}
use Rattle.std.proofs.Math.Nat.{mul-le-mul_left}
use Rattle.std.proofs.lemmas.Bool.{false≢true}
use Rattle.dominance.specs.LevelTimes.{IsLevel, IsValue, time_at as value_time}
use Rattle.ev_model.specs.Network.{energy, Network, node_count, scaled_limit}
use Rattle.fleet_model.specs.Steps.{time_at}
use Rattle.piece_fn.specs.PieceFn.{level_times}
use Rattle.piece_fn.proofs.Levels.{is_level, level_is, time_at-level_times}
use Rattle.label_steps.specs.Arrivals.{drive_time, IsArrival, NoArrival}
use Rattle.label_steps.specs.Covering.{IsCoveredAll, IsMissed}
use Rattle.near_proof.specs.Broken.{EarnsHome}
use Rattle.near_proof.specs.Covered.{IsNearCovered}
use Rattle.near_proof.specs.States.{near_at, near_start}
use Rattle.near_proof.specs.Steps.{IsNearHomeStep}
use Rattle.near_proof.specs.declared.proof.NearLabel.{NearLabel}
use Rattle.near_proof.proofs.NearSteps.{covered_by}
use Rattle.near_proof.specs.Faults.{Judged}
use Rattle.near_proof.specs.Judging.{TellsHome}
use Rattle.near_proof.specs.Targets.{covers, state_at}
use Rattle.near_proof.specs.declared.coverage.Target.{Target}
use Rattle.near_proof.proofs.LabelSteps.{asked_of, later}

module _ (g : Network) (weight : ℕ) (l : NearLabel) where
  module _ (w : List (ℕ × ℕ)) (t : ℕ) (arrival : IsArrival (energy g l.node 0) (drive_time g l.node 0) (scaled_limit g) (max g.reserve g.home_level) (level_times l.value) (level_times w))
      (valid : IsValue (level_times w)) (is : t ≡ value_time (level_times w) (level_times w).first) where
    earning : 0 < node_count g → 0 ≢ l.node → weight * t < l.earned → EarnsHome g weight l
    earning known moves less =
        let e = energy g l.node 0 in
        let a = (level_times w).first in
        let level : IsLevel (level_times w) (level_times w).first = (omega arith, omega (arith, valid.some)) in
        let at = (arrival.left a).0 level in
        let time = arrival.later a level in
        let step : IsNearHomeStep g (near_at l (a + e)) = record {
          step = record { known = known; moves = moves; reaches = omega (arith, at.1) };
          home = omega (arith, at.1);
          in_time = omega (arith, at.2);
        } in
        let same : t ≡ time_at g (near_at l (a + e)).state 0 = is ∙ omega (arith, time) in
        (a + e, at.0, step, subst (λ k. weight * k < l.earned) same less)

    not_earning : (weight * t < l.earned → ⊥) → EarnsHome g weight l → ⊥
    not_earning free earns =
        let e = energy g l.node 0 in
        let v = level_times l.value in
        let y = earns.0 in
        let step = earns.2 in
        let back : y - e + e ≡ y = omega (arith, step.step.reaches) in
        let there : IsLevel v (y - e + e) × (value_time v (y - e + e) + (drive_time g l.node 0) ≤ scaled_limit g) = rw back (earns.1, omega (arith, step.in_time)) in
        let level = (arrival.left (y - e)).1 (there.0, omega (arith, step.step.reaches, step.home), there.1) in
        let time : value_time (level_times w) (y - e) ≡ value_time v y + (drive_time g l.node 0) = arrival.later (y - e) level ∙ ap (λ k. value_time v k + (drive_time g l.node 0)) back in
        let rises = valid.rising ((level_times w).first - (level_times w).first) (y - e - (level_times w).first) 0 (omega arith) (omega (arith, level.0, level.1)) in
        let late : t ≤ time_at g (near_at l y).state 0 = omega (arith, is, rises, time) in
        let scaled : weight * t ≤ weight * time_at g (near_at l y).state 0 = mul-le-mul_left weight late in
        free (omega (arith, scaled, earns.3))

    pub home_told : (earns : Bool) → 0 < node_count g → 0 ≢ l.node → (IsTrue earns ↔ (weight * t < l.earned)) → TellsHome g weight l earns
    home_told true known moves tells = earning known moves (tells.0 refl)
    home_told false known moves tells = not_earning (λ less. false≢true (tells.1 less))

  -- where there is no step home
  pub nothing_home : NoArrival (energy g l.node 0) (drive_time g l.node 0) (scaled_limit g) (max g.reserve g.home_level) (level_times l.value) → EarnsHome g weight l → ⊥
  nothing_home none earns =
      let past = none earns.0 earns.1 (omega (arith, earns.2.step.reaches, earns.2.home)) in
      omega (arith, past, earns.2.in_time)

point_level : (full y : ℕ) → IsLevel (level_times ((full, 0) ∷ [])) y → y ≡ full
point_level full y level = let inside = level_is ((full, 0) ∷ []) y tt level in omega (arith, inside)

point_time : (full y : ℕ) → IsLevel (level_times ((full, 0) ∷ [])) y → value_time (level_times ((full, 0) ∷ [])) y ≡ 0
point_time full y level = time_at-level_times ((full, 0) ∷ []) y tt level

-- the target of the start
pub record IsStartTarget (t : Target) : Type 0 where
  pub node : t.node ≡ 0
  pub memory : t.memory ≡ []
  pub count : t.count ≡ 0
  pub earned : t.earned ≡ 0

module _ (g : Network) (j : Judged) (t : Target) (full : ℕ) (value : List (ℕ × ℕ)) (is : IsStartTarget t) (same : full ≡ g.capacity) (point : value ≡ (full, 0) ∷ []) where
  pub start_covered : IsCoveredAll (covers (asked_of j t)) (level_times value) → IsNearCovered j.terms.weight j.labels (near_start g)
  start_covered all =
      let here : IsCoveredAll (covers (asked_of j t)) (level_times ((full, 0) ∷ [])) = subst (λ v. IsCoveredAll (covers (asked_of j t)) (level_times v)) point all in
      let level = is_level ((full, 0) ∷ []) full tt (omega arith) (omega arith) in
      let time = value_time (level_times ((full, 0) ∷ [])) full in
      covered_by j.terms.weight j.labels (state_at t full time) (near_start g) (here full level) (omega (arith, is.count))
      (later j.terms.weight (state_at t full time).state (near_start g).state refl is.node (rw (is.memory) (λ c h. h)) (omega (arith, same)) (omega (arith, point_time full full level)) (ap (λ (e : ℕ). pos e) is.earned))

  pub start_missed : IsMissed (covers (asked_of j t)) (level_times value) → IsNearCovered j.terms.weight j.labels (near_start g) → ⊥
  start_missed missed covered =
      let here : IsMissed (covers (asked_of j t)) (level_times ((full, 0) ∷ [])) = subst (λ v. IsMissed (covers (asked_of j t)) (level_times v)) point missed in
      let y = here.0 in
      let at = point_level full y here.1 in
      let time = value_time (level_times ((full, 0) ∷ [])) y in
      here.2 (covered_by j.terms.weight j.labels (near_start g) (state_at t y time) covered (omega arith)
      (later j.terms.weight (near_start g).state (state_at t y time).state refl (sym is.node) (λ c h. absurd (grind (arith, h))) (omega (arith, same, at)) (omega arith) (ap (λ (e : ℕ). pos e) (sym is.earned))))
