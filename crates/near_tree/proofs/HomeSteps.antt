-- What a value on arriving at home says of the steps home from a label, and a point of the start.
use Rattle.std.proofs.Common.{◌≡◌, ◌≢◌, ◌∙◌, ℕ, ◌+◌, ◌-◌, ◌*◌, ◌<◌, ◌≤◌, Bool, true, false, List, [], ◌∷◌, max, refl, sym, ap, subst, arith, pos, ◌↔◌, ◌<ℤ◌}
use Rattle.std.specs.Prelude.{IsTrue}
use Rattle.std.proofs.Math.Nat.{mul-le-mul_left}
use Rattle.std.proofs.lemmas.Bool.{false≢true, ltb-true}
use Rattle.std.proofs.lemmas.Int.{ints}
use Rattle.certificate_parts.specs.Ranges.{customer_count}
use Rattle.dominance.specs.LevelTimes.{IsLevel, IsValue, time_at as value_time}
use Rattle.ev_model.specs.Network.{energy, Network, node_count, scaled_limit}
use Rattle.fleet_model.specs.Steps.{time_at}
use Rattle.piece_fn.specs.PieceFn.{level_times}
use Rattle.piece_fn.proofs.Levels.{is_level, level_is, time_at-level_times}
use Rattle.label_steps.specs.Arrivals.{drive_time, IsArrival, NoArrival}
use Rattle.label_steps.specs.Covering.{IsCoveredAll, IsMissed}
use Rattle.near_tree.specs.Follows.{MayFollow}
use Rattle.near_tree.specs.Lasts.{last_at}
use Rattle.near_tree.specs.Preorder.{last_of, leaf_label}
use Rattle.near_tree.specs.Rules.{EarnsHome, Leaf}
use Rattle.near_tree.specs.Sections.{after, LeafLabel}
use Rattle.near_tree.specs.Steps.{IsLeafHomeStep, leaf_at, leaf_start}
use Rattle.near_tree.specs.Judging.{TellsHome}
use Rattle.near_tree.specs.Targets.{covers_at, IsStateCovered, state_at}
use Rattle.near_tree.specs.declared.coverage.Target.{Target}
use Rattle.near_tree.specs.declared.proof.SectionLabel.{SectionLabel}
use Rattle.near_tree.proofs.LabelSteps.{at_low, covered_as}

pub stays : (g : Network) (f : Leaf) (l : LeafLabel) → l.label.node ≡ 0 → EarnsHome g f l → ⊥
stays g f l at earns = earns.2.step.moves (sym at)

pub may_not_end : (g : Network) (f : Leaf) (l : LeafLabel) → (MayFollow f.branch l.last 0 → ⊥) → EarnsHome g f l → ⊥
may_not_end g f l never earns = never earns.2.next

module _ (g : Network) (f : Leaf) (l : SectionLabel) where
  module _ (w : List (ℕ × ℕ)) (t : ℕ) (arrival : IsArrival (energy g l.node 0) (drive_time g l.node 0) (scaled_limit g) (max g.reserve g.home_level) (level_times l.value) (level_times w))
      (valid : IsValue (level_times w)) (is : t ≡ value_time (level_times w) (level_times w).first) where
    earning : 0 < node_count g → 0 ≢ l.node → MayFollow f.branch (last_of l.last) 0 → pos (f.section.weight * t) <ℤ l.earned → EarnsHome g f (leaf_label l)
    earning known moves next less =
        let e = energy g l.node 0 in
        let a = (level_times w).first in
        let level : IsLevel (level_times w) (level_times w).first = (omega arith, omega (arith, valid.some)) in
        let at = (arrival.left a).0 level in
        let time = arrival.later a level in
        let step : IsLeafHomeStep g f.branch (leaf_at (leaf_label l) (a + e)) = record {
          step = record { known = known; moves = moves; reaches = omega (arith, at.1) };
          next = next;
          home = omega (arith, at.1);
          in_time = omega (arith, at.2);
        } in
        let same : t ≡ time_at g (leaf_at (leaf_label l) (a + e)).state 0 = is ∙ omega (arith, time) in
        (a + e, at.0, step, subst (λ k. pos (f.section.weight * k) <ℤ l.earned) same less)

    not_earning : (pos (f.section.weight * t) <ℤ l.earned → ⊥) → EarnsHome g f (leaf_label l) → ⊥
    not_earning free earns =
        let e = energy g l.node 0 in
        let v = level_times l.value in
        let y = earns.0 in
        let step = earns.2 in
        let back : y - e + e ≡ y = omega (arith, step.step.reaches) in
        let there : IsLevel v (y - e + e) × (value_time v (y - e + e) + (drive_time g l.node 0) ≤ scaled_limit g) = rw back (earns.1, omega (arith, step.in_time)) in
        let level = (arrival.left (y - e)).1 (there.0, omega (arith, step.step.reaches, step.home), there.1) in
        let time : value_time (level_times w) (y - e) ≡ value_time v y + (drive_time g l.node 0) = arrival.later (y - e) level ∙ ap (λ k. value_time v k + (drive_time g l.node 0)) back in
        let rises = valid.rising ((level_times w).first - (level_times w).first) (y - e - (level_times w).first) 0 (omega arith) (omega (arith, level.0, level.1)) in
        let late : t ≤ time_at g (leaf_at (leaf_label l) y).state 0 = omega (arith, is, rises, time) in
        let scaled : f.section.weight * t ≤ f.section.weight * time_at g (leaf_at (leaf_label l) y).state 0 = mul-le-mul_left f.section.weight late in
        free (let more = earns.3 in omega (arith, ints, scaled, more))

    pub home_told : (earns : Bool) → 0 < node_count g → 0 ≢ l.node → MayFollow f.branch (last_of l.last) 0 → (IsTrue earns ↔ (pos (f.section.weight * t) <ℤ l.earned)) → TellsHome g f (leaf_label l) earns
    home_told true known moves next tells = earning known moves next (tells.0 refl)
    home_told false known moves next tells = not_earning (λ less. false≢true (tells.1 less))

  -- where there is no step home
  pub nothing_home : NoArrival (energy g l.node 0) (drive_time g l.node 0) (scaled_limit g) (max g.reserve g.home_level) (level_times l.value) → EarnsHome g f (leaf_label l) → ⊥
  nothing_home none earns =
      let past = none earns.0 earns.1 (omega (arith, earns.2.step.reaches, earns.2.home)) in
      omega (arith, past, earns.2.in_time)

point_level : (full y : ℕ) → IsLevel (level_times ((full, 0) ∷ [])) y → y ≡ full
point_level full y level = let inside = level_is ((full, 0) ∷ []) y tt level in omega (arith, inside)

point_time : (full y : ℕ) → IsLevel (level_times ((full, 0) ∷ [])) y → value_time (level_times ((full, 0) ∷ [])) y ≡ 0
point_time full y level = time_at-level_times ((full, 0) ∷ []) y tt level

-- the target of the start
pub record IsStartTarget (t : Target) : Type 0 where
  pub node : t.node ≡ 0
  pub last : t.last ≡ 0
  pub memory : t.memory ≡ []
  pub earned : t.earned ≡ pos 0

module _ (g : Network) (f : Leaf) (t : Target) (full : ℕ) (value : List (ℕ × ℕ)) (is : IsStartTarget t) (same : full ≡ g.capacity) (point : value ≡ (full, 0) ∷ []) where
  last : last_at (customer_count g) t.last ≡ after 0
  last = ap (last_at (customer_count g)) is.last ∙ at_low (customer_count g) 0 _ (λ past. ltb-true (customer_count g) 0 past) (omega arith)

  pub start_covered : IsCoveredAll (covers_at g f t) (level_times value) → IsStateCovered g f (leaf_start g)
  start_covered all =
      let here : IsCoveredAll (covers_at g f t) (level_times ((full, 0) ∷ [])) = subst (λ v. IsCoveredAll (covers_at g f t) (level_times v)) point all in
      let level = is_level ((full, 0) ∷ []) full tt (omega arith) (omega arith) in
      let time = value_time (level_times ((full, 0) ∷ [])) full in
      covered_as g f (state_at (customer_count g) t full time) (leaf_start g) last refl is.node (rw (is.memory) (λ c h. h)) (omega (arith, same)) (omega (arith, point_time full full level)) is.earned (here full level)

  pub start_missed : IsMissed (covers_at g f t) (level_times value) → IsStateCovered g f (leaf_start g) → ⊥
  start_missed missed covered =
      let here : IsMissed (covers_at g f t) (level_times ((full, 0) ∷ [])) = subst (λ v. IsMissed (covers_at g f t) (level_times v)) point missed in
      let y = here.0 in
      let at = point_level full y here.1 in
      let time = value_time (level_times ((full, 0) ∷ [])) y in
      here.2 (covered_as g f (leaf_start g) (state_at (customer_count g) t y time) (sym last) refl (sym is.node) (λ c h. absurd (grind (arith, h))) (omega (arith, same, at)) (omega arith) (sym is.earned) covered)
