-- A plan in kths and the whole plans that it rounds to have the same stops, and the battery is kept.
use Rattle.std.proofs.Common.{◌≡◌, ◌∙◌, ℕ, ◌+◌, ◌-◌, ◌*◌, ◌<◌, ◌≤◌, arith, refl, ap, subst, List, [], ◌∷◌, false, map, inl, inr}
use Rattle.std.proofs.lemmas.Bool.{cases_Bool}
use Rattle.ev_model.specs.Levels.{arriving_level, KeepsBattery, KeepsBatteryFrom, leaving_level, level_after, levels_from, levels_of}
use Rattle.ev_model.specs.Network.{Network, energy}
use Rattle.ev_model.specs.Plan.{AreStopsFrom, EndsAtDepot, IsEnd, IsPlanIn}
use Rattle.ev_model.specs.Route.{route_of}
use Rattle.ev_model.specs.declared.Stop.{Stop}
use Rattle.rounding_law.specs.Rounding.{IsRounded, rounded_from, rounded_plan, rounded_stop, whole_level}
use Rattle.rounding_law.proofs.Floors.{whole_level-rises, whole_level-whole}
use Rattle.rounding_law.proofs.Times.{adds_some, arrives_rounded, leaving_is_rounded}

same_nodes : (g : Network) (k j from level : ℕ) (stops : List Stop) → map (λ s. s.node) (rounded_from g k j from level stops) ≡ map (λ s. s.node) stops
same_nodes g k j from level [] = refl
same_nodes g k j from level (s ∷ ss) = ap (λ ns. s.node ∷ ns) (same_nodes g k j s.node (leaving_level g k from level s) ss)

same_marks : (g : Network) (k j from level : ℕ) (stops : List Stop) → map (λ s. s.via) (rounded_from g k j from level stops) ≡ map (λ s. s.via) stops
same_marks g k j from level [] = refl
same_marks g k j from level (s ∷ ss) = ap (λ ms. s.via ∷ ms) (same_marks g k j s.node (leaving_level g k from level s) ss)

same_route : (g : Network) (k j from level : ℕ) (stops : List Stop) → route_of (rounded_from g k j from level stops) ≡ route_of stops
same_route g k j from level [] = refl
same_route g k j from level (s ∷ ss) =
    let rest = same_route g k j s.node (leaving_level g k from level s) ss in
    elim (cases_Bool s.via) [
      | inl via ↦ rw via rest
      | inr own ↦ rw own (ap (λ xs. s.node ∷ xs) rest)
    ]

route_more : (s : Stop) (xs ys : List Stop) → route_of xs ≡ route_of ys → route_of (s ∷ xs) ≡ route_of (s ∷ ys)
route_more s xs ys same = elim (cases_Bool s.via) [
  | inl via ↦ rw via same
  | inr own ↦ rw own (ap (λ zs. s.node ∷ zs) same)
]

pub same_plan_route : (g : Network) (k j start : ℕ) (stops : List Stop) → route_of (rounded_plan g k j start stops) ≡ route_of stops
same_plan_route g k j start [] = refl
same_plan_route g k j start (first ∷ stops) =
    route_more first (rounded_from g k j first.node (k * start) stops) stops (same_route g k j first.node (k * start) stops)

same_stops : (g : Network) (k j from level : ℕ) (stops : List Stop) → AreStopsFrom g from stops → AreStopsFrom g from (rounded_from g k j from level stops)
same_stops g k j from level [] are = tt
same_stops g k j from level (s ∷ ss) are = (
  are.0,
  record {
    known = are.1.known;
    station = λ why. elim why [
      | inl via ↦ are.1.station (inl via)
      | inr more ↦ are.1.station (inr (adds_some k j (arriving_level g k from level s) s.added more))
    ];
  },
  same_stops g k j s.node (leaving_level g k from level s) ss are.2,
)

adds_nothing : (k j x a : ℕ) → a ≡ 0 → whole_level k j (x + a) - whole_level k j x ≡ 0
adds_nothing k j x a none =
    let same : x + a ≡ x = omega (arith, none) in
    ap (λ y. whole_level k j y - whole_level k j x) same ∙ omega arith

end_stays : (g : Network) (k j from level : ℕ) (s : Stop) → IsEnd s → IsEnd (rounded_stop g k j from level s)
end_stays g k j from level s end =
    let node : s.node ≡ 0 = ap (λ (t : Stop). t.node) end in
    let own : s.via ≡ false = ap (λ (t : Stop). t.via) end in
    let none = adds_nothing k j (arriving_level g k from level s) s.added (ap (λ (t : Stop). t.added) end) in
    rw (none, node, own) refl

same_end : (g : Network) (k j from level : ℕ) (stops : List Stop) → EndsAtDepot stops → EndsAtDepot (rounded_from g k j from level stops)
same_end g k j from level [] ends = absurd ends
same_end g k j from level (s ∷ []) ends = end_stays g k j from level s ends
same_end g k j from level (s ∷ t ∷ ss) ends = same_end g k j s.node (leaving_level g k from level s) (t ∷ ss) ends

capped : (k j full x : ℕ) → 0 < k → j < k → x ≤ k * full → whole_level k j x ≤ full
capped k j full x some lt le =
    omega (arith, whole_level-whole k j full some lt, whole_level-rises k j x (k * full) some le)

-- a whole level below a level stays below it
floored : (k j least x : ℕ) → 0 < k → j < k → k * least ≤ x → least ≤ whole_level k j x
floored k j least x some lt le =
    omega (arith, whole_level-whole k j least some lt, whole_level-rises k j (k * least) x some le)

battery_stays : (g : Network) (k j from level : ℕ) (stops : List Stop) → 0 < k → j < k → KeepsBatteryFrom g k from level stops →
    KeepsBatteryFrom g 1 from (whole_level k j level) (rounded_from g k j from level stops)
battery_stays g k j from level [] some lt kept = tt
battery_stays g k j from level (s ∷ ss) some lt kept =
    let enough : k * energy g from s.node ≤ level = omega (arith, kept.0) in
    let after = leaving_level g k from level s in
    let arrives = arrives_rounded g k j from level s some enough in
    let leaves = leaving_is_rounded g k j from level s some enough in
    let top = capped k j g.capacity after some lt kept.1 in
    let bottom = floored k j g.reserve (arriving_level g k from level s) some lt (omega (arith, kept.0)) in
    (omega (arith, arrives, bottom), omega (arith, leaves, top), rw leaves (battery_stays g k j s.node after ss some lt kept.2))

-- the level after the last stop rounds to the level after it
level_after_rounded : (g : Network) (k j from level : ℕ) (stops : List Stop) → 0 < k → KeepsBatteryFrom g k from level stops →
    level_after g 1 from (whole_level k j level) (rounded_from g k j from level stops) ≡ whole_level k j (level_after g k from level stops)
level_after_rounded g k j from level [] some kept = refl
level_after_rounded g k j from level (s ∷ ss) some kept =
    let leaves = leaving_is_rounded g k j from level s some (omega (arith, kept.0)) in
    rw (level_after, leaves) (level_after_rounded g k j s.node (leaving_level g k from level s) ss some kept.2)

rounded_levels : (g : Network) (k j from level : ℕ) (stops : List Stop) → 0 < k → KeepsBatteryFrom g k from level stops →
    levels_from g 1 from (whole_level k j level) (rounded_from g k j from level stops) ≡ map (λ z. whole_level k j z) (levels_from g k from level stops)
rounded_levels g k j from level [] some kept = refl
rounded_levels g k j from level (s ∷ ss) some kept =
    let after = leaving_level g k from level s in
    let leaves = leaving_is_rounded g k j from level s some (omega (arith, kept.0)) in
    rw leaves (ap (λ ls. whole_level k j after ∷ ls) (rounded_levels g k j s.node after ss some kept.2))

-- a whole level at the start stays
pub start_stays : (k j start : ℕ) → 0 < k → j < k → whole_level k j (k * start) ≡ 1 * start
start_stays k j start some lt = omega (arith, whole_level-whole k j start some lt)

pub rounded_is_rounded : (g : Network) (k j start : ℕ) (stops : List Stop) → 0 < k → j < k → KeepsBattery g k start stops → IsRounded g k j start stops (rounded_plan g k j start stops)
rounded_is_rounded g k j start [] some lt kept = record { nodes = refl; marks = refl; levels = refl }
rounded_is_rounded g k j start (first ∷ stops) some lt kept =
    let begins = start_stays k j start some lt in
    record {
      nodes = ap (λ ns. first.node ∷ ns) (same_nodes g k j first.node (k * start) stops);
      marks = ap (λ ms. first.via ∷ ms) (same_marks g k j first.node (k * start) stops);
      levels = subst (λ l. l ∷ levels_from g 1 first.node l (rounded_from g k j first.node (k * start) stops) ≡ map (λ z. whole_level k j z) (levels_of g k start (first ∷ stops))) begins
          (ap (λ ls. whole_level k j (k * start) ∷ ls) (rounded_levels g k j first.node (k * start) stops some kept.0));
    }

pub rounded_is_plan : (g : Network) (k j start : ℕ) (stops : List Stop) → IsPlanIn g k stops → IsPlanIn g 1 (rounded_plan g k j start stops)
rounded_is_plan g k j start [] plan = absurd plan
rounded_is_plan g k j start (first ∷ stops) plan =
    (omega arith, plan.1, same_end g k j first.node (k * start) stops plan.2, same_stops g k j first.node (k * start) stops plan.3)

pub rounded_keeps_battery : (g : Network) (k j start : ℕ) (stops : List Stop) → 0 < k → j < k → KeepsBattery g k start stops → KeepsBattery g 1 start (rounded_plan g k j start stops)
rounded_keeps_battery g k j start [] some lt kept = tt
rounded_keeps_battery g k j start (first ∷ stops) some lt kept =
    let whole = rounded_from g k j first.node (k * start) stops in
    let begins = start_stays k j start some lt in
    let at_home : level_after g 1 first.node (whole_level k j (k * start)) whole ≡ whole_level k j (level_after g k first.node (k * start) stops) =
    level_after_rounded g k j first.node (k * start) stops some kept.0 in
    let enough = floored k j g.home_level (level_after g k first.node (k * start) stops) some lt kept.1 in
    subst (λ l. KeepsBatteryFrom g 1 first.node l whole × (1 * g.home_level ≤ level_after g 1 first.node l whole)) begins
    (battery_stays g k j first.node (k * start) stops some lt kept.0, omega (arith, at_home, enough))
