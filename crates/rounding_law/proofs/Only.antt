-- Nodes, marks and rounded levels leave no choice of the amounts.
use Rattle.std.proofs.Common.{◌≡◌, ◌∙◌, ℕ, ◌-◌, ◌*◌, ◌<◌, Bool, arith, refl, sym, ap, subst, List, [], ◌∷◌, map}
use Rattle.ev_model.specs.Levels.{arriving_level, KeepsBattery, KeepsBatteryFrom, leaving_level, levels_from}
use Rattle.ev_model.specs.Network.{energy, Network}
use Rattle.ev_model.specs.Plan.{IsPlanIn}
use Rattle.ev_model.specs.declared.Stop.{Stop}
use Rattle.rounding_law.specs.Rounding.{IsRounded, rounded_from, rounded_plan, rounded_stop, whole_level}
use Rattle.rounding_law.proofs.Times.{arrives_rounded}
use Rattle.rounding_law.proofs.Shape.{start_stays}

same_stop : (w : Stop) (node added : ℕ) (via : Bool) → w.node ≡ node → w.added ≡ added → w.via ≡ via → w ≡ record { node = node; added = added; via = via }
same_stop w node added via same_node same_added same_via =
    ap (λ n. record { node = n; added = w.added; via = w.via }) same_node
    ∙ ap (λ a. record { node = node; added = a; via = w.via }) same_added
    ∙ ap (λ v. record { node = node; added = added; via = v }) same_via

only_from : (g : Network) (k j from level : ℕ) (stops whole : List Stop) → 0 < k → KeepsBatteryFrom g k from level stops →
    map (λ s. s.node) whole ≡ map (λ s. s.node) stops → map (λ s. s.via) whole ≡ map (λ s. s.via) stops →
    levels_from g 1 from (whole_level k j level) whole ≡ map (λ z. whole_level k j z) (levels_from g k from level stops) →
    whole ≡ rounded_from g k j from level stops
only_from g k j from level [] [] some kept nodes marks levels = refl
only_from g k j from level [] (w ∷ ws) some kept nodes marks levels = absurd (cc)
only_from g k j from level (s ∷ ss) [] some kept nodes marks levels = absurd (cc)
only_from g k j from level (s ∷ ss) (w ∷ ws) some kept nodes marks levels =
    let node : w.node ≡ s.node = cc in
    let mark : w.via ≡ s.via = cc in
    let more_nodes : map (λ s. s.node) ws ≡ map (λ s. s.node) ss = cc in
    let more_marks : map (λ s. s.via) ws ≡ map (λ s. s.via) ss = cc in
    let leaves : leaving_level g 1 from (whole_level k j level) w ≡ whole_level k j (leaving_level g k from level s) = cc in
    let later : levels_from g 1 w.node (leaving_level g 1 from (whole_level k j level) w) ws ≡ map (λ z. whole_level k j z) (levels_from g k s.node (leaving_level g k from level s) ss) = cc in
    let there : levels_from g 1 s.node (leaving_level g 1 from (whole_level k j level) w) ws ≡ map (λ z. whole_level k j z) (levels_from g k s.node (leaving_level g k from level s) ss) =
    subst (λ n. levels_from g 1 n (leaving_level g 1 from (whole_level k j level) w) ws ≡ map (λ z. whole_level k j z) (levels_from g k s.node (leaving_level g k from level s) ss)) node later in
    let more_levels : levels_from g 1 s.node (whole_level k j (leaving_level g k from level s)) ws ≡ map (λ z. whole_level k j z) (levels_from g k s.node (leaving_level g k from level s) ss) =
    subst (λ l. levels_from g 1 s.node l ws ≡ map (λ z. whole_level k j z) (levels_from g k s.node (leaving_level g k from level s) ss)) leaves there in
    let arrives = arrives_rounded g k j from level s some (omega (arith, kept.0)) in
    let needs : energy g from w.node ≡ energy g from s.node = ap (λ n. energy g from n) node in
    let amount : w.added ≡ whole_level k j (leaving_level g k from level s) - whole_level k j (arriving_level g k from level s) = omega (arith, leaves, arrives, needs) in
    let first : w ≡ rounded_stop g k j from level s = same_stop w s.node (whole_level k j (leaving_level g k from level s) - whole_level k j (arriving_level g k from level s)) s.via node amount mark in
    ap (λ (t : Stop). t ∷ ws) first
    ∙ ap (λ ts. rounded_stop g k j from level s ∷ ts) (only_from g k j s.node (leaving_level g k from level s) ss ws some kept.2 more_nodes more_marks more_levels)

-- a whole plan with the same stops and the rounded levels is the rounded plan
pub only_rounding : (g : Network) (k j start : ℕ) (stops whole : List Stop) → 0 < k → j < k → IsPlanIn g k stops → KeepsBattery g k start stops → IsPlanIn g 1 whole →
    IsRounded g k j start stops whole → whole ≡ rounded_plan g k j start stops
only_rounding g k j start [] whole some lt plan kept whole_plan is = absurd plan
only_rounding g k j start (first ∷ stops) [] some lt plan kept whole_plan is = absurd whole_plan
only_rounding g k j start (first ∷ stops) (w ∷ ws) some lt plan kept whole_plan is =
    let same : w ≡ first = whole_plan.1 ∙ sym plan.1 in
    let node : w.node ≡ first.node = ap (λ (s : Stop). s.node) same in
    let nodes = is.nodes in
    let marks = is.marks in
    let levels = is.levels in
    let more_nodes : map (λ s. s.node) ws ≡ map (λ s. s.node) stops = cc in
    let more_marks : map (λ s. s.via) ws ≡ map (λ s. s.via) stops = cc in
    let begins : 1 * start ≡ whole_level k j (k * start) = sym (start_stays k j start some lt) in
    let later : levels_from g 1 w.node (1 * start) ws ≡ map (λ z. whole_level k j z) (levels_from g k first.node (k * start) stops) = cc in
    let there : levels_from g 1 first.node (1 * start) ws ≡ map (λ z. whole_level k j z) (levels_from g k first.node (k * start) stops) =
    subst (λ n. levels_from g 1 n (1 * start) ws ≡ map (λ z. whole_level k j z) (levels_from g k first.node (k * start) stops)) node later in
    let more_levels : levels_from g 1 first.node (whole_level k j (k * start)) ws ≡ map (λ z. whole_level k j z) (levels_from g k first.node (k * start) stops) =
    subst (λ l. levels_from g 1 first.node l ws ≡ map (λ z. whole_level k j z) (levels_from g k first.node (k * start) stops)) begins there in
    ap (λ (t : Stop). t ∷ ws) same
    ∙ ap (λ ts. first ∷ ts) (only_from g k j first.node (k * start) stops ws some kept.0 more_nodes more_marks more_levels)
