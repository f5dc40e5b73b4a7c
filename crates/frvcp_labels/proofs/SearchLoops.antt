-- The search goes on until no label waits.
use Rattle.std.proofs.Common.{◌≡◌, ℕ, ◌+◌, ◌-◌, ◌<◌, ◌≤◌, inl, inr, List, [], ◌∷◌, length, set, refl, sym, ◌∙◌, ap, subst, arith, Option, None, Some, true}
use Rattle.std.specs.Prelude.{IfSome, slice_get}
use Rattle.std.proofs.lemmas.Bool.{cases_Bool, cases_eq}
use Rattle.std.proofs.lemmas.List.{drop_all}
use Rattle.ev_model.specs.Network.{Network, scaled_limit}
use Rattle.ev_model.specs.declared.Stop.{Stop}
use Rattle.dominance.specs.LevelTimes.{IsLevel}
use Rattle.piece_fn.specs.PieceFn.{level_times}
use Rattle.label_pool.specs.Labels.{IsNext, Labels, NoneWaits, is_waiting}
use Rattle.label_pool.specs.declared.label.Label.{Label}
use Rattle.route_steps.specs.Homes.{IsPlanWithin}
use Rattle.route_steps.specs.Steps.{Holds, leaving_of}
use Rattle.route_steps.specs.Trips.{IsTrip, Journey}
use Rattle.route_steps.specs.Ways.{IsRest, Leaving, MayStop, begin, leaving_after}
use Rattle.route_steps.specs.declared.state.State.{State}
use Rattle.route_steps.proofs.Rests.{rest_before}
use Rattle.frvcp_labels.specs.Answers.{IsTaken}
use Rattle.frvcp_labels.specs.Listing.{HoldAll, HoldReached, StandForLabels}
use Rattle.frvcp_labels.specs.Search.{AreSound, HasPlans, IsGrown, IsSpread, IsSpreadOnWay, Spreads}
use Rattle.frvcp_labels.proofs.SearchTurns.{now_cases, now_reached, settled_now}
use Rattle.frvcp_labels.proofs.WaysBack.{last_is_depot}
use Rattle.frvcp_labels.proofs.TakenLabels.{labels_are, here_now}

pub on_way_only : (t : Journey) (labels : List (Label State)) (first : Leaving) → IsSpread t labels None first → IsSpreadOnWay t labels first
on_way_only t labels first is = record { spreads = λ i label here settled on_way. is.spreads i label here settled; begun = is.begun }

-- a label was settled, and what it leads to was added where it is on its way
pub turn_on_way : (t : Journey) (old : List (Label State)) (i : ℕ) (label : Label State) (here : slice_get old i ≡ Some label) (waits : is_waiting label ≡ true) (first : Leaving) (now : List (Label State))
    → IsSpreadOnWay t old first → IsGrown (settled_now t old i label here waits) now → (label.value.passed < length t.route - 1 → Spreads t now None label.value) → IsSpreadOnWay t now first
turn_on_way t old i label here waits first now is grown spreads = record {
  spreads = λ j x at settled on_way.
      let was = grown.were j x at settled in
      elim (now_cases t old i label here waits j was.0 was.1) [
        | inl this ↦
            let value : label.value ≡ x.value = ap (λ (l : Label State). l.value) (sym this.1) ∙ was.3 in
            subst (λ (s : State). Spreads t now None s) value (spreads (subst (λ (s : State). s.passed < length t.route - 1) (sym value) on_way))
        | inr other ↦
            λ v stop holds may. elim (is.spreads j was.0 other was.2 (subst (λ (s : State). s.passed < length t.route - 1) (sym was.3) on_way) v stop (subst (λ (s : State). Holds s v) (sym was.3) holds) may) [
              | inl reached ↦ inl (grown.keeps (leaving_after t.network v stop) (now_reached t old i label here waits (leaving_after t.network v stop) reached))
              | inr late ↦ absurd late
            ]
      ];
  begun = grown.keeps first (now_reached t old i label here waits first is.begun);
}

module _ (t : Journey) (old now : Labels State) (i : ℕ) (taken : IsTaken old now i) where
  pub taken_turn_on_way : (later : Labels State) → IsSpreadOnWay t old.labels (begin t.start) → IsGrown now.labels later.labels
      → ((label : Label State) → slice_get now.labels i ≡ Some label → label.value.passed < length t.route - 1 → Spreads t later.labels None label.value) → IsSpreadOnWay t later.labels (begin t.start)
  taken_turn_on_way later spread grown spreads =
      turn_on_way t old.labels i taken.label taken.next.here taken.next.waits (begin t.start) later.labels spread
      (subst (λ (ls : List (Label State)). IsGrown ls later.labels) (labels_are t old now i taken) grown)
      (spreads (record taken.label { settled = true }) (here_now t old now i taken))

-- what the pool's next label is
pub next_taken : (old now : Labels State) (o : Option ℕ) (i : ℕ) → o ≡ Some i → IfSome o (λ n. (label : Label State) × IsNext old.labels n label × (now ≡ record old { labels = set old.labels n (record label { settled = true }) })) → IsTaken old now i
next_taken old now o i is told =
    let found = subst (λ (x : Option ℕ). IfSome x (λ n. (label : Label State) × IsNext old.labels n label × (now ≡ record old { labels = set old.labels n (record label { settled = true }) }))) is told in
    record { label = found.0; next = found.1; is = found.2 }

-- short of the end there is a next node
pub before_end : (t : Journey) (labels : List (Label State)) (i end : ℕ) (state : State) → IsTrip t.network t.route → AreSound t labels → end ≡ length t.route - 1 → (state.passed ≡ end → ⊥) → ((label : Label State) → slice_get labels i ≡ Some label → state ≡ label.value)
    → (label : Label State) → slice_get labels i ≡ Some label → label.value.passed + 1 < length t.route
before_end t labels i end state trip sound is other told label here =
    let inside : label.value.passed < length t.route = (sound i label here).state.passed in
    let same : state.passed ≡ label.value.passed = ap (λ (s : State). s.passed) (told label here) in
    elim (cases_eq label.value.passed (length t.route - 1)) [
      | inl at ↦ absurd (other (same ∙ at ∙ sym is))
      | inr short ↦ omega (arith, inside, short)
    ]

-- a live label is settled where none waits
settled_all : (labels : List (Label State)) (i : ℕ) (label : Label State) → NoneWaits labels → slice_get labels i ≡ Some label → label.live ≡ true → label.settled ≡ true
settled_all labels i label none here live = elim (cases_Bool label.settled) [
  | inl is ↦ is
  | inr waits ↦ absurd (none i label here (rw (live, waits) refl))
]

-- no stop is left at the end of the route
last_rest : (g : Network) (route : List ℕ) (v : Leaving) → v.passed ≡ length route - 1 → 2 ≤ length route → g.home_level ≤ v.level → v.time ≤ scaled_limit g → IsRest g route v []
last_rest g route v home two high in_time = record {
  moves = record {};
  ends = λ some. absurd (some refl);
  battery = record {};
  home = high;
  follows = sym (drop_all (v.passed + 1) route (omega arith));
  within = omega arith;
  in_time = omega arith;
}

-- with a stop home ends a way
home_plan : (t : Journey) (s : State) (level : ℕ) (stop : Stop) → IsTrip t.network t.route → HasPlans t s → IsLevel (level_times s.value) level → MayStop t.network t.route (leaving_of s level) stop
    → (leaving_after t.network (leaving_of s level) stop).passed ≡ length t.route - 1 → (plan : List Stop) × IsPlanWithin t (leaving_after t.network (leaving_of s level) stop).time plan
home_plan t s level stop trip plans is may home = plans level (leaving_after t.network (leaving_of s level) stop).time (stop ∷ []) is
    (rest_before t.network t.route (leaving_of s level) stop [] (last_is_depot t trip) may (last_rest t.network t.route (leaving_after t.network (leaving_of s level) stop) home trip.two (may.home home).1 may.in_time)) (omega arith)

pub all_held : (t : Journey) (labels : List (Label State)) (states : List State) → IsTrip t.network t.route → AreSound t labels → IsSpreadOnWay t labels (begin t.start) → NoneWaits labels → HoldReached t labels states → StandForLabels labels states → HoldAll t states
all_held t labels states trip sound spread none held stand = record {
  begun = (let two = trip.two in held (begin t.start) spread.begun (omega (arith, two)));
  next = λ s v stop in_states holds may on_way.
      let by = stand s in_states in
      let settled = settled_all labels by.0 by.1 none by.2 by.3 in
      let before = may.on_way in
      let short : by.1.value.passed < length t.route - 1 = subst (λ (x : State). x.passed < length t.route - 1) (sym by.4) (omega (arith, holds.passed, before)) in
      elim (spread.spreads by.0 by.1 by.2 settled short v stop (subst (λ (x : State). Holds x v) (sym by.4) holds) may) [
        | inl reached ↦ held (leaving_after t.network v stop) reached on_way
        | inr late ↦ absurd late
      ];
  home = λ s level stop in_states is may home.
      let by = stand s in_states in
      home_plan t s level stop trip (subst (λ (x : State). HasPlans t x) by.4 (sound by.0 by.1 by.2).plans) is may home;
}
