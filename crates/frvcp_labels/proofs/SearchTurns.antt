-- One turn of the search, and its end.
use Rattle.std.proofs.Common.{◌≡◌, ℕ, zero, suc, ◌+◌, ◌-◌, ◌^◌, ◌<◌, ◌≤◌, ◌⊎◌, inl, inr, List, [], ◌∷◌, ◌++◌, length, set, refl, sym, ◌∙◌, ap, subst, arith, Option, Some, true, false}
use Rattle.std.specs.Prelude.{◌&&◌, Bool, not, nat_eq, nat_lt, slice_get, slice_index}
use Rattle.std.specs.Option.{IsSome, option_to_list}
use Rattle.std.proofs.lemmas.Option.{same_Some, none-some, slice_get_read}
use Rattle.std.proofs.lemmas.List.{length-append}
use Rattle.std.proofs.lemmas.Bool.{cases_Bool, cases_eq, false≢true, le-leb}
use Rattle.std.proofs.Math.Dec.{eqb-suc-zero}
use Rattle.ev_model.specs.Network.{curve_at, node_count, scaled_limit}
use Rattle.ev_model.specs.Time.{time_from}
use Rattle.ev_model.specs.declared.Stop.{Stop}
use Rattle.dominance.specs.LevelTimes.{IsLevel, time_at}
use Rattle.piece_fn.specs.PieceFn.{level_times}
use Rattle.label_pool.specs.Labels.{IsNext, NoneWaits, is_waiting}
use Rattle.label_pool.specs.declared.label.Label.{Label}
use Rattle.label_pool.proofs.Elements.{appended_before, appended_here, element_at, set_here, set_there}
use Rattle.route_steps.specs.Homes.{IsBelowHomes}
use Rattle.frvcp_labels.specs.Charged.{OnlyAdds}
use Rattle.frvcp_labels.specs.Search.{AreReached, AreSound, HasOrigin, IsGrown, IsLate, IsSound, IsSpread, Reached, Spreads, SpreadsInTimeTo, SpreadsTo, SpreadsToStations, settled_count}
use Rattle.route_steps.specs.Steps.{AreSteps, CoverStops, Holds, IsSoundState, IsSoundStep, IsStep, MayGo, state_at}
use Rattle.route_steps.specs.Stations.{stations}
use Rattle.route_steps.specs.Trips.{IsTrip, Journey}
use Rattle.route_steps.specs.Ways.{IsRest, Leaving, begin, leaving_after, passed_after}
use Rattle.route_steps.specs.declared.state.State.{State}
use Rattle.frvcp_labels.proofs.MoreLabels.{sound_stays}
use Rattle.route_steps.proofs.Rests.{way_home}
use Rattle.frvcp_labels.proofs.Points.{has_start, start_level, start_time}
use Rattle.route_steps.proofs.StationList.{station-curve, station-known, station-number}

is_later : (n : ℕ) → not (nat_eq n 0) ≡ nat_lt 0 n
is_later zero = refl
is_later (suc n) = ap not (eqb-suc-zero n) ∙ sym (le-leb 1 (suc n) (omega arith))

-- the state of a value that was taken from behind the others
abbrev pub taken_state : ℕ → ℕ → Bool → List (ℕ × ℕ) → State
taken_state passed to charged value = record { passed = passed; node = to; charged = charged; value = value }

module _ (t : Journey) (passed to : ℕ) (all values left : List (List (ℕ × ℕ))) (value : List (ℕ × ℕ)) (o : Option (List (ℕ × ℕ))) (empty : Bool)
    (same : (k : ℕ) (w : List (ℕ × ℕ)) → slice_get values k ≡ Some w → slice_get all k ≡ Some w) (is : o ≡ Some value) (items : values ≡ left ++ option_to_list o) (told : empty ≡ nat_eq (length left) 0) where
  parts : values ≡ left ++ value ∷ []
  parts = items ∙ ap (λ x. left ++ option_to_list x) is

  taken_here : slice_get all (length left) ≡ Some value
  taken_here = same (length left) value (ap (λ xs. slice_get xs (length left)) parts ∙ appended_here left value)

  state_is : taken_state passed to (not empty) value ≡ state_at passed to (length left) value
  state_is = ap (λ b. taken_state passed to b value) (ap not told ∙ is_later (length left))

  pub taken_step : (from : State) → AreSteps t.network t.route from passed to all → IsSoundStep t.network t.route from (taken_state passed to (not empty) value)
  taken_step from steps = subst (λ (s : State). IsSoundStep t.network t.route from s) (sym state_is) (steps (length left) value taken_here)

  pub left_same : (k : ℕ) (w : List (ℕ × ℕ)) → slice_get left k ≡ Some w → slice_get all k ≡ Some w
  left_same k w here = same k w (ap (λ xs. slice_get xs k) parts ∙ appended_before left (value ∷ []) k w here)

  pub left_reached : (before now : List (Label State)) → IsGrown before now → ((k : ℕ) (w : List (ℕ × ℕ)) → length values ≤ k → slice_get all k ≡ Some w → (v : Leaving) → Holds (state_at passed to k w) v → Reached before v)
      → ((v : Leaving) → Holds (taken_state passed to (not empty) value) v → Reached now v)
      → (k : ℕ) (w : List (ℕ × ℕ)) → length left ≤ k → slice_get all k ≡ Some w → (v : Leaving) → Holds (state_at passed to k w) v → Reached now v
  left_reached before now grown reached own k w from here v holds = elim (cases_eq (length left) k) [
    | inl this ↦
        let value_is : value ≡ w = same_Some value w (sym taken_here ∙ ap (λ i. slice_get all i) this ∙ here) in
        let state : state_at passed to k w ≡ taken_state passed to (not empty) value =
        ap (λ i. state_at passed to i w) (sym this) ∙ ap (λ x. state_at passed to (length left) x) (sym value_is) ∙ sym state_is in
        own v (subst (λ (s : State). Holds s v) state holds)
    | inr other ↦
        let count : length values ≡ length left + 1 = ap length parts ∙ length-append left (value ∷ []) in
        grown.keeps v (reached k w (omega (arith, from, other, count)) here v holds)
  ]

  -- a vehicle that is reached was before, or one of the values holds it
  pub left_only : (first before now : List (Label State)) → ((v : Leaving) → Reached before v → Reached first v ⊎ ((k : ℕ) × (w : List (ℕ × ℕ)) × (slice_get all k ≡ Some w) × Holds (state_at passed to k w) v))
      → OnlyAdds before now (taken_state passed to (not empty) value) → (v : Leaving) → Reached now v → Reached first v ⊎ ((k : ℕ) × (w : List (ℕ × ℕ)) × (slice_get all k ≡ Some w) × Holds (state_at passed to k w) v)
  left_only first before now were only v r = elim (only v r) [
    | inl was ↦ were v was
    | inr own ↦ inr (length left, value, taken_here, subst (λ (s : State). Holds s v) state_is own)
  ]

-- the label that a step leaves, in labels that have grown
pub origin_of : (t : Journey) (first now : List (Label State)) (i : ℕ) (s : State) → i < length first → IsGrown first now → ((label : Label State) → slice_get first i ≡ Some label → IsSoundStep t.network t.route label.value s) → HasOrigin t now (Some i) s
origin_of t first now i s inside grown steps =
    let label = element_at first i inside in
    let there = grown.stays i label.0 label.1 in
    (there.0, there.1, subst (λ (x : State). IsStep t.network t.route x s) (sym there.2) (steps label.0 label.1).step)

-- what the values cover spreads
pub covers_spread : (t : Journey) (labels : List (Label State)) (from : State) (passed to : ℕ) (values : List (List (ℕ × ℕ))) → CoverStops t.network t.route from passed to values → AreReached labels passed to values → SpreadsTo t labels from passed to
covers_spread t labels from passed to values covers reached v stop holds may node after =
    let some = covers v stop holds may node after in
    reached some.0 some.1 (slice_get_read values (length values) some.0 some.1 refl some.2 (sym some.3)) (leaving_after t.network v stop) (record { passed = sym after; node = sym node; reaches = some.4 })

-- no stop is made where the vehicle is
pub stays_there : (t : Journey) (labels : List (Label State)) (from : State) (passed to : ℕ) → from.node ≡ to → SpreadsTo t labels from passed to
stays_there t labels from passed to here v stop holds may node after = absurd (may.other (node ∙ sym here ∙ holds.node))

pub spreads_stays : (t : Journey) (old now : List (Label State)) (s : State) (passed to : ℕ) → IsGrown old now → SpreadsTo t old s passed to → SpreadsTo t now s passed to
spreads_stays t old now s passed to grown spreads v stop holds may node after = grown.keeps (leaving_after t.network v stop) (spreads v stop holds may node after)

pub in_time_stays : (t : Journey) (old now : List (Label State)) (bar : Option ℕ) (s : State) (passed to : ℕ) → IsGrown old now → SpreadsInTimeTo t old bar s passed to → SpreadsInTimeTo t now bar s passed to
in_time_stays t old now bar s passed to grown is = elim is [
  | inl spreads ↦ inl (spreads_stays t old now s passed to grown spreads)
  | inr late ↦ inr late
]

-- the next node of the route and each station: that is each stop
pub spreads_all : (t : Journey) (labels : List (Label State)) (bar : Option ℕ) (s : State) → SpreadsTo t labels s (s.passed + 1) (slice_index t.route (s.passed + 1)) → SpreadsToStations t labels bar s → Spreads t labels bar s
spreads_all t labels bar s next each v stop holds may = elim (cases_Bool stop.via) [
  | inl via ↦
      let found = station-number t.network stop.node may.stop.known (may.stop.station (inl via)) in
      let same : passed_after v.passed stop ≡ s.passed = rw via (sym holds.passed) in
      elim (each found.0 found.1) [
        | inl spreads ↦ inl (spreads v stop holds may (sym found.2) same)
        | inr late ↦ inr (late v stop holds may (sym found.2) same)
      ]
  | inr own ↦
      let node : slice_index t.route (s.passed + 1) ≡ stop.node = ap (λ i. slice_index t.route (i + 1)) holds.passed ∙ may.next own in
      let more : passed_after v.passed stop ≡ s.passed + 1 = rw own (ap (λ i. i + 1) (sym holds.passed)) in
      inl (next v stop holds may (sym node) more)
]

-- labels once one was settled
count_set : (xs : List (Label State)) (i : ℕ) (label : Label State) → slice_get xs i ≡ Some label → label.settled ≡ false → settled_count (set xs i (record label { settled = true })) ≡ settled_count xs + 1
count_set [] i label here unset = absurd (none-some label here)
count_set (x ∷ xs) zero label here unset =
    let same : x.settled ≡ false = ap (λ (l : Label State). l.settled) (same_Some x label here) ∙ unset in
    rw same (omega arith)
count_set (x ∷ xs) (suc i) label here unset = let rest = count_set xs i label here unset in rw rest (omega arith)

pub count_most : (xs : List (Label State)) → settled_count xs ≤ length xs
count_most [] = omega arith
count_most (x ∷ xs) = let rest = count_most xs in elim (cases_Bool x.settled) [ inl is_settled ↦ rw is_settled (omega (arith, rest)) | inr waits ↦ rw waits (omega (arith, rest)) ]

waits_open : (live settled : Bool) → (live && not settled) ≡ true → (live ≡ true) × (settled ≡ false)
waits_open true false waits = (refl, refl)
waits_open true true waits = absurd (false≢true waits)
waits_open false true waits = absurd (false≢true waits)
waits_open false false waits = absurd (false≢true waits)

module _ (t : Journey) (old : List (Label State)) (i : ℕ) (label : Label State) (here : slice_get old i ≡ Some label) (waits : is_waiting label ≡ true) where
  abbrev pub settled_now : List (Label State)
  settled_now = set old i (record label { settled = true })

  pub now_stays : (j : ℕ) (x : Label State) → slice_get old j ≡ Some x → (other : Label State) × (slice_get settled_now j ≡ Some other) × (other.value ≡ x.value)
  now_stays j x at = elim (cases_eq j i) [
    | inl this ↦
        let same : label ≡ x = same_Some label x (sym here ∙ ap (λ n. slice_get old n) (sym this) ∙ at) in
        (record label { settled = true }, ap (λ n. slice_get settled_now n) this ∙ set_here old i (record label { settled = true }) label here, ap (λ (l : Label State). l.value) same)
    | inr other ↦ (x, set_there old i j (record label { settled = true }) other ∙ at, refl)
  ]

  pub now_cases : (j : ℕ) (x : Label State) → slice_get settled_now j ≡ Some x → ((j ≡ i) × (x ≡ record label { settled = true })) ⊎ (slice_get old j ≡ Some x)
  now_cases j x at = elim (cases_eq j i) [
    | inl this ↦ inl (this, sym (same_Some (record label { settled = true }) x (sym (set_here old i (record label { settled = true }) label here) ∙ ap (λ n. slice_get settled_now n) (sym this) ∙ at)))
    | inr other ↦ inr (sym (set_there old i j (record label { settled = true }) other) ∙ at)
  ]

  now_is_sound : IsSound t old label → IsSound t old (record label { settled = true })
  now_is_sound is = record { state = is.state; bucket = is.bucket; first = is.first; least = is.least; below = is.below; home = is.home; origin = is.origin; plans = is.plans }

  pub now_sound : AreSound t old → AreSound t settled_now
  now_sound sound j x at = elim (now_cases j x at) [
    | inl this ↦ subst (λ (l : Label State). IsSound t settled_now l) (sym this.1) (sound_stays t old settled_now (record label { settled = true }) now_stays (now_is_sound (sound i label here)))
    | inr other ↦ sound_stays t old settled_now x now_stays (sound j x other)
  ]

  pub now_reached : (v : Leaving) → Reached old v → Reached settled_now v
  now_reached v r = elim (cases_eq r.by i) [
    | inl this ↦
        let same : r.label ≡ label = same_Some r.label label (sym r.here ∙ ap (λ n. slice_get old n) this ∙ here) in
        record {
          by = i;
          label = record label { settled = true };
          here = set_here old i (record label { settled = true }) label here;
          live = ap (λ (l : Label State). l.live) (sym same) ∙ r.live;
          holds = subst (λ (l : Label State). Holds l.value v) same r.holds;
        }
    | inr other ↦ record { by = r.by; label = r.label; here = set_there old i r.by (record label { settled = true }) other ∙ r.here; live = r.live; holds = r.holds }
  ]

  pub was_reached : (v : Leaving) → Reached settled_now v → Reached old v
  was_reached v r = elim (now_cases r.by r.label r.here) [
    | inl this ↦
        record {
          by = i;
          label = label;
          here = here;
          live = ap (λ (l : Label State). l.live) (sym this.1) ∙ r.live;
          holds = subst (λ (l : Label State). Holds l.value v) this.1 r.holds;
        }
    | inr other ↦ record { by = r.by; label = r.label; here = other; live = r.live; holds = r.holds }
  ]

  pub now_count : settled_count settled_now ≡ settled_count old + 1
  now_count = count_set old i label here (waits_open label.live label.settled waits).1

  pub now_few : settled_count settled_now ≤ length settled_now
  now_few = count_most settled_now

  -- and then what it leads to was added
  pub turn : (first : Leaving) (now : List (Label State)) (bar : Option ℕ) → IsSpread t old bar first → IsGrown settled_now now → label.value.passed < length t.route - 1 → Spreads t now bar label.value → IsSpread t now bar first
  turn first now bar is grown before spreads = record {
    spreads = λ j x at settled.
        let was = grown.were j x at settled in
        elim (now_cases j was.0 was.1) [
          | inl this ↦ subst (λ (s : State). Spreads t now bar s) (ap (λ (l : Label State). l.value) (sym this.1) ∙ was.3) spreads
          | inr other ↦
              λ v stop holds may. elim (is.spreads j was.0 other was.2 v stop (subst (λ (s : State). Holds s v) (sym was.3) holds) may) [
                | inl reached ↦ inl (grown.keeps (leaving_after t.network v stop) (now_reached (leaving_after t.network v stop) reached))
                | inr late ↦ inr late
              ]
        ];
    on_way = λ j x at settled.
        let was = grown.were j x at settled in
        elim (now_cases j was.0 was.1) [
          | inl this ↦ subst (λ (s : State). s.passed < length t.route - 1) (ap (λ (l : Label State). l.value) (sym this.1) ∙ was.3) before
          | inr other ↦ subst (λ (s : State). s.passed < length t.route - 1) was.3 (is.on_way j was.0 other was.2)
        ];
    begun = grown.keeps first (now_reached first is.begun);
  }

-- where no label is settled
pub spread_none : (t : Journey) (labels : List (Label State)) (first : Leaving) → ((i : ℕ) (label : Label State) → slice_get labels i ≡ Some label → label.settled ≡ true → ⊥) → Reached labels first → (bar : Option ℕ) → IsSpread t labels bar first
spread_none t labels first none begun bar = record {
  spreads = λ i label here settled. absurd (none i label here settled);
  on_way = λ i label here settled. absurd (none i label here settled);
  begun = begun;
}

-- a live label that holds the vehicle, and is settled or waits
record HeldBy (labels : List (Label State)) (settled : Bool) (v : Leaving) : Type 0 where
  pub by : ℕ
  pub label : Label State
  pub here : slice_get labels by ≡ Some label
  pub live : label.live ≡ true
  pub is : label.settled ≡ settled
  pub holds : Holds label.value v

held : (labels : List (Label State)) (v : Leaving) → Reached labels v → HeldBy labels true v ⊎ HeldBy labels false v
held labels v r = elim (cases_Bool r.label.settled) [
  | inl is_settled ↦ inl (record { by = r.by; label = r.label; here = r.here; live = r.live; is = is_settled; holds = r.holds })
  | inr waits ↦ inr (record { by = r.by; label = r.label; here = r.here; live = r.live; is = waits; holds = r.holds })
]

waiting_is : (labels : List (Label State)) (v : Leaving) (h : HeldBy labels false v) → is_waiting h.label ≡ true
waiting_is labels v h = let live = h.live in let unset = h.is in rw (live, unset) refl

-- each way home of the start leads by a label that waits, or isn't below the bar
module _ (t : Journey) (labels : List (Label State)) (bar : ℕ) (is : IsSpread t labels (Some bar) (begin t.start)) where
  left_out : (v : Leaving) → Reached labels v ⊎ IsLate t (Some bar) v → HeldBy labels true v ⊎ (HeldBy labels false v ⊎ IsLate t (Some bar) v)
  left_out v some = elim some [
    | inl reached ↦ elim (held labels v reached) [ inl settled ↦ inl settled | inr waits ↦ inr (inl waits) ]
    | inr late ↦ inr (inr late)
  ]

  each_way : (Bounds : ℕ → Type 0) → ((v : Leaving) (stops : List Stop) → HeldBy labels false v → IsRest t.network t.route v stops → Bounds (v.time + time_from t.network 1 v.node v.level stops))
      → ((time : ℕ) → bar ≤ time → Bounds time) → (stops : List Stop) → IsRest t.network t.route (begin t.start) stops → Bounds (0 + time_from t.network 1 0 t.start stops)
  each_way Bounds low late stops rest =
      way_home t.network t.route (HeldBy labels true) (λ v. HeldBy labels false v ⊎ IsLate t (Some bar) v) Bounds
      (λ v stop h may. left_out (leaving_after t.network v stop) (is.spreads h.by h.label h.here h.is v stop h.holds may))
      (λ v ss waits own. elim waits [
        | inl h ↦ low v ss h own
        | inr past ↦ late (v.time + time_from t.network 1 v.node v.level ss) (past ss own)
      ])
      (λ v h. subst (λ n. n < length t.route - 1) h.holds.passed (is.on_way h.by h.label h.here h.is))
      stops (begin t.start) (left_out (begin t.start) (inl is.begun)) rest

  -- none is below the bar where none waits
  pub none_below : NoneWaits labels → IsBelowHomes t bar
  none_below none stops rest =
      let all : bar ≤ 0 + time_from t.network 1 0 t.start stops = each_way (λ n. bar ≤ n) (λ v ss h own. absurd (none h.by h.label h.here (waiting_is labels v h))) (λ time past. past) stops rest in
      omega (arith, all)

  least_or_late : (i : ℕ) (label : Label State) → AreSound t labels → IsNext labels i label → (stops : List Stop) → IsRest t.network t.route (begin t.start) stops
      → (label.key ≤ 0 + time_from t.network 1 0 t.start stops) ⊎ (bar ≤ 0 + time_from t.network 1 0 t.start stops)
  least_or_late i label sound next = each_way (λ n. (label.key ≤ n) ⊎ (bar ≤ n)) (λ v stops h rest.
      let other = (sound h.by h.label h.here).below v stops h.holds rest in
      elim (next.least h.by h.label h.here (waiting_is labels v h)) [
        | inl less ↦ inl (omega (arith, less, other))
        | inr equal ↦ inl (omega (arith, equal.0, other))
      ]) (λ time past. inr past)

  pub least_home : (i : ℕ) (label : Label State) → AreSound t labels → IsNext labels i label → label.key < bar → (stops : List Stop) → IsRest t.network t.route (begin t.start) stops → label.key ≤ 0 + time_from t.network 1 0 t.start stops
  least_home i label sound next below stops rest = elim (least_or_late i label sound next stops rest) [
    | inl least ↦ least
    | inr past ↦ omega (arith, past, below)
  ]

  -- nor where the label that is next is past the limit
  pub late_home : (limit i key : ℕ) (label : Label State) → AreSound t labels → IsNext labels i label → key ≡ label.key → limit ≡ scaled_limit t.network → limit < key → IsBelowHomes t bar
  late_home limit i key label sound next is_key is_limit late stops rest = elim (least_or_late i label sound next stops rest) [
    | inl least ↦
        let in_time : 0 + time_from t.network 1 0 t.start stops ≤ scaled_limit t.network = rest.in_time in
        absurd (omega (arith, least, in_time, is_key, is_limit, late))
    | inr past ↦ omega (arith, past)
  ]

  -- or not below the bar
  pub bar_home : (i key : ℕ) (label : Label State) → AreSound t labels → IsNext labels i label → key ≡ label.key → bar ≤ key → IsBelowHomes t bar
  bar_home i key label sound next is_key at_bar stops rest = elim (least_or_late i label sound next stops rest) [
    | inl least ↦ omega (arith, least, is_key, at_bar)
    | inr past ↦ omega (arith, past)
  ]

-- of two labels that are next the keys are the same
pub next_key : (labels : List (Label State)) (i j : ℕ) (one other : Label State) → IsNext labels i one → IsNext labels j other → other.key ≤ one.key
next_key labels i j one other first second = elim (second.least i one first.here first.waits) [
  | inl less ↦ omega (arith, less)
  | inr same ↦ omega (arith, same.0)
]

-- the start
pub start_sound : (t : Journey) (value : List (ℕ × ℕ)) → IsTrip t.network t.route → t.start ≤ t.network.capacity → value ≡ (t.start, 0) ∷ [] → IsSoundState t.network t.route (record { passed = 0; node = 0; charged = false; value = value })
start_sound t value trip low is = record {
  passed = (let two = trip.two in omega (arith, two));
  node = (let depot = trip.network.depot in omega (arith, depot));
  levels = λ level there. (let same = start_level t.start 0 level (subst (λ v. IsLevel (level_times v) level) is there) in omega (arith, same, low));
  times = λ level there.
      let none : time_at (level_times value) level ≡ 0 = ap (λ v. time_at (level_times v) level) is ∙ start_time t.start level (subst (λ v. IsLevel (level_times v) level) is there) in
      omega (arith, none);
}

pub begun : (t : Journey) (old now : List (Label State)) (value : List (ℕ × ℕ)) → old ≡ [] → IsGrown old now → value ≡ (t.start, 0) ∷ [] → ((v : Leaving) → Holds (record { passed = 0; node = 0; charged = false; value = value }) v → Reached now v) → (bar : Option ℕ) → IsSpread t now bar (begin t.start)
begun t old now value empty grown is reached =
    let has : IsLevel (level_times value) t.start = subst (λ v. IsLevel (level_times v) t.start) (sym is) (has_start t.start 0) in
    let none : time_at (level_times value) t.start ≡ 0 = ap (λ v. time_at (level_times v) t.start) is ∙ start_time t.start t.start (has_start t.start 0) in
    spread_none t now (begin t.start)
    (λ i label here settled. (let was = grown.were i label here settled in none-some was.0 (ap (λ xs. slice_get xs i) (sym empty) ∙ was.1)))
    (reached (begin t.start) (record { passed = refl; node = refl; reaches = (t.start, has, (omega arith, omega (arith, none))) }))

-- where a step leads from a label
pub next_node : (t : Journey) (passed : ℕ) (s : State) → IsTrip t.network t.route → s.passed + 1 < length t.route → passed ≡ s.passed → MayGo t.network t.route s.passed (passed + 1) (slice_index t.route (passed + 1))
next_node t passed s trip before is = record {
  on_way = omega arith;
  known = trip.is_route.1.known (passed + 1) 0 (omega (arith, is, before));
  leads = inr (ap (λ n. n + 1) is, refl);
}

pub next_station : (t : Journey) (passed n to : ℕ) (s : State) → s.passed + 1 < length t.route → passed ≡ s.passed → n < length (stations t.network) → to ≡ slice_index (stations t.network) n → MayGo t.network t.route s.passed passed to
next_station t passed n to s before is inside at = record {
  on_way = omega arith;
  known = subst (λ x. x < node_count t.network) (sym at) (station-known t.network n inside);
  leads = inl (is, subst (λ x. IsSome (curve_at t.network x)) (sym at) (station-curve t.network n inside));
}

-- one turn counts one settled label more, of fewer than 2 ^ 63
pub falls : (old now few : ℕ) → now ≡ old + 1 → now ≤ few → few < 2 ^ 63 → 2 ^ 63 - now < 2 ^ 63 - old
falls old now few more most small = omega arith
