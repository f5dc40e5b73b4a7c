-- Labels after one was added.
use Rattle.std.proofs.Common.{◌≡◌, ℕ, ◌+◌, ◌-◌, ◌*◌, ◌/◌, ◌<◌, ◌⊎◌, inl, inr, List, [], ◌∷◌, ◌++◌, length, map, refl, sym, ◌∙◌, ap, subst, arith, Option, Some, None, true, false}
use Rattle.std.specs.Prelude.{◌&&◌, not, Bool, IfSome, IsNone, nat_eq, option_map, slice_get}
use Rattle.std.proofs.lemmas.Option.{same_Some, none-some, slice_get-map}
use Rattle.std.proofs.lemmas.Bool.{and_parts, and_from, eqb-true, eq-eqb, false≢true}
use Rattle.std.proofs.lemmas.Nat.{div-mul-add}
use Rattle.ev_model.specs.Network.{node_count}
use Rattle.dominance.specs.Coverage.{CoversEach, Reaches, does_cover}
use Rattle.dominance.specs.Laws.{covers_exactly, dominates_itself}
use Rattle.dominance.specs.LevelTimes.{IsValue, LevelTimes, time_at}
use Rattle.label_pool.specs.Labels.{IsCovered, Labels, beside, labels_with}
use Rattle.label_pool.specs.declared.label.Label.{Label}
use Rattle.label_pool.proofs.Elements.{appended_before, appended_cases}
use Rattle.piece_fn.specs.PieceFn.{level_times}
use Rattle.frvcp_labels.specs.Charged.{OnlyAdds}
use Rattle.frvcp_labels.specs.Search.{AreSound, HasOrigin, HasPlans, IsBelowWays, IsGrown, IsSound, IsSoundPool, Reached, settled_count}
use Rattle.route_steps.specs.Steps.{Holds, IsSoundState, IsStep}
use Rattle.route_steps.specs.Trips.{Journey}
use Rattle.route_steps.specs.Ways.{Leaving}
use Rattle.route_steps.specs.declared.state.State.{State}
use Rattle.frvcp_labels.proofs.FirstLevel.{first_is_least}

-- one state dominates another by their values
abbrev pub by_value : State → State → Bool
by_value x y = does_cover (level_times x.value) (level_times y.value) 0

pub reaches_on : (x y : LevelTimes) (level time : ℕ) → CoversEach x y 0 → Reaches y 0 level time → Reaches x 0 level time
reaches_on x y level time covers r =
    let high = covers r.0 r.1 in
    (high.0, high.1, (omega (arith, high.2.0, r.2.0), omega (arith, high.2.1, r.2.1)))

pub same_place : (n p q a b : ℕ) → p * n + a ≡ q * n + b → a < n → b < n → (p ≡ q) × (a ≡ b)
same_place n p q a b e la lb =
    let same : p ≡ q = sym (div-mul-add p n a la) ∙ ap (λ x. x / n) e ∙ div-mul-add q n b lb in
    let there : q * n + a ≡ q * n + b = subst (λ x. x * n + a ≡ q * n + b) same e in
    (same, omega arith)

module _ (t : Journey) where
  pub covered_reached : (labels : List (Label State)) (s : State) (v : Leaving) → AreSound t labels → s.node < node_count t.network → IsCovered by_value labels (s.passed * node_count t.network + s.node) s → Holds s v → Reached labels v
  covered_reached labels s v sound known covered holds =
      let label = covered.is.label in
      let is = sound covered.by label covered.is.here in
      let lives = and_parts label.live (nat_eq label.bucket (s.passed * node_count t.network + s.node)) covered.is.lives in
      let bucket : label.bucket ≡ s.passed * node_count t.network + s.node = eqb-true label.bucket (s.passed * node_count t.network + s.node) lives.1 in
      let place = same_place (node_count t.network) label.value.passed s.passed label.value.node s.node (sym is.bucket ∙ bucket) is.state.node known in
      record {
        by = covered.by;
        label = label;
        here = covered.is.here;
        live = lives.0;
        holds = record {
          passed = place.0 ∙ holds.passed;
          node = place.1 ∙ holds.node;
          reaches = reaches_on (level_times label.value.value) (level_times s.value) v.level v.time ((covers_exactly (level_times label.value.value) (level_times s.value) 0).0 covered.covered) holds.reaches;
        };
      }

  pub reached_covered : (labels : List (Label State)) (v : Leaving) (r : Reached labels v) → IsCovered by_value labels r.label.bucket r.label.value
  reached_covered labels v r = record {
    by = r.by;
    is = record { label = r.label; here = r.here; lives = and_from r.label.live (nat_eq r.label.bucket r.label.bucket) r.live (eq-eqb r.label.bucket r.label.bucket refl) };
    covered = dominates_itself (level_times r.label.value.value);
  }

  -- what was reached stays so
  pub reached_stays : (old new : List (Label State)) → AreSound t old → AreSound t new → ((b : ℕ) (x : State) → IsCovered by_value old b x → IsCovered by_value new b x) → (v : Leaving) → Reached old v → Reached new v
  reached_stays old new sound sound_new keeps v r =
      let is = sound r.by r.label r.here in
      covered_reached new r.label.value v sound_new is.state.node
      (subst (λ b. IsCovered by_value new b r.label.value) is.bucket (keeps r.label.bucket r.label.value (reached_covered old v r))) r.holds

module _ (covers : State → State → Bool) (labels : List (Label State)) (new : Label State) where
  pub with_stays : (i : ℕ) (label : Label State) → slice_get labels i ≡ Some label → slice_get (labels_with covers labels new) i ≡ Some (beside covers new.bucket new.value label)
  with_stays i label here =
      appended_before (map (beside covers new.bucket new.value) labels) (new ∷ []) i (beside covers new.bucket new.value label)
      (slice_get-map (beside covers new.bucket new.value) labels i ∙ ap (option_map (beside covers new.bucket new.value)) here)

  mapped : (o : Option (Label State)) (label : Label State) → option_map (beside covers new.bucket new.value) o ≡ Some label → (other : Label State) × (o ≡ Some other) × (label ≡ beside covers new.bucket new.value other)
  mapped None label is = absurd (none-some label is)
  mapped (Some other) label is = (other, refl, sym (same_Some (beside covers new.bucket new.value other) label is))

  pub with_cases : (i : ℕ) (label : Label State) → slice_get (labels_with covers labels new) i ≡ Some label
      → ((other : Label State) × (slice_get labels i ≡ Some other) × (label ≡ beside covers new.bucket new.value other)) ⊎ (label ≡ new)
  with_cases i label here = elim (appended_cases (map (beside covers new.bucket new.value) labels) new label i here) [
    | inl before ↦ inl (mapped (slice_get labels i) label (sym (slice_get-map (beside covers new.bucket new.value) labels i) ∙ before))
    | inr last ↦ inr (sym last.1)
  ]

pub count_with : (covers : State → State → Bool) (bucket : ℕ) (value : State) (xs : List (Label State)) (new : Label State) → new.settled ≡ false → settled_count (map (beside covers bucket value) xs ++ new ∷ []) ≡ settled_count xs
count_with covers bucket value [] new none = rw none refl
count_with covers bucket value (x ∷ xs) new none = let rest = count_with covers bucket value xs new none in rw rest refl

-- a label comes from the same one
origin_stays : (t : Journey) (old new : List (Label State)) (parent : Option ℕ) (s : State) → ((i : ℕ) (label : Label State) → slice_get old i ≡ Some label → (other : Label State) × (slice_get new i ≡ Some other) × (other.value ≡ label.value))
    → HasOrigin t old parent s → HasOrigin t new parent s
origin_stays t old new None s stays is = is
origin_stays t old new (Some p) s stays is =
    let there = stays p is.0 is.1 in
    (there.0, there.1, subst (λ (x : State). IsStep t.network t.route x s) (sym there.2) is.2)

pub sound_stays : (t : Journey) (old new : List (Label State)) (label : Label State) → ((i : ℕ) (label : Label State) → slice_get old i ≡ Some label → (other : Label State) × (slice_get new i ≡ Some other) × (other.value ≡ label.value))
    → IsSound t old label → IsSound t new label
sound_stays t old new label stays is = record {
  state = is.state;
  bucket = is.bucket;
  first = is.first;
  least = is.least;
  below = is.below;
  home = is.home;
  origin = origin_stays t old new label.parent label.value stays is.origin;
  plans = is.plans;
}

still_sound : (t : Journey) (labels : List (Label State)) (label : Label State) (live : Bool) → IsSound t labels label → IsSound t labels (record label { live = live })
still_sound t labels label live is = record { state = is.state; bucket = is.bucket; first = is.first; least = is.least; below = is.below; home = is.home; origin = is.origin; plans = is.plans }

module _ (t : Journey) (old : List (Label State)) (new : Label State) (sound : AreSound t old) (is_new : IsSound t old new) (waits : new.settled ≡ false) where
  pub with_value : (i : ℕ) (label : Label State) → slice_get old i ≡ Some label → (other : Label State) × (slice_get (labels_with by_value old new) i ≡ Some other) × (other.value ≡ label.value)
  with_value i label here = (beside by_value new.bucket new.value label, with_stays by_value old new i label here, refl)

  pub with_sound : AreSound t (labels_with by_value old new)
  with_sound i label here = elim (with_cases by_value old new i label here) [
    | inl before ↦
        subst (λ (l : Label State). IsSound t (labels_with by_value old new) l) (sym before.2)
        (sound_stays t old (labels_with by_value old new) (beside by_value new.bucket new.value before.0) with_value
        (still_sound t old before.0 (beside by_value new.bucket new.value before.0).live (sound i before.0 before.1)))
    | inr last ↦ subst (λ (l : Label State). IsSound t (labels_with by_value old new) l) (sym last) (sound_stays t old (labels_with by_value old new) new with_value is_new)
  ]

  with_settled : (i : ℕ) (label : Label State) → slice_get (labels_with by_value old new) i ≡ Some label → label.settled ≡ true → (other : Label State) × (slice_get old i ≡ Some other) × (other.settled ≡ true) × (other.value ≡ label.value)
  with_settled i label here settled = elim (with_cases by_value old new i label here) [
    | inl before ↦
        (before.0, before.1, ap (λ (l : Label State). l.settled) (sym before.2) ∙ settled, ap (λ (l : Label State). l.value) (sym before.2))
    | inr last ↦ absurd (false≢true (sym waits ∙ ap (λ (l : Label State). l.settled) (sym last) ∙ settled))
  ]

  pub with_grown : ((b : ℕ) (x : State) → IsCovered by_value old b x → IsCovered by_value (labels_with by_value old new) b x) → IsGrown old (labels_with by_value old new)
  with_grown keeps = record {
    stays = with_value;
    were = with_settled;
    keeps = reached_stays t old (labels_with by_value old new) sound with_sound keeps;
    count = count_with by_value new.bucket new.value old new waits;
  }

-- a vehicle that is reached was before, or the new label holds it
with_only : (t : Journey) (old : List (Label State)) (new : Label State) (v : Leaving) → Reached (labels_with by_value old new) v → Reached old v ⊎ Holds new.value v
with_only t old new v r = elim (with_cases by_value old new r.by r.label r.here) [
  | inl before ↦
      let live = ap (λ (l : Label State). l.live) (sym before.2) ∙ r.live in
      inl (record {
        by = r.by;
        label = before.0;
        here = before.1;
        live = (and_parts before.0.live (not (nat_eq before.0.bucket new.bucket && by_value new.value before.0.value)) live).0;
        holds = subst (λ (l : Label State). Holds l.value v) before.2 r.holds;
      })
  | inr last ↦ inr (subst (λ (l : Label State). Holds l.value v) last r.holds)
]

pub grown_same : (labels : List (Label State)) → IsGrown labels labels
grown_same labels = record {
  stays = λ i label here. (label, here, refl);
  were = λ i label here settled. (label, here, settled, refl);
  keeps = λ v r. r;
  count = refl;
}

pub grown_on : (a b c : List (Label State)) → IsGrown a b → IsGrown b c → IsGrown a c
grown_on a b c first second = record {
  stays = λ i label here.
      let there = first.stays i label here in
      let last = second.stays i there.0 there.1 in
      (last.0, last.1, last.2 ∙ there.2);
  were = λ i label here settled.
      let there = second.were i label here settled in
      let before = first.were i there.0 there.1 there.2 in
      (before.0, before.1, before.2, before.3 ∙ there.3);
  keeps = λ v r. second.keeps v (first.keeps v r);
  count = second.count ∙ first.count;
}

-- what `add` answers, by whether the pool took the label
pub record IsAdded (t : Journey) (old now : Labels State) (s : State) : Type 0 where
  pub pool : IsSoundPool t now
  pub grown : IsGrown old.labels now.labels
  pub reached : (v : Leaving) → Holds s v → Reached now.labels v
  pub only : OnlyAdds old.labels now.labels s

module _ (t : Journey) (old now : Labels State) (new : Label State) where
  pub added_is : (added : Option ℕ) → IsSoundPool t old → IsSound t old.labels new → new.settled ≡ false → (IsNone added → now ≡ old) → IfSome added (λ i. now ≡ record old { labels = labels_with by_value old.labels new })
      → IsCovered by_value now.labels new.bucket new.value → ((b : ℕ) (x : State) → IsCovered by_value old.labels b x → IsCovered by_value now.labels b x) → IsAdded t old now new.value
  added_is None sound is waits same grows own keeps =
      let e : now ≡ old = same refl in
      let pool : IsSoundPool t now = subst (λ (p : Labels State). IsSoundPool t p) (sym e) sound in
      record {
        pool = pool;
        grown = subst (λ (p : Labels State). IsGrown old.labels p.labels) (sym e) (grown_same old.labels);
        reached = λ v holds. covered_reached t now.labels new.value v pool.labels is.state.node (subst (λ b. IsCovered by_value now.labels b new.value) is.bucket own) holds;
        only = λ v r. inl (subst (λ (p : Labels State). Reached p.labels v) e r);
      }
  added_is (Some i) sound is waits same grows own keeps =
      let labels : now.labels ≡ labels_with by_value old.labels new = ap (λ (p : Labels State). p.labels) grows in
      let pool : IsSoundPool t now = record {
        trip = sound.trip;
        labels = subst (λ (ls : List (Label State)). AreSound t ls) (sym labels) (with_sound t old.labels new sound.labels is waits);
        buckets = ap (λ (p : Labels State). p.buckets) grows ∙ sound.buckets;
        few = sound.few;
      } in
      record {
        pool = pool;
        grown = subst (λ (ls : List (Label State)). IsGrown old.labels ls) (sym labels)
            (with_grown t old.labels new sound.labels is waits (λ b x c. subst (λ (ls : List (Label State)). IsCovered by_value ls b x) labels (keeps b x c)));
        reached = λ v holds. covered_reached t now.labels new.value v pool.labels is.state.node (subst (λ b. IsCovered by_value now.labels b new.value) is.bucket own) holds;
        only = λ v r. with_only t old.labels new v (subst (λ (ls : List (Label State)). Reached ls v) labels r);
      }

-- a new label
pub new_sound : (t : Journey) (labels : List (Label State)) (s : State) (bucket key : ℕ) (parent : Option ℕ) → IsSoundState t.network t.route s → bucket ≡ s.passed * node_count t.network + s.node → IsValue (level_times s.value) → IsBelowWays t s key
    → (s.passed ≡ length t.route - 1 → key ≡ time_at (level_times s.value) (level_times s.value).first) → HasOrigin t labels parent s → HasPlans t s
    → IsSound t labels (record { bucket = bucket; value = s; key = key; parent = parent; live = true; settled = false })
new_sound t labels s bucket key parent sound place valid below home origin plans =
    let v = level_times s.value in
    let some : 0 < length v.times = valid.some in
    record {
      state = sound;
      bucket = place;
      first = (omega arith, omega (arith, some));
      least = first_is_least v valid;
      below = below;
      home = home;
      origin = origin;
      plans = plans;
    }
