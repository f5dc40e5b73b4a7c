-- Where a full battery was had, a later vehicle is needless.
use Rattle.std.proofs.Common.{◌≡◌, ℕ, zero, suc, ◌+◌, ◌*◌, ◌<◌, ◌≤◌, inl, inr, List, length, replicate, set, sym, ◌∙◌, ap, subst, arith, Option, Some, None}
use Rattle.std.specs.Prelude.{IfSome, slice_get}
use Rattle.std.proofs.lemmas.Option.{none-some, same_Some}
use Rattle.std.proofs.lemmas.List.{length-replicate}
use Rattle.std.proofs.lemmas.Bool.{cases_eq}
use Rattle.ev_model.specs.Network.{node_count}
use Rattle.dominance.specs.LevelTimes.{IsLevel, time_at}
use Rattle.label_pool.specs.declared.label.Label.{Label}
use Rattle.label_pool.proofs.Elements.{element_at, set_here, set_there}
use Rattle.piece_fn.specs.PieceFn.{level_times}
use Rattle.frvcp_labels.specs.Full.{AreFull, IsFullBy, IsNoted, full_at}
use Rattle.frvcp_labels.specs.Search.{IsGrown, IsSound, Reached, SpreadsTo}
use Rattle.route_steps.specs.Steps.{Holds, MayGo}
use Rattle.route_steps.specs.Trips.{Journey}
use Rattle.route_steps.specs.Ways.{Leaving, leaving_after}
use Rattle.route_steps.specs.declared.state.State.{State}
use Rattle.frvcp_labels.proofs.MoreLabels.{same_place}
use Rattle.route_steps.proofs.LeavingValues.{arrives}

pub noted : (full : List (Option ℕ)) (bucket : ℕ) (o : Option ℕ) → bucket < length full → IsNoted full bucket o (set full bucket o)
noted full bucket o inside i time here = elim (cases_eq i bucket) [
  | inl this ↦
      let there = element_at full bucket inside in
      inr (this, same_Some o (Some time) (sym (set_here full bucket o there.0 there.1) ∙ ap (λ n. slice_get (set full bucket o) n) (sym this) ∙ here))
  | inr other ↦ inl (sym (set_there full bucket i o other) ∙ here)
]

pub none_noted : (full : List (Option ℕ)) (bucket : ℕ) (o : Option ℕ) → IsNoted full bucket o full
none_noted full bucket o i time here = inl here

-- times stay as labels grow
pub full_grown : (t : Journey) (old now : List (Label State)) (full : List (Option ℕ)) → ((v : Leaving) → Reached old v → Reached now v) → AreFull t old full → AreFull t now full
full_grown t old now full keeps is = record {
  count = is.count;
  reached = λ passed node time within known here. keeps (full_at t passed node time) (is.reached passed node time within known here);
}

-- a time of a label that was added
pub full_added : (t : Journey) (old now : List (Label State)) (full after : List (Option ℕ)) (s : State) (o : Option ℕ) (bucket : ℕ) → AreFull t old full → IsGrown old now → ((v : Leaving) → Holds s v → Reached now v)
    → s.node < node_count t.network → bucket ≡ s.passed * node_count t.network + s.node → IfSome o (λ time. IsLevel (level_times s.value) t.network.capacity × (time ≡ time_at (level_times s.value) t.network.capacity))
    → length after ≡ length full → IsNoted full bucket o after → AreFull t now after
full_added t old now full after s o bucket is grown reached at place has count told = record {
  count = count ∙ is.count;
  reached = λ passed node time within known here. elim (told (passed * node_count t.network + node) time here) [
    | inl before ↦ grown.keeps (full_at t passed node time) (is.reached passed node time within known before)
    | inr own ↦
        let same = same_place (node_count t.network) passed s.passed node s.node (own.0 ∙ place) known at in
        let both = subst (λ (x : Option ℕ). IfSome x (λ y. IsLevel (level_times s.value) t.network.capacity × (y ≡ time_at (level_times s.value) t.network.capacity))) own.1 has in
        reached (full_at t passed node time) (record { passed = sym same.0; node = sym same.1; reaches = (t.network.capacity, both.0, (omega arith, omega (arith, both.1))) })
  ];
}

-- what arrives later is reached
pub full_spreads : (t : Journey) (labels : List (Label State)) (full : List (Option ℕ)) (from : State) (passed to : ℕ) → MayGo t.network t.route from.passed passed to → AreFull t labels full → passed < length t.route
    → ((level : ℕ) → IsLevel (level_times from.value) level → time_at (level_times from.value) (level_times from.value).first ≤ time_at (level_times from.value) level)
    → IsFullBy t full from passed to → SpreadsTo t labels from passed to
full_spreads t labels full from passed to go is within least by v stop holds may node after =
    let r = is.reached passed to by.time within go.known by.there in
    let parts = arrives t from passed to go v stop holds may node after in
    let own = holds.reaches in
    let low = least own.0 own.1 in
    let reach = r.holds.reaches in
    let before = by.before in
    let high : (leaving_after t.network v stop).level ≤ t.network.capacity = may.within in
    record {
      by = r.by;
      label = r.label;
      here = r.here;
      live = r.live;
      holds = record {
        passed = r.holds.passed ∙ sym after;
        node = r.holds.node ∙ sym node;
        reaches = (reach.0, reach.1, (omega (arith, high, reach.2.0), omega (arith, reach.2.1, before, low, own.2.1, parts.3)));
      };
    }

pub may_within : (t : Journey) (before passed to : ℕ) → MayGo t.network t.route before passed to → passed < length t.route
may_within t before passed to go = elim go.leads [
  | inl same ↦ (let on = go.on_way in omega (arith, same.0, on))
  | inr next ↦ (let on = go.on_way in omega (arith, next.0, on))
]

pub label_spreads : (t : Journey) (labels : List (Label State)) (full : List (Option ℕ)) (label : Label State) (from : State) (passed to : ℕ) → MayGo t.network t.route label.value.passed passed to → AreFull t labels full → IsSound t labels label
    → from ≡ label.value → IsFullBy t full from passed to → SpreadsTo t labels label.value passed to
label_spreads t labels full label from passed to go is sound same by =
    full_spreads t labels full label.value passed to go is (may_within t label.value.passed passed to go) sound.least
    (subst (λ (s : State). IsFullBy t full s passed to) same by)

none_there : (n i : ℕ) (o : Option ℕ) → slice_get (replicate n None) i ≡ Some o → o ≡ None
none_there zero i o here = absurd (none-some o here)
none_there (suc n) zero o here = sym (same_Some None o here)
none_there (suc n) (suc i) o here = none_there n i o here

-- nothing stands where no time was noted
pub none_full : (t : Journey) (labels : List (Label State)) (full : List (Option ℕ)) (n : ℕ) → full ≡ replicate n None → n ≡ length t.route * node_count t.network → AreFull t labels full
none_full t labels full n is count = record {
  count = ap length is ∙ length-replicate n None ∙ count;
  reached = λ passed node time within known here.
      absurd (none-some time (sym (none_there n (passed * node_count t.network + node) (Some time) (ap (λ os. slice_get os (passed * node_count t.network + node)) (sym is) ∙ here))));
}
