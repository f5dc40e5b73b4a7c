-- The states of live labels, one by one.
use Rattle.std.proofs.Common.{◌≡◌, ℕ, ◌+◌, ◌-◌, ◌<◌, ◌≤◌, inl, inr, List, [], ◌∷◌, ◌++◌, length, refl, sym, ◌∙◌, ap, subst, arith, Some, true}
use Rattle.std.specs.Prelude.{◌↔◌, Bool, IsTrue, nat_eq, not, slice_get}
use Rattle.std.specs.List.{All, Contains}
use Rattle.std.proofs.lemmas.Bool.{cases_eq, false≢true}
use Rattle.std.proofs.lemmas.Bool.Decides.{eqb_tells}
use Rattle.std.proofs.lemmas.List.Elements.{All-append, All-cons, All-nil, Contains-append_left, Contains-push, Contains-push_cases}
use Rattle.std.proofs.lemmas.Option.{same_Some, slice_get_within}
use Rattle.label_pool.specs.declared.label.Label.{Label}
use Rattle.route_steps.specs.Trips.{Journey}
use Rattle.route_steps.specs.declared.state.State.{State}
use Rattle.frvcp_labels.specs.Listing.{HoldReached, IsStateOnWay, StandForLabels}
use Rattle.frvcp_labels.specs.Search.{AreSound}

-- the states are those of the live labels on their way among the first ones
pub record AreListed (t : Journey) (labels : List (Label State)) (count : ℕ) (states : List State) : Type 0 where
  pub on_way : All (IsStateOnWay t) states
  pub held : (i : ℕ) (label : Label State) → i < count → slice_get labels i ≡ Some label → label.live ≡ true → label.value.passed < length t.route - 1 → Contains states label.value
  pub stand : StandForLabels labels states

short : (a b end n : ℕ) → a ≡ b → end ≡ n - 1 → b < n → (a ≡ end → ⊥) → b < n - 1
short a b end n same is inside other = elim (cases_eq a end) [ inl at ↦ absurd (other at) | inr apart ↦ omega (arith, same, is, inside, apart) ]

module _ (t : Journey) (labels : List (Label State)) where
  -- what tells that a live label is on its way
  pub is_on_way : (i end : ℕ) (live : Bool) (state : State) (label : Label State) → AreSound t labels → end ≡ length t.route - 1 → state ≡ label.value → live ≡ label.live → IsTrue live → slice_get labels i ≡ Some label
      → IsTrue (not (nat_eq state.passed end)) ↔ ((label.live ≡ true) × (label.value.passed < length t.route - 1))
  is_on_way i end live state label sound is told told_live is_live here =
      let same : state.passed ≡ label.value.passed = ap (λ (s : State). s.passed) told in
      let inside : label.value.passed < length t.route = (sound i label here).state.passed in
      elim (eqb_tells state.passed end) [
        | inl equal ↦ (
          λ e. absurd (false≢true (subst (λ b. IsTrue (not b)) equal.0 e)),
          λ both. (let less = both.1 in absurd (omega (arith, same, less, equal.1, is))),
        )
        | inr other ↦ (
          λ e. (sym told_live ∙ is_live, short state.passed label.value.passed end (length t.route) same is inside other.1),
          λ both. subst (λ b. IsTrue (not b)) (sym other.0) refl,
        )
      ]

  pub none_listed : AreListed t labels 0 []
  none_listed = record {
    on_way = All-nil (IsStateOnWay t);
    held = λ i label under. absurd (omega (arith, under));
    stand = λ s none. absurd (omega (arith, none.1));
  }

  pub one_skipped : (i : ℕ) (states : List State) → AreListed t labels i states → ((label : Label State) → slice_get labels i ≡ Some label → label.live ≡ true → label.value.passed < length t.route - 1 → ⊥) → AreListed t labels (i + 1) states
  one_skipped i states are none = record {
    on_way = are.on_way;
    held = λ j label under here live on_way. elim (cases_eq j i) [
      | inl this ↦ absurd (none label (ap (λ n. slice_get labels n) (sym this) ∙ here) live on_way)
      | inr other ↦ are.held j label (omega (arith, under, other)) here live on_way
    ];
    stand = are.stand;
  }

  pub one_listed : (i : ℕ) (states : List State) (label : Label State) → AreListed t labels i states → slice_get labels i ≡ Some label → label.live ≡ true → IsStateOnWay t label.value → AreListed t labels (i + 1) (states ++ label.value ∷ [])
  one_listed i states label are at is_live fits = record {
    on_way = All-append (IsStateOnWay t) states (label.value ∷ []) are.on_way (All-cons (IsStateOnWay t) label.value [] fits (All-nil (IsStateOnWay t)));
    held = λ j other under here live on_way. elim (cases_eq j i) [
      | inl this ↦
          let same : label ≡ other = same_Some label other (sym at ∙ ap (λ n. slice_get labels n) (sym this) ∙ here) in
          subst (λ (l : Label State). Contains (states ++ label.value ∷ []) l.value) same (Contains-push states label.value)
      | inr before ↦ Contains-append_left states (label.value ∷ []) other.value (are.held j other (omega (arith, under, before)) here live on_way)
    ];
    stand = λ s there. elim (Contains-push_cases states label.value s there) [
      | inl before ↦ are.stand s before
      | inr last ↦ (i, label, at, is_live, last)
    ];
  }

  pub all_listed : (count : ℕ) (states : List State) → length labels ≤ count → AreListed t labels count states → HoldReached t labels states
  all_listed count states most are v reached on_way =
      let inside = slice_get_within labels reached.by reached.label reached.here in
      (reached.label.value, are.held reached.by reached.label (omega (arith, inside, most)) reached.here reached.live (subst (λ n. n < length t.route - 1) (sym reached.holds.passed) on_way), reached.holds)
