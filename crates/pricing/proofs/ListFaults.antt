-- What faults of listed labels tell.
use Rattle.std.proofs.Common.{◌≡◌, ℕ, zero, suc, ◌*◌, Bool, true, pos, ◌<ℤ◌, refl, sym, ap, subst, List, ℤ, [], ◌∷◌, map, arith, inl, inr, Some}
use Rattle.std.specs.Prelude.{slice_get}
use Rattle.std.specs.List.{Contains}
use Rattle.std.proofs.lemmas.Option.{none-some, same_Some}
use Rattle.customer_sets.specs.Pairs.{ForbiddenPairs}
use Rattle.ev_model.specs.Network.{Network}
use Rattle.fleet_model.specs.ClosedListRules.{at_home, at_step, EarnsAtHome, IsFault, ReachesUncovered}
use Rattle.fleet_model.specs.Coverage.{IsCovered}
use Rattle.fleet_model.specs.Labels.{Label as PaidLabel, State, state_at}
use Rattle.fleet_model.specs.Places.{place_of}
use Rattle.fleet_model.specs.Section.{Section}
use Rattle.fleet_model.specs.Steps.{at_customer, at_station, time_at}
use Rattle.label_search.specs.Answers.{EarnsThere, StepsOn}
use Rattle.piece_fn.specs.declared.label.Label.{Label}
use Rattle.closed_lists.specs.Questions.{Question, section}
use Rattle.closed_lists.specs.Sections.{paid_label, section_of}
use Rattle.closed_lists.specs.Verdicts.{IsTold}
use Rattle.closed_lists.specs.declared.fault.ClosedFault.{ClosedFault}
use Rattle.pricing.specs.Labels.{route_space}

-- what is told of labels by the parts of a question is told by the question
pub told_of : (q : Question) (g : Network) (pairs : ForbiddenPairs) (weight : ℕ) (prices : List ℤ) (labels : List Label) (fault : ClosedFault) → g ≡ q.network → pairs ≡ q.pairs → weight ≡ q.weight → prices ≡ q.prices
    → IsTold g (section_of pairs weight prices labels) fault → IsTold q.network (section_of q.pairs q.weight q.prices labels) fault
told_of q g pairs weight prices labels fault network same weighs priced told =
    subst (λ (ps : List ℤ). IsTold q.network (section_of q.pairs q.weight ps labels) fault) priced
    (subst (λ w. IsTold q.network (section_of q.pairs w prices labels) fault) weighs
    (subst (λ (ps : ForbiddenPairs). IsTold q.network (section_of ps weight prices labels) fault) same
    (subst (λ (k : Network). IsTold k (section_of pairs weight prices labels) fault) network told)))

-- a label of the section is one of the labels
told_label : (prices : List ℤ) (labels : List Label) (n : ℕ) (l : PaidLabel) → slice_get (map (paid_label prices) labels) n ≡ Some l → (x : Label) × (slice_get labels n ≡ Some x) × (paid_label prices x ≡ l)
told_label prices [] n l at = absurd (none-some l at)
told_label prices (y ∷ ys) zero l at = (y, refl, same_Some (paid_label prices y) l at)
told_label prices (y ∷ ys) (suc n) l at = told_label prices ys n l at

-- whether a label earns depends on the pairs and the weight alone
earns_still : (q : Question) (s : Section) (l : PaidLabel) → s.allows ≡ (section q).allows → s.weight ≡ q.weight → EarnsAtHome q.network s l → EarnsAtHome q.network (section q) l
earns_still q s l allows weight earns = (
  earns.0,
  earns.1,
  record {
    step = earns.2.step;
    some = earns.2.some;
    allowed = subst (λ (a : ℕ → ℕ → Bool). a (place_of q.network l.last) 0 ≡ true) allows earns.2.allowed;
    home = earns.2.home;
    in_time = earns.2.in_time;
  },
  subst (λ w. pos (w * time_at q.network (state_at l earns.0) 0) <ℤ l.paid) weight earns.3,
)

-- no state is covered by no label
no_member : (x : PaidLabel) → Contains [] x → ⊥
no_member x member = absurd (omega (arith, member.1))

never_covered : (s : Section) (b : State) → s.labels ≡ [] → IsCovered s b → ⊥
never_covered s b none covered = absurd (no_member covered.0 (subst (λ (ls : List PaidLabel). Contains ls covered.0) none covered.1))

module _ (q : Question) (labels : List Label) (n : ℕ) where
  -- the label earns at home
  pub earns_there : IsFault q.network (section_of q.pairs q.weight q.prices labels) (at_home n) → EarnsThere (route_space q) labels n
  earns_there fault =
      let there = told_label q.prices labels n fault.0 fault.1 in
      record {
        label = there.0;
        at = there.1;
        earns = subst (λ (l : PaidLabel). EarnsAtHome q.network (section q) l) (sym there.2) (earns_still q (section_of q.pairs q.weight q.prices labels) fault.0 refl refl fault.2);
      }

  -- a step that leads to a state that a list does not cover leads to one that no label covers
  pub steps_on : (x : ℕ) → q.labels ≡ [] → IsFault q.network (section_of q.pairs q.weight q.prices labels) (at_step n x) → StepsOn (route_space q) labels n x
  steps_on x none fault =
      let there = told_label q.prices labels n fault.0 fault.1 in
      let no_labels : (section q).labels ≡ [] = ap (map (paid_label q.prices)) none in
      let step : ReachesUncovered q.network (section q) fault.0 x = (
        fault.2.0,
        fault.2.1,
        elim (fault.2.2) [
          | inl customer ↦ inl (
            record { step = customer.0.step; customer = customer.0.customer; new = customer.0.new; allowed = customer.0.allowed; in_time = customer.0.in_time },
            never_covered (section q) (at_customer q.network (section q) (state_at fault.0 fault.2.0) x) no_labels,
          )
          | inr station ↦ inr (station.0, station.1, never_covered (section q) (at_station q.network (state_at fault.0 fault.2.0) x station.0) no_labels)
        ],
      ) in
      record {
        label = there.0;
        at = there.1;
        known = elim (fault.2.2) [
          | inl customer ↦ customer.0.step.known
          | inr station ↦ station.1.step.known
        ];
        step = subst (λ (l : PaidLabel). ReachesUncovered q.network (section q) l x) (sym there.2) step;
      }
