-- A fleet plan goes down a tree to some leaf.
use Rattle.std.proofs.Common.{◌≡◌, ℕ, ◌+◌, ◌≤◌, true, refl, subst, List, [], ◌∷◌, ◌⊎◌, arith, inl, inr}
use Rattle.std.specs.List.{All}
use Rattle.std.specs.Prelude.{nat_eq}
use Rattle.std.proofs.lemmas.Bool.{and_parts, cases_Bool, cases_lt, eqb-true, false≢true}
use Rattle.std.proofs.lemmas.List.Elements.{All-cons, All-head, All-nil, All-tail}
use Rattle.ev_model.specs.Fleet.{IsFleetPlan}
use Rattle.ev_model.specs.Network.{Network}
use Rattle.ev_model.specs.declared.Stop.{Stop}
use Rattle.fleet_model.proofs.Splits.{keeps_a_child, keeps_any}
use Rattle.near_tree.specs.Branches.{apart_at, at_least, at_most, Branch, count_of, Counted, counted_anew, is_same, IsInRange, Keeps, together_at, whole}
use Rattle.near_tree.specs.Entries.{entries_of}
use Rattle.near_tree.specs.Trees.{AtSomeLeaf, entries, IsCount, IsSplit, IsTreeAt, leaf, NearTree, split}
use Rattle.near_tree.proofs.Crossings.{top_range}

same_set : (cs ds : List ℕ) → is_same cs ds ≡ true → cs ≡ ds
same_set [] [] is = refl
same_set [] (d ∷ ds) is = absurd (false≢true is)
same_set (c ∷ cs) [] is = absurd (false≢true is)
same_set (c ∷ cs) (d ∷ ds) is =
    let parts = and_parts (nat_eq c d) (is_same cs ds) is in
    let first = eqb-true c d parts.0 in
    let rest = same_set cs ds parts.1 in
    cc

module _ (g : Network) (plans : List (List Stop)) where
  -- the range of a set holds, whether it was mentioned before or not
  counted_range : (cs : List Counted) (set : List ℕ) → All (IsInRange g plans) cs → IsInRange g plans (count_of [] set) →
      ((count_of cs set).least ≤ entries_of g set plans) × (entries_of g set plans ≤ (count_of cs set).most)
  counted_range [] set all top = (top.least, top.most)
  counted_range (c ∷ cs) set all top = elim (cases_Bool (is_same c.set set)) [
    | inl same ↦
        let here = All-head (IsInRange g plans) c cs all in
        let sets = same_set c.set set same in
        let low : c.least ≤ entries_of g set plans = subst (λ s. c.least ≤ entries_of g s plans) sets here.least in
        let high : entries_of g set plans ≤ c.most = subst (λ s. entries_of g s plans ≤ c.most) sets here.most in
        rw same (low, high)
    | inr other ↦ rw other (counted_range cs set (All-tail (IsInRange g plans) c cs all) top)
  ]

  anew_holds : (cs : List Counted) (d : Counted) → All (IsInRange g plans) cs → IsInRange g plans d → All (IsInRange g plans) (counted_anew cs d)
  anew_holds [] d all holds = All-cons (IsInRange g plans) d [] holds (All-nil (IsInRange g plans))
  anew_holds (c ∷ cs) d all holds =
      let rest = All-tail (IsInRange g plans) c cs all in
      elim (cases_Bool (is_same c.set d.set)) [
        | inl same ↦ rw same (All-cons (IsInRange g plans) d cs holds rest)
        | inr other ↦ rw other (All-cons (IsInRange g plans) c (counted_anew cs d) (All-head (IsInRange g plans) c cs all) (anew_holds cs d rest holds))
      ]

  module _ (k : ℕ) (fleet : IsFleetPlan g k plans) where
    keeps_a_count : (b : Branch) (n : ℕ) (set : List ℕ) → IsCount g b n set → Keeps g b plans → Keeps g (at_most n set b) plans ⊎ Keeps g (at_least n set b) plans
    keeps_a_count b n set count keeps =
        let range = counted_range b.counted set keeps.entries (top_range g k plans set fleet count.some count.known) in
        elim (cases_lt n (entries_of g set plans)) [
          | inl more ↦
              let d : Counted = record { set = set; least = n + 1; most = (count_of b.counted set).most } in
              let holds : IsInRange g plans d = record { least = omega (arith, more); most = range.1 } in
              inr (record { pairs = keeps.pairs; entries = anew_holds b.counted d keeps.entries holds })
          | inr few ↦
              let d : Counted = record { set = set; least = (count_of b.counted set).least; most = n } in
              let holds : IsInRange g plans d = record { least = range.0; most = few } in
              inl (record { pairs = keeps.pairs; entries = anew_holds b.counted d keeps.entries holds })
        ]

    keeps_a_split : (b : Branch) (i j : ℕ) → IsSplit g i j → Keeps g b plans → Keeps g (apart_at i j b) plans ⊎ Keeps g (together_at i j b) plans
    keeps_a_split b i j is keeps = elim (keeps_a_child g k b.allows i j plans fleet keeps.pairs is.first.0 is.second.0) [
      | inl apart ↦ inl (record { pairs = apart; entries = keeps.entries })
      | inr together ↦ inr (record { pairs = together; entries = keeps.entries })
    ]

    goes_down : (b : Branch) (t : NearTree) → IsTreeAt g b t → Keeps g b plans → AtSomeLeaf (λ c s. Keeps g c plans) b t
    goes_down b (leaf s) is keeps = keeps
    goes_down b (split i j apart together) is keeps = elim (keeps_a_split b i j is.0 keeps) [
      | inl first ↦ inl (goes_down (apart_at i j b) apart is.1 first)
      | inr second ↦ inr (goes_down (together_at i j b) together is.2 second)
    ]
    goes_down b (entries n set few many) is keeps = elim (keeps_a_count b n set is.0 keeps) [
      | inl first ↦ inl (goes_down (at_most n set b) few is.1 first)
      | inr second ↦ inr (goes_down (at_least n set b) many is.2 second)
    ]

pub to_some_leaf : (g : Network) (t : NearTree) (k : ℕ) (plans : List (List Stop)) → IsTreeAt g whole t → IsFleetPlan g k plans → AtSomeLeaf (λ b s. Keeps g b plans) whole t
to_some_leaf g t k plans is fleet = goes_down g plans k fleet whole t is (record { pairs = keeps_any g plans; entries = All-nil (IsInRange g plans) })
