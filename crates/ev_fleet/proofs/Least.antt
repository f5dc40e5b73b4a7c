-- The least bound that is found by a walk over the lines of a tree.
use Rattle.std.proofs.Common.{◌≡◌, ◌∙◌, ℕ, suc, ◌+◌, drop, ◌<◌, min, List, [], ◌∷◌, ◌++◌, length, Option, Some, None, ◌⊎◌, inl, inr, refl, sym, ap, subst, arith}
use Rattle.std.specs.Prelude.{slice_index_or}
use Rattle.std.specs.List.{All, Contains}
use Rattle.std.proofs.lemmas.Bool.{cases_lt}
use Rattle.std.proofs.lemmas.List.Elements.{All-cons, All-contains, All-head, All-nil, All-tail, All-weaker, Contains-append_left, Contains-append_right, Contains-push}
use Rattle.std.proofs.lemmas.Option.{slice_get_within}
use Rattle.std.proofs.Math.Seq.{drop-cons}
use Rattle.bound_certificate.specs.Trees.{lines_of}
use Rattle.bound_certificate.specs.declared.certificate.Section.{Section}
use Rattle.bound_certificate.specs.declared.certificate.TreeLine.{TreeLine}
use Rattle.bound_certificate.specs.declared.certificate.TreeLine.TheVariants.{Split, Leaf}
use Rattle.ev_fleet.specs.Bounds.{HasBound, IsAtMost, IsNotBelow}
use Rattle.ev_fleet.specs.LeafNames.{IsLeastFrom, IsLesserAt, NameSections, leaf_names, lesser}
use Rattle.ev_fleet.specs.Searched.{SearchedTree, branches_of, fork, names_of, tip}
use Rattle.ev_fleet.specs.Standing.{IsLeastOf}
use Rattle.ev_fleet.proofs.Bounds.{most_most, most_same}

lesser_left : (a b : Option ℕ) → IsAtMost (lesser a b) a
lesser_left None b = tt
lesser_left (Some a) None = omega arith
lesser_left (Some a) (Some b) = grind arith

lesser_right : (a b : Option ℕ) → IsAtMost (lesser a b) b
lesser_right a None = tt
lesser_right None (Some b) = omega arith
lesser_right (Some a) (Some b) = grind arith

lesser_one : (a b : Option ℕ) → (lesser a b ≡ a) ⊎ (lesser a b ≡ b)
lesser_one None b = inr refl
lesser_one (Some a) None = inl refl
lesser_one (Some a) (Some b) = elim (cases_lt b a) [
  | inl less ↦ let same : min a b ≡ b = grind (arith, less) in inr (ap Some same)
  | inr le ↦ let same : min a b ≡ a = grind (arith, le) in inl (ap Some same)
]

none_most : (b : Option ℕ) → IsAtMost None b → b ≡ None
none_most None most = refl
none_most (Some b) most = absurd most

behind_before : (sections : List Section) (before : Option ℕ) (line : TreeLine) (behind : Option ℕ) → IsLesserAt sections before line behind → IsAtMost behind before
behind_before sections before (Split i j) behind is = subst (λ b. IsAtMost b before) (sym is) (most_same before)
behind_before sections before (Leaf number) behind is = subst (λ b. IsAtMost b before) (sym is.2) (lesser_left before is.0)

below_before : (sections : List Section) (before : Option ℕ) (lines : List TreeLine) (bound : Option ℕ) → IsLeastFrom sections before lines bound → IsAtMost bound before
below_before sections before [] bound is = subst (λ b. IsAtMost b before) (sym is) (most_same before)
below_before sections before (line ∷ lines) bound is =
    most_most bound is.0 before (below_before sections is.0 lines bound is.2) (behind_before sections before line is.0 is.1)

low_names : (sections : List Section) (before : Option ℕ) (lines : List TreeLine) (bound : Option ℕ) → IsLeastFrom sections before lines bound → All (IsNotBelow sections bound) (leaf_names lines)
low_names sections before [] bound is = All-nil (IsNotBelow sections bound)
low_names sections before (Split i j ∷ lines) bound is = low_names sections is.0 lines bound is.2
low_names sections before (Leaf number ∷ lines) bound is =
    let behind = is.0 in
    let at : IsAtMost behind is.1.0 = subst (λ b. IsAtMost b is.1.0) (sym is.1.2) (lesser_right before is.1.0) in
    let low : IsAtMost bound is.1.0 = most_most bound behind is.1.0 (below_before sections behind lines bound is.2) at in
    All-cons (IsNotBelow sections bound) number (leaf_names lines) (is.1.0, is.1.1, low) (low_names sections behind lines bound is.2)

-- one of the names has the bound
abbrev pub IsBoundOfSome : List Section → List ℕ → Option ℕ → Type 0
IsBoundOfSome sections names bound = (number : ℕ) × Contains names number × HasBound sections number bound

some_name : (sections : List Section) (before : Option ℕ) (lines : List TreeLine) (bound : Option ℕ) → IsLeastFrom sections before lines bound
    → (bound ≡ before) ⊎ IsBoundOfSome sections (leaf_names lines) bound
some_name sections before [] bound is = inl is
some_name sections before (Split i j ∷ lines) bound is = elim (some_name sections is.0 lines bound is.2) [
  | inl same ↦ inl (same ∙ is.1)
  | inr found ↦ inr found
]
some_name sections before (Leaf number ∷ lines) bound is = elim (some_name sections is.0 lines bound is.2) [
  | inl same ↦ elim (lesser_one before is.1.0) [
    | inl first ↦ inl (same ∙ is.1.2 ∙ first)
    | inr second ↦
        let own : bound ≡ is.1.0 = same ∙ is.1.2 ∙ second in
        inr (number, Contains-append_left (number ∷ []) (leaf_names lines) number (Contains-push [] number), subst (λ b. HasBound sections number b) (sym own) is.1.1)
  ]
  | inr found ↦ inr (found.0, Contains-append_right (number ∷ []) (leaf_names lines) found.0 found.1, found.2)
]

least_of_names : (sections : List Section) (lines : List TreeLine) (bound : Option ℕ) (first : ℕ) → Contains (leaf_names lines) first → IsLeastFrom sections None lines bound
    → IsLeastOf sections (leaf_names lines) bound
least_of_names sections lines bound first has is =
    let all = low_names sections None lines bound is in
    record {
      each = all;
      some = elim (some_name sections None lines bound is) [
        | inl none ↦
            let low = All-contains (IsNotBelow sections bound) (leaf_names lines) first all has in
            let at : IsAtMost None low.0 = subst (λ b. IsAtMost b low.0) none low.2 in
            let same : low.0 ≡ bound = none_most low.0 at ∙ sym none in
            (first, has, subst (λ b. HasBound sections first b) same low.1)
        | inr found ↦ found
      ];
    }

names-append : (xs ys : List TreeLine) → leaf_names (xs ++ ys) ≡ leaf_names xs ++ leaf_names ys
names-append [] ys = refl
names-append (Split i j ∷ xs) ys = names-append xs ys
names-append (Leaf number ∷ xs) ys = ap (λ ns. number ∷ ns) (names-append xs ys)

pub names-lines : (t : SearchedTree) → leaf_names (lines_of (branches_of t)) ≡ names_of t
names-lines (tip own name) = refl
names-lines (fork own i j apart together) =
    let both = names-append (lines_of (branches_of apart)) (lines_of (branches_of together)) in
    both ∙ ap (λ ns. ns ++ leaf_names (lines_of (branches_of together))) (names-lines apart) ∙ ap (λ ns. names_of apart ++ ns) (names-lines together)

some_leaf : (t : SearchedTree) → (number : ℕ) × Contains (names_of t) number
some_leaf (tip own name) = (name, Contains-push [] name)
some_leaf (fork own i j apart together) =
    let first = some_leaf apart in
    (first.0, Contains-append_left (names_of apart) (names_of together) first.0 first.1)

-- the bound is the least of those that the leaves of the tree name
pub least_of_tree : (sections : List Section) (lines : List TreeLine) (bound : Option ℕ) (t : SearchedTree) → lines ≡ lines_of (branches_of t) → IsLeastFrom sections None lines bound
    → IsLeastOf sections (names_of t) bound
least_of_tree sections lines bound t same is =
    let names : leaf_names lines ≡ names_of t = ap leaf_names same ∙ names-lines t in
    let first = some_leaf t in
    let has : Contains (leaf_names lines) first.0 = subst (λ ns. Contains ns first.0) (sym names) first.1 in
    subst (λ ns. IsLeastOf sections ns bound) names (least_of_names sections lines bound first.0 has is)

-- each leaf names a section
pub names_sections : (sections : List Section) (low : Option ℕ) (lines : List TreeLine) (t : SearchedTree) → lines ≡ lines_of (branches_of t) → All (IsNotBelow sections low) (names_of t)
    → NameSections sections lines
names_sections sections low lines t same all =
    let names : leaf_names lines ≡ names_of t = ap leaf_names same ∙ names-lines t in
    subst (λ ns. All (λ number. number < length sections) ns) (sym names)
    (All-weaker (IsNotBelow sections low) (λ number. number < length sections) (λ number has. slice_get_within sections number has.1.section has.1.here) (names_of t) all)

-- a list of lines from a place on
from_place : (lines : List TreeLine) (i : ℕ) (d : TreeLine) → i < length lines → drop i lines ≡ slice_index_or lines i d ∷ drop (i + 1) lines
from_place lines i d less =
    let next : suc i ≡ i + 1 = omega arith in
    drop-cons lines i d less ∙ ap (λ n. slice_index_or lines i d ∷ drop n lines) next

names_parts : (sections : List Section) (line : TreeLine) (lines : List TreeLine) → NameSections sections (line ∷ lines) → NameSections sections (line ∷ []) × NameSections sections lines
names_parts sections (Split i j) lines all = (All-nil (λ number. number < length sections), all)
names_parts sections (Leaf number) lines all = (
  All-cons (λ number. number < length sections) number [] (All-head (λ number. number < length sections) number (leaf_names lines) all) (All-nil (λ number. number < length sections)),
  All-tail (λ number. number < length sections) number (leaf_names lines) all,
)

-- at a place of a walk
module _ (sections : List Section) (lines : List TreeLine) (i : ℕ) (d : TreeLine) (less : i < length lines) (names : NameSections sections (drop i lines)) where
  parts : NameSections sections (slice_index_or lines i d ∷ []) × NameSections sections (drop (i + 1) lines)
  parts = names_parts sections (slice_index_or lines i d) (drop (i + 1) lines) (subst (λ ls. NameSections sections ls) (from_place lines i d less) names)

  pub names_here : NameSections sections (slice_index_or lines i d ∷ [])
  names_here = parts.0

  pub names_behind : NameSections sections (drop (i + 1) lines)
  names_behind = parts.1

pub least_behind : (sections : List Section) (lines : List TreeLine) (i : ℕ) (d : TreeLine) → i < length lines → (before behind : Option ℕ)
    → ((b : Option ℕ) → IsLeastFrom sections before (drop i lines) b → IsLeastFrom sections None lines b) → IsLesserAt sections before (slice_index_or lines i d) behind
    → (b : Option ℕ) → IsLeastFrom sections behind (drop (i + 1) lines) b → IsLeastFrom sections None lines b
least_behind sections lines i d less before behind old lesser b rest =
    old b (subst (λ ls. IsLeastFrom sections before ls b) (sym (from_place lines i d less)) (behind, lesser, rest))
