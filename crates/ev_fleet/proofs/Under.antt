-- Each leaf names a section whose forbidden pairs are among the leaf's.
use Rattle.std.proofs.Common.{◌≡◌, ◌∙◌, ℕ, zero, suc, not, ◌&&◌, ◌||◌, nat_eq, option_map, Bool, true, List, [], ◌∷◌, Option, Some, None, sym, ap, subst}
use Rattle.std.specs.Prelude.{slice_get}
use Rattle.std.specs.List.{All}
use Rattle.std.proofs.lemmas.List.Elements.{All-cons, All-contains, All-head, All-weaker}
use Rattle.std.proofs.lemmas.Bool.{and_parts}
use Rattle.std.proofs.lemmas.Option.{none-some, same_Some}
use Rattle.customer_sets.specs.Pairs.{allows_of, forbid, require}
use Rattle.bound_certificate.specs.Meaning.{priced_section, priced_sections}
use Rattle.bound_certificate.specs.declared.certificate.Section.{Section}
use Rattle.fleet_model.specs.Section.{Section as PricedSection}
use Rattle.fleet_model.specs.Tree.{IsUnder, LeavesAreUnder}
use Rattle.ev_fleet.specs.Bounds.{HasSection, IsBoundOf, IsNotBelow}
use Rattle.ev_fleet.specs.Searched.{EachNode, SearchedTree, branches_of, fork, names_of, own_of, tip}
use Rattle.ev_fleet.specs.Standing.{HasOwnPairs, IsGreatestOf, NamesGreatest, on_the_way}
use Rattle.ev_fleet.proofs.Halves.{all_left, all_right}
use Rattle.ev_fleet.proofs.Numbers.{bounded}

pub get_priced : (sections : List Section) (number : ℕ) (s : Section) → slice_get sections number ≡ Some s → slice_get (priced_sections sections) number ≡ Some (priced_section s)
get_priced [] number s here = absurd (none-some s here)
get_priced (x ∷ sections) zero s here = ap (option_map priced_section) here
get_priced (x ∷ sections) (suc number) s here = get_priced sections number s here

-- the section allows what is allowed here
abbrev pub AllowsHere : List Section → (ℕ → ℕ → Bool) → ℕ → Type 0
AllowsHere sections allows number =
    HasSection sections number (λ s. (a b : ℕ) → allows a b ≡ true → allows_of s.pairs a b ≡ true)

weaker : (sections : List Section) (allows fewer : ℕ → ℕ → Bool) → ((a b : ℕ) → fewer a b ≡ true → allows a b ≡ true) → (number : ℕ) → AllowsHere sections allows number → AllowsHere sections fewer number
weaker sections allows fewer less number has = record { section = has.section; here = has.here; is = λ a b h. has.is a b (less a b h) }

own_allows : (n : ℕ) (sections : List Section) (allows : ℕ → ℕ → Bool) (own : ℕ) → HasOwnPairs n sections allows (Some own) → AllowsHere sections allows own
own_allows n sections allows own has = record { section = has.section; here = has.here; is = has.is.more }

on_way_allows : (n : ℕ) (sections : List Section) (allows : ℕ → ℕ → Bool) (own : Option ℕ) (above : List ℕ) → HasOwnPairs n sections allows own → All (AllowsHere sections allows) above
    → All (AllowsHere sections allows) (on_the_way own above)
on_way_allows n sections allows None above has upper = upper
on_way_allows n sections allows (Some own) above has upper = All-cons (AllowsHere sections allows) own above (own_allows n sections allows own has) upper

forbid_less : (i j : ℕ) (allows : ℕ → ℕ → Bool) (a b : ℕ) → forbid i j allows a b ≡ true → allows a b ≡ true
forbid_less i j allows a b h = (and_parts (allows a b) (not (nat_eq a i && nat_eq b j)) h).0

require_less : (i j : ℕ) (allows : ℕ → ℕ → Bool) (a b : ℕ) → require i j allows a b ≡ true → allows a b ≡ true
require_less i j allows a b h =
    (and_parts (allows a b) (nat_eq a b || (not (nat_eq a i && not (nat_eq b j)) && not (nat_eq b j && not (nat_eq a i)))) h).0

module _ (n : ℕ) (sections : List Section) (bound : Option ℕ) where
  named_under : (allows : ℕ → ℕ → Bool) (above : List ℕ) (own : Option ℕ) (name : ℕ) → HasOwnPairs n sections allows own → All (AllowsHere sections allows) above
      → IsGreatestOf sections (on_the_way own above) name → IsNotBelow sections bound name
      → (s : PricedSection) × (slice_get (priced_sections sections) name ≡ Some s) × IsUnder allows s bound
  named_under allows above own name has upper greatest low =
      let here = All-contains (AllowsHere sections allows) (on_the_way own above) name (on_way_allows n sections allows own above has upper) greatest.among in
      let found = low.1 in
      let same : found.section ≡ here.section = same_Some found.section here.section (sym found.here ∙ here.here) in
      let bounds : IsBoundOf (priced_section here.section) low.0 = subst (λ x. IsBoundOf (priced_section x) low.0) same found.is in (
        priced_section here.section,
        get_priced sections name here.section here.here,
        record { pairs = here.is; bounded = bounded (priced_section here.section) low.0 bound bounds low.2 },
      )

  pub leaves_under : (allows : ℕ → ℕ → Bool) (above : List ℕ) (t : SearchedTree) → EachNode (λ a b x. HasOwnPairs n sections a (own_of x)) allows above t
      → EachNode (λ a b x. NamesGreatest sections b x) allows above t → All (AllowsHere sections allows) above → All (IsNotBelow sections bound) (names_of t)
      → LeavesAreUnder (priced_sections sections) bound allows (branches_of t)
  leaves_under allows above (tip own name) has greatest upper low = named_under allows above own name has upper greatest (All-head (IsNotBelow sections bound) name [] low)
  leaves_under allows above (fork own i j apart together) has greatest upper low =
      let on_way : All (AllowsHere sections allows) (own ∷ above) = on_way_allows n sections allows (Some own) above has.0 upper in
      let first = All-weaker (AllowsHere sections allows) (AllowsHere sections (forbid i j allows)) (weaker sections allows (forbid i j allows) (forbid_less i j allows)) (own ∷ above) on_way in
      let second = All-weaker (AllowsHere sections allows) (AllowsHere sections (require i j allows)) (weaker sections allows (require i j allows) (require_less i j allows)) (own ∷ above) on_way in
      let low_apart : All (IsNotBelow sections bound) (names_of apart) = all_left (IsNotBelow sections bound) (names_of apart) (names_of together) low in
      let low_together : All (IsNotBelow sections bound) (names_of together) = all_right (IsNotBelow sections bound) (names_of apart) (names_of together) low in (
        leaves_under (forbid i j allows) (own ∷ above) apart has.1.0 greatest.1.0 first low_apart,
        leaves_under (require i j allows) (own ∷ above) together has.1.1 greatest.1.1 second low_together,
      )
