-- Entries of a basis that differ, and members of sets.
use Rattle.std.proofs.Common.{◌≡◌, ◌∙◌, ◌↔◌, ◌||◌, ℕ, ◌+◌, ◌-◌, ◌<◌, ◌≤◌, Bool, true, false, List, [], ◌∷◌, length, drop, get_or, nat_eq, refl, sym, ap, subst, take, add-one, drop-cons, length-drop, arith, IsTrue}
use Rattle.std.specs.List.{All, list_any}
use Rattle.std.proofs.Math.Seq.{take-length}
use Rattle.std.proofs.lemmas.Bool.{eqb-true, false≢true}
use Rattle.std.proofs.lemmas.List.Elements.{All-head, All-tail}
use Rattle.customer_sets.specs.CustSet.{IsCustomerSet, has}
use Rattle.certificate_parts.specs.Ranges.{AreDifferent, same_entry}
use Rattle.certificate_parts.specs.declared.entry.BasisEntry.{BasisEntry}

at_entry : (xs : List BasisEntry) (i : ℕ) (d : BasisEntry) → i < length xs → drop i xs ≡ get_or xs i d ∷ drop (i + 1) xs
at_entry xs i d within = rw add-one (drop-cons xs i d within)

-- the entries behind a place, as the code cuts them off
behind_entry : (xs : List BasisEntry) (n : ℕ) → take (length xs - n) (drop n xs) ≡ drop n xs
behind_entry xs n = ap (λ m. take m (drop n xs)) (sym (length-drop n xs)) ∙ take-length (drop n xs)

-- an entry that stands again
pub stands_again : (xs : List BasisEntry) (i : ℕ) (d : BasisEntry) → i < length xs → list_any (same_entry (get_or xs i d)) (take (length xs - (i + 1)) (drop (i + 1) xs)) ≡ true
    → (AreDifferent (drop i xs) ↔ AreDifferent xs) → IsTrue false ↔ AreDifferent xs
stands_again xs i d within again told = (
  λ no. absurd (false≢true no),
  λ all. let here = subst AreDifferent (at_entry xs i d within) (told.1 all) in absurd (false≢true (sym here.0 ∙ ap (λ ys. list_any (same_entry (get_or xs i d)) ys) (sym (behind_entry xs (i + 1))) ∙ again)),
)

-- and one that doesn't
pub stands_once : (xs : List BasisEntry) (i : ℕ) (d : BasisEntry) → i < length xs → list_any (same_entry (get_or xs i d)) (take (length xs - (i + 1)) (drop (i + 1) xs)) ≡ false
    → (AreDifferent (drop i xs) ↔ AreDifferent xs) → AreDifferent (drop (i + 1) xs) ↔ AreDifferent xs
stands_once xs i d within once told = (
  λ later. told.0 (subst AreDifferent (sym (at_entry xs i d within)) (ap (λ ys. list_any (same_entry (get_or xs i d)) ys) (sym (behind_entry xs (i + 1))) ∙ once, later)),
  λ all. (subst AreDifferent (at_entry xs i d within) (told.1 all)).1,
)

none_differ : (ys : List BasisEntry) → length ys ≡ 0 → AreDifferent ys
none_differ [] none = tt
none_differ (y ∷ ys) none = absurd (omega (arith, none))

pub all_differ : (xs : List BasisEntry) (i : ℕ) → length xs ≤ i → (AreDifferent (drop i xs) ↔ AreDifferent xs) → IsTrue true ↔ AreDifferent xs
all_differ xs i past told = (λ yes. told.0 (none_differ (drop i xs) (omega (arith, length-drop i xs))), λ all. refl)

-- a member of a set is below what all members are below
member_below : (xs : List ℕ) (c : ℕ) → All (λ x. x < 128) xs → has xs c ≡ true → c < 128
member_below [] c small here = absurd (false≢true here)
member_below (x ∷ xs) c small here = by (nat_eq x c) refl here (member_below xs c (All-tail (λ x. x < 128) x xs small))
  where
    by : (first : Bool) → nat_eq x c ≡ first → (first || has xs c) ≡ true → (has xs c ≡ true → c < 128) → c < 128
    by true it told later = let is_it : x ≡ c = eqb-true x c it in omega (arith, All-head (λ x. x < 128) x xs small)
    by false it told later = later told

-- where each member below 128 is below a number, each member is
pub members_below : (set : List ℕ) (number most : ℕ) → 128 ≤ number → (0 < number → IsCustomerSet set)
    → ((c : ℕ) → c < number → has set c ≡ true → c < most) → IsTrue true ↔ ((c : ℕ) → has set c ≡ true → c < most)
members_below set number most past valid low = (
  λ yes c here. let is = valid (omega arith) in let small = member_below set c is.small here in low c (omega arith) here,
  λ all. refl,
)
