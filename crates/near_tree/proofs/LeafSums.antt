-- Sums over counted sets with entry prices, one after another.
use Rattle.std.proofs.Common.{◌≡◌, ◌∙◌, ℕ, zero, suc, ◌+◌, ◌<◌, ◌≤◌, List, ◌∷◌, length, map, drop, refl, sym, ap, arith, get_or, true, false}
use Rattle.std.specs.Prelude.{ℤ, pos, negsuc, ◌+ℤ◌, ◌*ℤ◌, ◌<ℤ◌, ◌≤ℤ◌, if◌then◌else◌}
use Rattle.std.specs.Int.Signed.{lt_z}
use Rattle.std.proofs.Math.ListN.{drop_of_length-le}
use Rattle.std.proofs.Math.Seq.{drop-cons}
use Rattle.std.proofs.lemmas.Bool.{lt-ltb}
use Rattle.std.proofs.lemmas.Int.{ints}
use Rattle.near_tree.specs.Bounds.{entries_total}
use Rattle.near_tree.specs.Counting.{counted_as}
use Rattle.near_tree.specs.Follows.{entries_earned, entry_earned}
use Rattle.near_tree.specs.Sections.{Last}
use Rattle.near_tree.specs.declared.counted.CountedSet.{CountedSet}

cut : {A : Type 0} (xs : List A) (i : ℕ) (x : A) → i < length xs → x ≡ get_or xs i x → drop i xs ≡ x ∷ drop (i + 1) xs
cut xs i x less is =
    let one : suc i ≡ i + 1 = omega arith in
    drop-cons xs i x less ∙ ap (λ y. y ∷ drop (suc i) xs) (sym is) ∙ ap (λ k. x ∷ drop k xs) one

module _ (cs : List CountedSet) (ps : List ℤ) (i : ℕ) (c : CountedSet) (less : i < length cs) (is : c ≡ get_or cs i c) (low : i < length ps) where
  price : ℤ
  price = get_or ps i (pos 0)

  prices_cut : drop i ps ≡ get_or ps i (pos 0) ∷ drop (i + 1) ps
  prices_cut = let one : suc i ≡ i + 1 = omega arith in drop-cons ps i (pos 0) low ∙ ap (λ k. get_or ps i (pos 0) ∷ drop k ps) one

  pub earned_step : (l : Last) (j : ℕ) → entries_earned (map counted_as (drop i cs)) (drop i ps) l j ≡ entry_earned c.set (get_or ps i (pos 0)) l j +ℤ entries_earned (map counted_as (drop (i + 1) cs)) (drop (i + 1) ps) l j
  earned_step l j =
      ap (λ (xs : List CountedSet). entries_earned (map counted_as xs) (drop i ps) l j) (cut cs i c less is)
      ∙ ap (λ (qs : List ℤ). entries_earned (map counted_as (c ∷ drop (i + 1) cs)) qs l j) prices_cut

  pub total_step : entries_total (map counted_as (drop i cs)) (drop i ps) ≡ (get_or ps i (pos 0) *ℤ pos (if lt_z (pos 0) (get_or ps i (pos 0)) then c.least else c.most)) +ℤ entries_total (map counted_as (drop (i + 1) cs)) (drop (i + 1) ps)
  total_step =
      ap (λ (xs : List CountedSet). entries_total (map counted_as xs) (drop i ps)) (cut cs i c less is)
      ∙ ap (λ (qs : List ℤ). entries_total (map counted_as (c ∷ drop (i + 1) cs)) qs) prices_cut

pub earned_end : (cs : List CountedSet) (ps : List ℤ) (i : ℕ) (l : Last) (j : ℕ) → length cs ≤ i → entries_earned (map counted_as (drop i cs)) (drop i ps) l j ≡ pos 0
earned_end cs ps i l j past = ap (λ (xs : List CountedSet). entries_earned (map counted_as xs) (drop i ps) l j) (drop_of_length-le cs past)

pub total_end : (cs : List CountedSet) (ps : List ℤ) (i : ℕ) → length cs ≤ i → entries_total (map counted_as (drop i cs)) (drop i ps) ≡ pos 0
total_end cs ps i past = ap (λ (xs : List CountedSet). entries_total (map counted_as xs) (drop i ps)) (drop_of_length-le cs past)

-- a price above 0, as a test, and one that isn't
pub above_0 : (p : ℤ) → pos 0 <ℤ p → lt_z (pos 0) p ≡ true
above_0 (pos zero) more = absurd (omega (arith, ints, more))
above_0 (pos (suc n)) more = lt-ltb 0 (suc n) (omega arith)
above_0 (negsuc n) more = absurd (omega (arith, ints, more))

pub not_above_0 : (p : ℤ) → p ≤ℤ pos 0 → lt_z (pos 0) p ≡ false
not_above_0 (pos zero) less = refl
not_above_0 (pos (suc n)) less = absurd (omega (arith, ints, less))
not_above_0 (negsuc n) less = refl
