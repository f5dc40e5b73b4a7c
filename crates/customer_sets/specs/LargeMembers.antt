-- Words of 64 digits as a set: the places of the digits that are 1, counted through all words.
use Rattle.std.specs.Prelude.{◌≡◌, ℕ, ◌+◌, ◌*◌, ◌/◌, ◌%◌, ◌<◌, ◌^◌, Bool, List, length, map, slice_index}
use Rattle.std.specs.List.{range_with_len, sum_by}
use Rattle.std.proofs.Common.{◌∙◌, ap, arith, sym}
use Rattle.std.proofs.lemmas.List.FromFn.{fill_by_all}
use Rattle.customer_sets.specs.CustSet.{has}
use Rattle.customer_sets.specs.Kept.{has_kept, kept, same_kept}
use Rattle.customer_sets.specs.Members.{digits_sum, is_one}

-- seven words of 64 digits
pub record AreWords (words : List ℕ) : Type 0 where
  pub seven : length words ≡ 7
  pub small : (i : ℕ) → i < 7 → slice_index words i < 2 ^ 64

-- the digit at a place is 1
abbrev pub has_digit : List ℕ → ℕ → Bool
has_digit words c = is_one (slice_index words (c / 64)) (c % 64)

unfoldable pub large_members : List ℕ → List ℕ
large_members words = kept (has_digit words) 0 448

-- the word with these digits: those of the set's members from 64 times its place on
abbrev pub is_digit : List ℕ → ℕ → ℕ → Bool
is_digit set i x = has set (64 * i + x)

unfoldable pub word_of : List ℕ → ℕ → ℕ
word_of set i = sum_by (λ x. 2 ^ x) (kept (is_digit set i) 0 64)

unfoldable pub words_of : List ℕ → List ℕ
words_of set = map (word_of set) (range_with_len 0 7)

digit_of_member : (words : List ℕ) (i x : ℕ) → i < 7 → x < 64 →
    is_digit (large_members words) i x ≡ is_one (slice_index words i) x
unfolding large_members
digit_of_member words i x low small =
    let inside : 64 * i + x < 448 = omega (arith, low, small) in
    let word : (64 * i + x) / 64 ≡ i = omega (arith, small) in
    let digit : (64 * i + x) % 64 ≡ x = omega (arith, small) in
    has_kept (has_digit words) 448 0 (64 * i + x) (omega arith) inside
    ∙ ap (λ j. is_one (slice_index words j) ((64 * i + x) % 64)) word
    ∙ ap (λ y. is_one (slice_index words i) y) digit

word_of-member : (words : List ℕ) (i : ℕ) → i < 7 → slice_index words i < 2 ^ 64 →
    word_of (large_members words) i ≡ slice_index words i
unfolding word_of
word_of-member words i low small =
    ap (λ xs. sum_by (λ x. 2 ^ x) xs)
    (same_kept (is_digit (large_members words) i) (is_one (slice_index words i)) 64 0 (λ x from to. digit_of_member words i x low to))
    ∙ digits_sum (slice_index words i) 64 small

pub words_of-members : (words : List ℕ) → AreWords words → words_of (large_members words) ≡ words
unfolding words_of
words_of-members words are =
    sym (fill_by_all (word_of (large_members words)) words 7 0 are.seven (λ i low. sym (word_of-member words i low (are.small i low))))
