-- The digits of seven words, counted through.
use Rattle.std.proofs.Common.{◌≡◌, ◌≢◌, ◌∙◌, ℕ, ◌+◌, ◌*◌, ◌/◌, ◌%◌, ◌<◌, ◌≤◌, ◌^◌, true, false, ◌&&◌, List, [], ◌++◌, length, refl, sym, ap, subst, arith, inl, inr, nat_eq, length-append}
use Rattle.std.specs.Int.{bit_at, bit_not, w64}
use Rattle.std.specs.Int.RustNames.{count_ones}
use Rattle.std.specs.List.{filter}
use Rattle.std.specs.Prelude.{bit_and, bit_or, not, slice_index, slice_set}
use Rattle.std.proofs.Math.Nat.{mod-lt}
use Rattle.std.proofs.lemmas.Bool.{cases_eq, eq-eqb, eqb-true, ne_eqb, false≢true}
use Rattle.std.proofs.lemmas.List.{get_or-set_other, get_or-set_same, length-set}
use Rattle.std.proofs.lemmas.Nat.{and_le_l, or_lt, pow_pos}
use Rattle.std.proofs.lemmas.Nat.Bits.{bit_at-lt, bit_at-zero, bit_at_and, bit_at_clear_other, bit_at_clear_same, bit_at_set_other, bit_at_set_same, same_from_bits_below}
use Rattle.customer_sets.specs.CustSet.{has, IsWithin, with_customer}
use Rattle.customer_sets.specs.Kept.{has_kept, kept, same_kept}
use Rattle.customer_sets.specs.LargeMembers.{AreWords, has_digit, large_members}
use Rattle.customer_sets.specs.Members.{is_one}
use Rattle.customer_sets.specs.SetBelow.{IsSetBelow}
use Rattle.customer_sets.proofs.Ranges.{count_from, is_one_both, without_passes}
use Rattle.customer_sets.proofs.Tests.{kept_append, kept_both, kept_few, kept_moved, kept_none, kept_set, kept_within, none_kept, with_kept, within_kept}

pub has-large : (words : List ℕ) (c : ℕ) → c < 448 → has (large_members words) c ≡ has_digit words c
unfolding large_members
has-large words c small = has_kept (has_digit words) 448 0 c (omega arith) small

pub large_set : (words : List ℕ) → IsSetBelow 448 (large_members words)
unfolding large_members
large_set words = kept_set (has_digit words) 448

-- one word is another
digit_here : (words : List ℕ) (i v x : ℕ) → length words ≡ 7 → i < 7 → x / 64 ≡ i → has_digit (slice_set words i v) x ≡ is_one v (x % 64)
digit_here words i v x seven low at =
    let same : slice_index (slice_set words i v) i ≡ v = get_or-set_same words i v 0 (omega (arith, seven, low)) in
    ap (λ j. is_one (slice_index (slice_set words i v) j) (x % 64)) at ∙ ap (λ w. is_one w (x % 64)) same

digit_there : (words : List ℕ) (i v x : ℕ) → x / 64 ≢ i → has_digit (slice_set words i v) x ≡ has_digit words x
digit_there words i v x apart =
    let same : slice_index (slice_set words i v) (x / 64) ≡ slice_index words (x / 64) = get_or-set_other words i (x / 64) v 0 apart in
    ap (λ w. is_one w (x % 64)) same

-- the word at the place of c, with the digit of c and without it
abbrev word_with : List ℕ → ℕ → ℕ
word_with words c = bit_or (slice_index words (c / 64)) (1 * 2 ^ (c % 64) % 2 ^ 64)

abbrev word_without : List ℕ → ℕ → ℕ
word_without words c = bit_and (slice_index words (c / 64)) (bit_not w64 (1 * 2 ^ (c % 64) % 2 ^ 64))

place_apart : (x c : ℕ) → (x ≡ c → ⊥) → x / 64 ≡ c / 64 → x % 64 ≢ c % 64
place_apart x c apart same digit = apart (omega (arith, same, digit))

module _ (words : List ℕ) (c : ℕ) (are : AreWords words) (small : c < 448) where
  low : c / 64 < 7
  low = omega (arith, small)

  set_in : has_digit (slice_set words (c / 64) (word_with words c)) c ≡ true
  set_in =
      let one = bit_at_set_same w64 (slice_index words (c / 64)) (c % 64) (omega arith) in
      digit_here words (c / 64) (word_with words c) c are.seven low refl ∙ eq-eqb _ 1 one

  set_others : (x : ℕ) → (x ≡ c → ⊥) → has_digit (slice_set words (c / 64) (word_with words c)) x ≡ has_digit words x
  set_others x apart = elim (cases_eq (x / 64) (c / 64)) [
    | inl same ↦
        let digit = bit_at_set_other w64 (slice_index words (c / 64)) (c % 64) (omega arith) (x % 64) (place_apart x c apart same) in
        digit_here words (c / 64) (word_with words c) x are.seven low same
        ∙ ap (λ b. nat_eq b 1) digit
        ∙ ap (λ i. is_one (slice_index words i) (x % 64)) (sym same)
    | inr other ↦ digit_there words (c / 64) (word_with words c) x other
  ]

  pub with_words : large_members (slice_set words (c / 64) (word_with words c)) ≡ with_customer c (large_members words)
  unfolding large_members
  with_words = with_kept (has_digit words) (has_digit (slice_set words (c / 64) (word_with words c))) 448 0 c set_in set_others (omega arith) small

  pub same_words : has (large_members words) c ≡ true → large_members (slice_set words (c / 64) (word_with words c)) ≡ large_members words
  unfolding large_members
  same_words in_it =
      let was : has_digit words c ≡ true = sym (has_kept (has_digit words) 448 0 c (omega arith) small) ∙ in_it in
      same_kept (has_digit (slice_set words (c / 64) (word_with words c))) (has_digit words) 448 0 (λ x from to. elim (cases_eq x c) [
        | inl same ↦ ap (has_digit (slice_set words (c / 64) (word_with words c))) same ∙ set_in ∙ sym was ∙ ap (has_digit words) (sym same)
        | inr other ↦ set_others x other
      ])

  pub are_with : AreWords (slice_set words (c / 64) (word_with words c))
  are_with = record {
    seven = length-set words (c / 64) (word_with words c) ∙ are.seven;
    small = λ i below. elim (cases_eq i (c / 64)) [
      | inl same ↦
          let here : slice_index (slice_set words (c / 64) (word_with words c)) (c / 64) ≡ word_with words c = get_or-set_same words (c / 64) (word_with words c) 0 (omega (arith, are.seven, low)) in
          let less = or_lt 64 (slice_index words (c / 64)) (1 * 2 ^ (c % 64) % 2 ^ 64) (are.small (c / 64) low) (mod-lt (1 * 2 ^ (c % 64)) (pow_pos 64)) in
          subst (λ j. slice_index (slice_set words (c / 64) (word_with words c)) j < 2 ^ 64) (sym same) (subst (λ w. w < 2 ^ 64) (sym here) less)
      | inr other ↦
          let there : slice_index (slice_set words (c / 64) (word_with words c)) i ≡ slice_index words i = get_or-set_other words (c / 64) i (word_with words c) 0 other in
          subst (λ w. w < 2 ^ 64) (sym there) (are.small i below)
    ];
  }

  cleared : has_digit (slice_set words (c / 64) (word_without words c)) c ≡ false
  cleared =
      let none = bit_at_clear_same w64 (slice_index words (c / 64)) (c % 64) (omega arith) in
      digit_here words (c / 64) (word_without words c) c are.seven low refl ∙ ne_eqb _ 1 (λ e. omega (arith, e, none))

  left_others : (x : ℕ) → (x ≡ c → ⊥) → has_digit (slice_set words (c / 64) (word_without words c)) x ≡ has_digit words x
  left_others x apart = elim (cases_eq (x / 64) (c / 64)) [
    | inl same ↦
        let digit = bit_at_clear_other w64 (slice_index words (c / 64)) (c % 64) (omega arith) (x % 64) (omega arith) (place_apart x c apart same) in
        digit_here words (c / 64) (word_without words c) x are.seven low same
        ∙ ap (λ b. nat_eq b 1) digit
        ∙ ap (λ i. is_one (slice_index words i) (x % 64)) (sym same)
    | inr other ↦ digit_there words (c / 64) (word_without words c) x other
  ]

  pub without_words : large_members (slice_set words (c / 64) (word_without words c)) ≡ filter (λ x. not (nat_eq x c)) (large_members words)
  unfolding large_members
  without_words =
      let less = slice_set words (c / 64) (word_without words c) in
      same_kept (has_digit less) (λ x. has_digit words x && not (nat_eq x c)) 448 0 (λ x from to.
      without_passes (has_digit words x) (has_digit less x) x c (λ same. ap (has_digit less) same ∙ cleared) (λ apart. left_others x apart))
      ∙ sym (kept_both (has_digit words) (λ x. not (nat_eq x c)) 448 0)

-- words that share what two sets have
pub record AreShared (one other both : List ℕ) (to : ℕ) : Type 0 where
  pub seven : length both ≡ 7
  pub done : (k : ℕ) → k < to → slice_index both k ≡ bit_and (slice_index one k) (slice_index other k)
  pub left : (k : ℕ) → to ≤ k → slice_index both k ≡ slice_index one k

pub shared_more : (one other both : List ℕ) (i : ℕ) → i < 7 → AreShared one other both i → AreShared one other (slice_set both i (bit_and (slice_index both i) (slice_index other i))) (i + 1)
shared_more one other both i low shared =
    let v = bit_and (slice_index both i) (slice_index other i) in
    record {
      seven = length-set both i v ∙ shared.seven;
      done = λ k below. elim (cases_eq k i) [
        | inl same ↦
            let here : slice_index (slice_set both i v) i ≡ v = get_or-set_same both i v 0 (omega (arith, shared.seven, low)) in
            let before = shared.left i (omega arith) in
            ap (slice_index (slice_set both i v)) same ∙ here ∙ ap (λ w. bit_and w (slice_index other i)) before ∙ ap (λ j. bit_and (slice_index one j) (slice_index other j)) (sym same)
        | inr apart ↦ get_or-set_other both i k v 0 apart ∙ shared.done k (omega (arith, below, apart))
      ];
      left = λ k past. get_or-set_other both i k v 0 (λ same. omega (arith, same, past)) ∙ shared.left k (omega (arith, past));
    }

pub shared_none : (one other : List ℕ) → AreWords one → AreShared one other one 0
shared_none one other are = record { seven = are.seven; done = λ k low. absurd (omega (arith, low)); left = λ k past. refl }

pub are_shared : (one other both : List ℕ) (to : ℕ) → 7 ≤ to → AreWords one → AreShared one other both to → AreWords both
are_shared one other both to all are shared = record {
  seven = shared.seven;
  small = λ i low.
      let less = and_le_l (slice_index one i) (slice_index other i) in
      omega (arith, shared.done i (omega (arith, low, all)), less, are.small i low);
}

pub common_words : (one other both : List ℕ) (to : ℕ) → 7 ≤ to → AreShared one other both to → large_members both ≡ filter (has (large_members other)) (large_members one)
unfolding large_members
common_words one other both to all shared =
    same_kept (has_digit both) (λ c. has_digit one c && has (large_members other) c) 448 0 (λ c from small.
    let word = shared.done (c / 64) (omega (arith, small, all)) in
    ap (λ w. is_one w (c % 64)) word
    ∙ is_one_both (slice_index one (c / 64)) (slice_index other (c / 64)) (c % 64)
    ∙ ap (λ t. has_digit one c && t) (sym (has-large other c small)))
    ∙ sym (kept_both (has_digit one) (has (large_members other)) 448 0)

-- a set within another, word by word
one_within : (a b d : ℕ) → bit_and a b ≡ a → is_one a d ≡ true → is_one b d ≡ true
one_within a b d same one =
    let both = bit_at_and a b d in
    let digit : bit_at a d ≡ 1 = eqb-true (bit_at a d) 1 one in
    let here : bit_at (bit_and a b) d ≡ 1 = ap (λ x. bit_at x d) same ∙ digit in
    eq-eqb (bit_at b d) 1 (omega (arith, both, here, bit_at-lt b d))

pub words_within : (one other : List ℕ) → ((k : ℕ) → k < 7 → bit_and (slice_index one k) (slice_index other k) ≡ slice_index one k) → IsWithin (large_members one) (large_members other)
unfolding large_members
words_within one other each = kept_within (has_digit one) (has_digit other) 448 (λ c small is.
    one_within (slice_index one (c / 64)) (slice_index other (c / 64)) (c % 64) (each (c / 64) (omega (arith, small))) is)

pub within_words : (one other : List ℕ) (k : ℕ) → AreWords one → k < 7 → IsWithin (large_members one) (large_members other) → bit_and (slice_index one k) (slice_index other k) ≡ slice_index one k
unfolding large_members
within_words one other k are low within =
    let a = slice_index one k in
    let b = slice_index other k in
    let less = and_le_l a b in
    let own = are.small k low in
    same_from_bits_below 64 (bit_and a b) a (omega (arith, less, own)) own (λ d small.
    let both = bit_at_and a b d in
    let word : (64 * k + d) / 64 ≡ k = omega (arith, small) in
    let digit : (64 * k + d) % 64 ≡ d = omega (arith, small) in
    elim (cases_eq (bit_at a d) 1) [
      | inl one_is ↦
          let here : has_digit one (64 * k + d) ≡ true = ap (λ j. is_one (slice_index one j) ((64 * k + d) % 64)) word ∙ ap (λ e. is_one a e) digit ∙ eq-eqb (bit_at a d) 1 one_is in
          let there = within_kept (has_digit one) (has_digit other) 448 (64 * k + d) within (omega (arith, low, small)) here in
          let back : is_one b d ≡ true = sym (ap (λ j. is_one (slice_index other j) ((64 * k + d) % 64)) word ∙ ap (λ e. is_one b e) digit) ∙ there in
          omega (arith, both, one_is, eqb-true (bit_at b d) 1 back)
      | inr none ↦ omega (arith, both, none, bit_at-lt a d)
    ])

-- no member, word by word
zero_fails : (d : ℕ) → is_one 0 d ≡ false
zero_fails d = ne_eqb (bit_at 0 d) 1 (λ e. omega (arith, e, bit_at-zero d))

pub words_empty : (words : List ℕ) → ((k : ℕ) → k < 7 → slice_index words k ≡ 0) → large_members words ≡ []
unfolding large_members
words_empty words none = none_kept (has_digit words) 448 0 (λ c from small. ap (λ w. is_one w (c % 64)) (none (c / 64) (omega (arith, small))) ∙ zero_fails (c % 64))

pub empty_words : (words : List ℕ) (k : ℕ) → AreWords words → k < 7 → large_members words ≡ [] → slice_index words k ≡ 0
unfolding large_members
empty_words words k are low none =
    same_from_bits_below 64 (slice_index words k) 0 (are.small k low) (omega arith) (λ d small.
    let word : (64 * k + d) / 64 ≡ k = omega (arith, small) in
    let digit : (64 * k + d) % 64 ≡ d = omega (arith, small) in
    let fails = kept_none (has_digit words) 448 (64 * k + d) none (omega (arith, low, small)) in
    let here : is_one (slice_index words k) d ≡ false = sym (ap (λ j. is_one (slice_index words j) ((64 * k + d) % 64)) word ∙ ap (λ e. is_one (slice_index words k) e) digit) ∙ fails in
    elim (cases_eq (bit_at (slice_index words k) d) 1) [
      | inl one ↦ absurd (false≢true (sym here ∙ eq-eqb (bit_at (slice_index words k) d) 1 one))
      | inr other ↦ omega (arith, other, bit_at-lt (slice_index words k) d, bit_at-zero d)
    ])

-- how many members the first words have
abbrev pub count_to : List ℕ → ℕ → ℕ
count_to words i = length (kept (has_digit words) 0 (64 * i))

pub count_more : (words : List ℕ) (i : ℕ) → AreWords words → i < 7 → count_to words i + count_ones (slice_index words i) ≡ count_to words (i + 1)
count_more words i are low =
    let size : 64 * (i + 1) ≡ 64 * i + 64 = omega arith in
    let from : 0 + 64 * i ≡ 64 * i = omega arith in
    let parts : kept (has_digit words) 0 (64 * i + 64) ≡ kept (has_digit words) 0 (64 * i) ++ kept (has_digit words) (64 * i) 64 = rw from at (kept_append (has_digit words) (64 * i) 64 0) in
    let moved : length (kept (has_digit words) (64 * i + 0) 64) ≡ length (kept (is_one (slice_index words i)) 0 64) = kept_moved (has_digit words) (is_one (slice_index words i)) (64 * i) 64 0 (λ x past small.
    let word : (64 * i + x) / 64 ≡ i = omega (arith, small) in
    let digit : (64 * i + x) % 64 ≡ x = omega (arith, small) in
    ap (λ j. is_one (slice_index words j) ((64 * i + x) % 64)) word ∙ ap (λ e. is_one (slice_index words i) e) digit) in
    let start : 64 * i + 0 ≡ 64 * i = omega arith in
    let here : length (kept (has_digit words) (64 * i) 64) ≡ length (kept (is_one (slice_index words i)) 0 64) = rw start at moved in
    let count = count_from (slice_index words i) 64 (are.small i low) in
    let sum = length-append (kept (has_digit words) 0 (64 * i)) (kept (has_digit words) (64 * i) 64) in
    rw size (omega (arith, ap length parts, here, count, sum))

pub count_few : (words : List ℕ) (i : ℕ) → count_to words i ≤ 64 * i
count_few words i = kept_few (has_digit words) (64 * i) 0

pub count_none : (words : List ℕ) → 0 ≡ count_to words 0
count_none words = refl

pub count_all : (words : List ℕ) (i : ℕ) → i ≡ 7 → count_to words i ≡ length (large_members words)
unfolding large_members
count_all words i all = ap (count_to words) all
