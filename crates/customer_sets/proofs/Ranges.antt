-- The places of a number's digits that are 1, over any range of places.
use Rattle.std.proofs.Common.{◌≡◌, ◌∙◌, ℕ, zero, suc, ◌+◌, ◌*◌, ◌<◌, ◌≤◌, ◌^◌, Bool, true, false, ◌||◌, List, [], ◌∷◌, length, refl, sym, ap, arith, inl, inr, nat_eq}
use Rattle.std.specs.Int.{bit_at}
use Rattle.std.specs.Int.RustNames.{count_ones}
use Rattle.std.specs.List.{sum_by}
use Rattle.std.specs.Prelude.{bit_and, filter, min, not, ◌&&◌}
use Rattle.customer_sets.specs.Kept.{has_kept, kept, none_past, same_kept}
use Rattle.customer_sets.proofs.Tests.{kept_both, kept_set, with_kept}
use Rattle.std.proofs.lemmas.Bool.{cases_Bool, cases_eq, cases_lt, eq-eqb, eqb-true, ne_eqb, false≢true, lt-ltb, le-ltb}
use Rattle.std.proofs.lemmas.List.Sums.{sum_by-cons}
use Rattle.std.proofs.lemmas.Nat.{ones_cat}
use Rattle.std.proofs.lemmas.Nat.Bits.{bit_at-lt, bit_at_and, same_from_bits_below}
use Rattle.customer_sets.specs.CustSet.{has, IsCustomerSet, IsWithin, with_customer}
use Rattle.customer_sets.specs.Members.{bits_of, bits_of-members, digits, digits-all, digits-suc, digits-zero, is_one, members, members_from}

-- membership is one digit
pub has-members : (bits c : ℕ) → c < 128 → has (members bits) c ≡ is_one bits c
unfolding members members_from
has-members bits c small = has_kept (is_one bits) 128 0 c (omega arith) small

pub none-members : (bits c : ℕ) → 128 ≤ c → has (members bits) c ≡ false
unfolding members members_from
none-members bits c past = none_past (is_one bits) 128 0 c past

pub is_set : (bits : ℕ) → IsCustomerSet (members bits)
unfolding members members_from
is_set bits = let both = kept_set (is_one bits) 128 in record { rising = both.rising; small = both.small }

-- how many places there are
one_more : (d b : ℕ) → b < 2 → count_ones (d * 2 + b) ≡ count_ones d + b
unfolding count_ones
one_more d b low =
    let cat : count_ones (d * 2 ^ 1 + b) ≡ count_ones d + count_ones b = ones_cat 1 d b low in
    elim (cases_eq b 0) [
      | inl none ↦ cat ∙ ap (λ x. count_ones d + x) (ap count_ones none ∙ sym none)
      | inr some ↦ let one : b ≡ 1 = omega (arith, some, low) in cat ∙ ap (λ x. count_ones d + x) (ap count_ones one ∙ sym one)
    ]

length_from : (bits n a : ℕ) → count_ones (digits bits a n) ≡ length (members_from bits a n)
unfolding members_from count_ones
length_from bits zero a = ap count_ones (digits-zero bits a)
length_from bits (suc n) a =
    let more = ap count_ones (digits-suc bits a n) ∙ one_more (digits bits (a + 1) n) (bit_at bits a) (bit_at-lt bits a) in
    let rest = length_from bits n (a + 1) in
    elim (cases_eq (bit_at bits a) 1) [
      | inl one ↦ rw (eq-eqb (bit_at bits a) 1 one) (omega (arith, more, rest, one))
      | inr other ↦ rw (ne_eqb (bit_at bits a) 1 other) (omega (arith, more, rest, other, bit_at-lt bits a))
    ]

pub count_from : (bits n : ℕ) → bits < 2 ^ n → count_ones bits ≡ length (kept (is_one bits) 0 n)
unfolding members_from
count_from bits n below = ap count_ones (sym (digits-all bits n below)) ∙ length_from bits n 0

pub count-members : (bits : ℕ) → bits < 2 ^ 128 → count_ones bits ≡ length (members bits)
unfolding members members_from
count-members bits below = count_from bits 128 below

pub with-members : (bits more c : ℕ) → c < 128 → bit_at more c ≡ 1 → ((x : ℕ) → (x ≡ c → ⊥) → bit_at more x ≡ bit_at bits x) → members more ≡ with_customer c (members bits)
unfolding members members_from
with-members bits more c small here others =
    with_kept (is_one bits) (is_one more) 128 0 c (eq-eqb (bit_at more c) 1 here) (λ x other. ap (λ b. nat_eq b 1) (others x other)) (omega arith) small

-- the set is as before where the customer is in it
pub same-members : (bits more c : ℕ) → c < 128 → has (members bits) c ≡ true → bit_at more c ≡ 1 → ((x : ℕ) → (x ≡ c → ⊥) → bit_at more x ≡ bit_at bits x) → members more ≡ members bits
unfolding members members_from
same-members bits more c small in_it here others =
    let was : is_one bits c ≡ true = sym (has_kept (is_one bits) 128 0 c (omega arith) small) ∙ in_it in
    same_kept (is_one more) (is_one bits) 128 0 (λ x low high. elim (cases_eq x c) [
      | inl same ↦ ap (λ y. is_one more y) same ∙ eq-eqb (bit_at more c) 1 here ∙ sym was ∙ ap (λ y. is_one bits y) (sym same)
      | inr other ↦ ap (λ b. nat_eq b 1) (others x other)
    ])

-- a set within another
within_at : (a b c : ℕ) → bit_and a b ≡ a → bit_at a c ≡ 1 → bit_at b c ≡ 1
within_at a b c same one =
    let both = bit_at_and a b c in
    let here : bit_at (bit_and a b) c ≡ 1 = ap (λ x. bit_at x c) same ∙ one in
    omega (arith, both, here, bit_at-lt b c)

pub within-members : (a b : ℕ) → bit_and a b ≡ a → IsWithin (members a) (members b)
within-members a b same c in_it = elim (cases_lt c 128) [
  | inl small ↦
      let one = eqb-true (bit_at a c) 1 (sym (has-members a c small) ∙ in_it) in
      has-members b c small ∙ eq-eqb (bit_at b c) 1 (within_at a b c same one)
  | inr past ↦ absurd (false≢true (sym (none-members a c past) ∙ in_it))
]

pub members-within : (a b : ℕ) → a < 2 ^ 128 → bit_and a b < 2 ^ 128 → IsWithin (members a) (members b) → bit_and a b ≡ a
members-within a b below both_below within = same_from_bits_below 128 (bit_and a b) a both_below below (λ c small.
    let both = bit_at_and a b c in
    elim (cases_eq (bit_at a c) 1) [
      | inl one ↦
          let there = eqb-true (bit_at b c) 1 (sym (has-members b c small) ∙ within c (has-members a c small ∙ eq-eqb (bit_at a c) 1 one)) in
          omega (arith, both, one, there)
      | inr other ↦ omega (arith, both, other, bit_at-lt a c)
    ])

pub empty-members : (bits : ℕ) → bits < 2 ^ 128 → members bits ≡ [] → bits ≡ 0
unfolding bits_of
empty-members bits below none = sym (bits_of-members bits below) ∙ ap bits_of none

-- the laws of a further member, for any list
swapped : (a b rest : Bool) → (a || (b || rest)) ≡ (b || (a || rest))
swapped true true rest = refl
swapped true false rest = refl
swapped false b rest = refl

pub has-with_customer : (c : ℕ) (set : List ℕ) (x : ℕ) → has (with_customer c set) x ≡ (nat_eq c x || has set x)
has-with_customer c [] x = refl
has-with_customer c (y ∷ ys) x = elim (cases_lt c y) [
  | inl less ↦ rw (lt-ltb c y less) refl
  | inr more ↦ elim (cases_eq c y) [
    | inl same ↦ rw (le-ltb c y more, eq-eqb c y same, same) (elim (nat_eq y x) as (λ b. (b || has ys x) ≡ (b || (b || has ys x))) [ true ↦ refl | false ↦ refl ])
    | inr other ↦ rw (le-ltb c y more, ne_eqb c y other, has-with_customer c ys x) (swapped (nat_eq y x) (nat_eq c x) (has ys x))
  ]
]

pub sum_by-with_customer : (f : ℕ → ℕ) (c : ℕ) (set : List ℕ) → has set c ≡ false → sum_by f (with_customer c set) ≡ f c + sum_by f set
sum_by-with_customer f c [] new = sum_by-cons f c []
sum_by-with_customer f c (y ∷ ys) new = elim (cases_lt c y) [
  | inl less ↦ rw (lt-ltb c y less) (sum_by-cons f c (y ∷ ys))
  | inr more ↦ elim (cases_eq c y) [
    | inl same ↦ absurd (false≢true (sym new ∙ rw (eq-eqb y c (sym same)) refl))
    | inr other ↦
        let apart : nat_eq y c ≡ false = ne_eqb y c (λ is. other (sym is)) in
        let later : has ys c ≡ false = rw apart at new in
        rw (le-ltb c y more, ne_eqb c y other) (sum_by-cons f y (with_customer c ys) ∙ omega (arith, sum_by-with_customer f c ys later, sum_by-cons f y ys))
  ]
]

pub members-zero : members 0 ≡ []
unfolding members members_from
members-zero = refl

-- numbers whose digits are those of both, or those but one
both_pass : (x y z : ℕ) → x ≡ min y z → y < 2 → z < 2 → nat_eq x 1 ≡ (nat_eq y 1 && nat_eq z 1)
both_pass x y z is low high = elim (cases_eq y 1) [
  | inl one ↦ elim (cases_eq z 1) [
    | inl too ↦ rw (eq-eqb x 1 (omega (arith, is, one, too)), eq-eqb y 1 one, eq-eqb z 1 too) refl
    | inr none ↦ rw (ne_eqb x 1 (λ e. none (omega (arith, is, one, e))), eq-eqb y 1 one, ne_eqb z 1 none) refl
  ]
  | inr none ↦ rw (ne_eqb x 1 (λ e. none (omega (arith, is, e, low, high))), ne_eqb y 1 none) refl
]

pub is_one_both : (a b c : ℕ) → is_one (bit_and a b) c ≡ (is_one a c && is_one b c)
is_one_both a b c = both_pass (bit_at (bit_and a b) c) (bit_at a c) (bit_at b c) (bit_at_and a b c) (bit_at-lt a c) (bit_at-lt b c)

pub common-members : (a b : ℕ) → members (bit_and a b) ≡ filter (has (members b)) (members a)
unfolding members members_from
common-members a b =
    same_kept (is_one (bit_and a b)) (λ c. is_one a c && has (members b) c) 128 0 (λ c low high.
    is_one_both a b c ∙ ap (λ t. is_one a c && t) (sym (has-members b c high)))
    ∙ sym (kept_both (is_one a) (has (members b)) 128 0)

pub without_passes : (was is : Bool) (x c : ℕ) → (x ≡ c → is ≡ false) → ((x ≡ c → ⊥) → is ≡ was) → is ≡ (was && not (nat_eq x c))
without_passes was is x c here others = elim (cases_eq x c) [
  | inl same ↦ rw (here same, eq-eqb x c same) (elim was as (λ t. false ≡ (t && false)) [ true ↦ refl | false ↦ refl ])
  | inr apart ↦ rw (others apart, ne_eqb x c apart) (elim was as (λ t. t ≡ (t && true)) [ true ↦ refl | false ↦ refl ])
]

pub without-members : (bits less c : ℕ) → bit_at less c ≡ 0 → ((x : ℕ) → x < 128 → (x ≡ c → ⊥) → bit_at less x ≡ bit_at bits x) → members less ≡ filter (λ x. not (nat_eq x c)) (members bits)
unfolding members members_from
without-members bits less c here others =
    same_kept (is_one less) (λ x. is_one bits x && not (nat_eq x c)) 128 0 (λ x low high.
    without_passes (is_one bits x) (is_one less x) x c
    (λ same. ap (λ y. is_one less y) same ∙ ne_eqb (bit_at less c) 1 (λ e. omega (arith, e, here)))
    (λ apart. ap (λ b. nat_eq b 1) (others x high apart)))
    ∙ sym (kept_both (is_one bits) (λ x. not (nat_eq x c)) 128 0)

-- who is in a part of a set
pub has-filter : (test : ℕ → Bool) (set : List ℕ) (c : ℕ) → has (filter test set) c ≡ (has set c && test c)
has-filter test [] c = refl
has-filter test (x ∷ xs) c =
    let rest = has-filter test xs c in
    elim (cases_eq x c) [
      | inl same ↦ elim (cases_Bool (test x)) [
        | inl passes ↦ rw (passes, eq-eqb x c same) (sym (ap test (sym same) ∙ passes))
        | inr fails ↦
            let here : test c ≡ false = ap test (sym same) ∙ fails in
            rw (fails, eq-eqb x c same, rest, here) (elim (has xs c) as (λ t. (t && false) ≡ false) [ true ↦ refl | false ↦ refl ])
      ]
      | inr apart ↦ elim (cases_Bool (test x)) [
        | inl passes ↦ rw (passes, ne_eqb x c apart) rest
        | inr fails ↦ rw (fails, ne_eqb x c apart) rest
      ]
    ]
