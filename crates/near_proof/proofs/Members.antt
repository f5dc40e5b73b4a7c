-- Sets of customers that are made member by member, and who is remembered by them.
use Rattle.std.proofs.Common.{◌≡◌, ◌≢◌, ◌∙◌, ℕ, ◌+◌, ◌<◌, ◌≤◌, Bool, true, false, ◌&&◌, ◌||◌, List, [], ◌∷◌, refl, sym, ap, subst, arith, inl, inr, nat_eq, nat_lt}
use Rattle.std.specs.List.{All}
use Rattle.std.proofs.lemmas.Bool.{cases_Bool, cases_eq, cases_lt, eq-eqb, eqb-true, false≢true, le-ltb, lt-ltb, ne_eqb, or_cases}
use Rattle.std.proofs.lemmas.List.Elements.{All-head, All-tail}
use Rattle.customer_sets.specs.CustSet.{has, IsCustomerSet, IsWithin}
use Rattle.near_proof.specs.Routes.{KeepsMemory}
use Rattle.near_proof.specs.Terms.{near_set, remembered}
use Rattle.near_proof.proofs.Memories.{remembers_fewer}
use Rattle.near_proof.specs.Members.{AreMembers}
use Rattle.near_proof.proofs.LabelSteps.{is_remembered, remembers}

small_has : (set : List ℕ) (c : ℕ) → All (λ x. x < 128) set → has set c ≡ true → c < 128
small_has [] c all is = absurd (false≢true is)
small_has (x ∷ xs) c all is = elim (or_cases (nat_eq x c) (has xs c) is) [
  | inl same ↦ subst (λ y. y < 128) (eqb-true x c same) (All-head (λ y. y < 128) x xs all)
  | inr later ↦ small_has xs c (All-tail (λ y. y < 128) x xs all) later
]

below_next : (x c : ℕ) → c ≢ x → nat_lt x (c + 1) ≡ nat_lt x c
below_next x c apart = elim (cases_lt x c) [
  | inl less ↦ lt-ltb x (c + 1) (omega (arith, less)) ∙ sym (lt-ltb x c less)
  | inr more ↦ le-ltb x (c + 1) (omega (arith, more, apart)) ∙ sym (le-ltb x c more)
]

module _ (both one other : List ℕ) (c : ℕ) (is : (x : ℕ) → has both x ≡ (nat_lt x c && (has one x && has other x))) where
  pub one_more : (next : List ℕ) → (has one c && has other c) ≡ true → ((x : ℕ) → has next x ≡ (nat_eq c x || has both x)) → (x : ℕ) → has next x ≡ (nat_lt x (c + 1) && (has one x && has other x))
  one_more next shared with_c x = elim (cases_eq c x) [
    | inl same ↦
        let low : nat_lt x (c + 1) ≡ true = lt-ltb x (c + 1) (omega (arith, same)) in
        let its : (has one x && has other x) ≡ true = subst (λ y. (has one y && has other y) ≡ true) same shared in
        rw (with_c x, eq-eqb c x same, low, its) refl
    | inr apart ↦
        let rest : nat_lt x (c + 1) ≡ nat_lt x c = below_next x c apart in
        rw (with_c x, ne_eqb c x apart, is x, rest) refl
  ]

  pub no_more : (has one c && has other c) ≡ false → (x : ℕ) → has both x ≡ (nat_lt x (c + 1) && (has one x && has other x))
  no_more none x = elim (cases_eq c x) [
    | inl same ↦
        let its : (has one x && has other x) ≡ false = subst (λ y. (has one y && has other y) ≡ false) same none in
        let parts = is x in
        grind (arith, parts, its)
    | inr apart ↦ elim (cases_lt x c) [
      | inl less ↦ is x ∙ ap (λ b. b && (has one x && has other x)) (lt-ltb x c less ∙ sym (lt-ltb x (c + 1) (omega (arith, less))))
      | inr more ↦ is x ∙ ap (λ b. b && (has one x && has other x)) (le-ltb x c more ∙ sym (le-ltb x (c + 1) (omega (arith, more, apart))))
    ]
  ]

pub all_members : (both one other : List ℕ) (to : ℕ) → IsCustomerSet one → 128 ≤ to → ((x : ℕ) → has both x ≡ (nat_lt x to && (has one x && has other x))) → (x : ℕ) → has both x ≡ (has one x && has other x)
all_members both one other to set high is x = elim (cases_Bool (has one x)) [
  | inl there ↦
      let small = small_has one x set.small there in
      let low : nat_lt x to ≡ true = lt-ltb x to (omega (arith, small, high)) in
      is x ∙ ap (λ b. b && (has one x && has other x)) low
  | inr none ↦ let parts = is x in grind (arith, parts, none)
]

-- the members of a set below a number, none of whom is left out
pub are_members : (members set : List ℕ) (to : ℕ) → IsCustomerSet set → 128 ≤ to → ((x : ℕ) → has members x ≡ (nat_lt x to && has set x)) → All (λ x. x < 128) members → AreMembers members set
are_members members set to is high first small = record {
  same = λ x. elim (cases_Bool (has set x)) [
    | inl there ↦
        let less : x < 128 = small_has set x is.small there in
        let low : nat_lt x to ≡ true = lt-ltb x to (omega (arith, less, high)) in
        first x ∙ ap (λ b. b && has set x) low
    | inr none ↦ let parts = first x in grind (arith, parts, none)
  ];
  small = small;
}

-- only who is remembered counts, not in which order
pub keeps_same : (sets : List (List ℕ)) (a b cs : List ℕ) → IsWithin a b → KeepsMemory sets b cs → KeepsMemory sets a cs
keeps_same sets a b [] within keeps = tt
keeps_same sets a b (c ∷ cs) within keeps =
    let inner = within c in
    let new = keeps.0 in
    (grind (arith, inner, new), keeps_same sets (remembered sets a c) (remembered sets b c) cs (remembers_fewer sets a b c within) keeps.1)

same_truth : (a b : Bool) → (a ≡ true → b ≡ true) → (b ≡ true → a ≡ true) → a ≡ b
same_truth true b f h = sym (f refl)
same_truth false true f h = h refl
same_truth false false f h = refl

-- who is remembered, as a test
pub remembered_is : (sets : List (List ℕ)) (memory : List ℕ) (c d : ℕ) → has (remembered sets memory c) d ≡ (nat_eq c d || (has memory d && has (near_set sets c) d))
remembered_is sets memory c d = same_truth (has (remembered sets memory c) d) (nat_eq c d || (has memory d && has (near_set sets c) d)) (remembers sets memory c d) (is_remembered sets memory c d)
