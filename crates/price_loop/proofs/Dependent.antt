-- More columns than customers are not independent: elimination without fractions (Bareiss 1968).
use Rattle.std.proofs.Common.{◌≡◌, ◌≢◌, ◌∙◌, ℕ, zero, suc, ◌<◌, arith, refl, sym, ap, subst, ℤ, pos, negsuc, neg_ℤ, ◌+ℤ◌, ◌-ℤ◌, ◌*ℤ◌, Bool, true, false, cond, List, [], ◌∷◌, ◌++◌, map, length, length-append, get_or, ◌⊎◌, inl, inr}
use Rattle.std.proofs.lemmas.Bool.{cases_eq}
use Rattle.std.proofs.lemmas.Int.{ints}
use Rattle.std.proofs.lemmas.List.{length-map}
use Rattle.fleet_model.specs.Basis.{AreIndependent, covering}
use Rattle.fleet_model.specs.Equations.{Column, helper, serves}
use Rattle.fleet_model.specs.Wide.{Follow}
use Rattle.fleet_model.proofs.Ring.{*ℤ-+ℤ, *ℤ--ℤ, *ℤ-zero_cases, *ℤ_assoc, *ℤ_comm, +ℤ-*ℤ, neg_ℤ-*ℤ}

-- ---- vectors, each with a number for each row, and their combinations
abbrev combination : List ℤ → List (ℕ → ℤ) → ℕ → ℤ
combination [] vs c = pos 0
combination (k ∷ ks) [] c = pos 0
combination (k ∷ ks) (v ∷ vs) c = k *ℤ v c +ℤ combination ks vs c

abbrev AllZero : List ℤ → Type 0
AllZero ks = (j : ℕ) → get_or ks j (pos 0) ≡ pos 0

-- factors, not all 0, that take the vectors together to 0 in each of n rows
record HasRelation (n : ℕ) (vs : List (ℕ → ℤ)) : Type 0 where
  ks : List ℤ
  count : length ks ≡ length vs
  nothing : (c : ℕ) → c < n → combination ks vs c ≡ pos 0
  some : AllZero ks → ⊥

-- factors of the vectors that combine them as a times u and ks times the rest
record IsSame (u : ℕ → ℤ) (rest : List (ℕ → ℤ)) (a : ℤ) (ks : List ℤ) (vs : List (ℕ → ℤ)) : Type 0 where
  ls : List ℤ
  count : length ls ≡ length vs
  same : (c : ℕ) → combination ls vs c ≡ a *ℤ u c +ℤ combination ks rest c
  zeros : AllZero ls → (a ≡ pos 0) × AllZero ks

-- one of the vectors isn't 0 in row m; the rest are the others
record HasPivot (m : ℕ) (vs : List (ℕ → ℤ)) : Type 0 where
  u : ℕ → ℤ
  rest : List (ℕ → ℤ)
  other : u m ≢ pos 0
  count : suc (length rest) ≡ length vs
  back : (a : ℤ) (ks : List ℤ) → length ks ≡ length rest → IsSame u rest a ks vs

abbrev AreZeroAt : ℕ → List (ℕ → ℤ) → Type 0
AreZeroAt m [] = Unit {0}
AreZeroAt m (v ∷ vs) = (v m ≡ pos 0) × AreZeroAt m vs

at_head : (a : ℤ) (ks : List ℤ) → AllZero (a ∷ ks) → (a ≡ pos 0) × AllZero ks
at_head a ks none = (none 0, λ j. none (suc j))

from_head : (a : ℤ) (ks : List ℤ) → a ≡ pos 0 → AllZero ks → AllZero (a ∷ ks)
from_head a ks first later zero = first
from_head a ks first later (suc j) = later j

swapped : (x y z : ℤ) → x +ℤ (y +ℤ z) ≡ y +ℤ (x +ℤ z)
swapped x y z = omega (arith, ints)

one_further : (v u : ℕ → ℤ) (rest vs : List (ℕ → ℤ)) (a b : ℤ) (ks : List ℤ) → IsSame u rest a ks vs → IsSame u (v ∷ rest) a (b ∷ ks) (v ∷ vs)
one_further v u rest vs a b ks is = record {
  ls = b ∷ is.ls;
  count = ap suc is.count;
  same = λ c. ap (λ z. b *ℤ v c +ℤ z) (is.same c) ∙ swapped (b *ℤ v c) (a *ℤ u c) (combination ks rest c);
  zeros = λ none.
      let parts = at_head b is.ls none in
      let inner = is.zeros parts.1 in
      (inner.0, from_head b ks parts.0 inner.1);
}

head_back : (v : ℕ → ℤ) (vs : List (ℕ → ℤ)) (a : ℤ) (ks : List ℤ) → length ks ≡ length vs → IsSame v vs a ks (v ∷ vs)
head_back v vs a ks count = record {
  ls = a ∷ ks;
  count = ap suc count;
  same = λ c. refl;
  zeros = λ none. at_head a ks none;
}

further_back : (m : ℕ) (v : ℕ → ℤ) (vs : List (ℕ → ℤ)) (p : HasPivot m vs) (a : ℤ) (ks : List ℤ) → length ks ≡ length (v ∷ p.rest) → IsSame p.u (v ∷ p.rest) a ks (v ∷ vs)
further_back m v vs p a [] count = absurd (omega (arith, count))
further_back m v vs p a (b ∷ ks) count = one_further v p.u p.rest vs a b ks (p.back a ks (omega (arith, count)))

zero_or_not : (z : ℤ) → (z ≡ pos 0) ⊎ (z ≢ pos 0)
zero_or_not (pos zero) = inl refl
zero_or_not (pos (suc k)) = inr (λ e. absurd (omega (arith, ints, e)))
zero_or_not (negsuc k) = inr (λ e. absurd (omega (arith, ints, e)))

find : (m : ℕ) (vs : List (ℕ → ℤ)) → HasPivot m vs ⊎ AreZeroAt m vs
find m [] = inr tt
find m (v ∷ vs) = elim (zero_or_not (v m)) [
  | inr other ↦ inl (record { u = v; rest = vs; other = other; count = refl; back = head_back v vs })
  | inl zero_is ↦ elim (find m vs) [
    | inl p ↦ inl (record { u = p.u; rest = v ∷ p.rest; other = p.other; count = ap suc p.count; back = further_back m v vs p })
    | inr all ↦ inr (zero_is, all)
  ]
]

zero_row : (m : ℕ) (ks : List ℤ) (vs : List (ℕ → ℤ)) → AreZeroAt m vs → combination ks vs m ≡ pos 0
zero_row m [] vs all = refl
zero_row m (k ∷ ks) [] all = refl
zero_row m (k ∷ ks) (v ∷ vs) all =
    let here : k *ℤ v m ≡ pos 0 = ap (λ z. k *ℤ z) all.0 ∙ omega (arith, ints) in
    let rest = zero_row m ks vs all.1 in
    omega (arith, ints, here, rest)

-- ---- the pivot is taken out of the rest
abbrev reduced : ℕ → (ℕ → ℤ) → (ℕ → ℤ) → ℕ → ℤ
reduced m u v c = u m *ℤ v c -ℤ v m *ℤ u c

turned : (k x y : ℤ) → k *ℤ (x *ℤ y) ≡ x *ℤ (k *ℤ y)
turned k x y = sym (*ℤ_assoc k x y) ∙ ap (λ z. z *ℤ y) (*ℤ_comm k x) ∙ *ℤ_assoc x k y

step : (k um vc vm uc r rm : ℤ) → k *ℤ (um *ℤ vc -ℤ vm *ℤ uc) +ℤ (um *ℤ r -ℤ rm *ℤ uc) ≡ um *ℤ (k *ℤ vc +ℤ r) -ℤ (k *ℤ vm +ℤ rm) *ℤ uc
step k um vc vm uc r rm =
    let a = *ℤ--ℤ k (um *ℤ vc) (vm *ℤ uc) in
    let b = turned k um vc in
    let d = *ℤ_assoc k vm uc in
    let e = *ℤ-+ℤ um (k *ℤ vc) r in
    let f = +ℤ-*ℤ (k *ℤ vm) rm uc in
    omega (arith, ints, a, b, d, e, f)

nothing_left : (um uc : ℤ) → um *ℤ pos 0 -ℤ pos 0 *ℤ uc ≡ pos 0
nothing_left um uc = omega (arith, ints)

combined : (m c : ℕ) (u : ℕ → ℤ) (ks : List ℤ) (vs : List (ℕ → ℤ)) → combination ks (map (reduced m u) vs) c ≡ u m *ℤ combination ks vs c -ℤ combination ks vs m *ℤ u c
combined m c u [] vs = sym (nothing_left (u m) (u c))
combined m c u (k ∷ ks) [] = sym (nothing_left (u m) (u c))
combined m c u (k ∷ ks) (v ∷ vs) =
    ap (λ z. k *ℤ reduced m u v c +ℤ z) (combined m c u ks vs) ∙ step k (u m) (v c) (v m) (u c) (combination ks vs c) (combination ks vs m)

scaled : (f : ℤ) (ks : List ℤ) (vs : List (ℕ → ℤ)) (c : ℕ) → combination (map (λ k. f *ℤ k) ks) vs c ≡ f *ℤ combination ks vs c
scaled f [] vs c = omega (arith, ints)
scaled f (k ∷ ks) [] c = omega (arith, ints)
scaled f (k ∷ ks) (v ∷ vs) c =
    let rest = scaled f ks vs c in
    let here = *ℤ_assoc f k (v c) in
    let split = *ℤ-+ℤ f (k *ℤ v c) (combination ks vs c) in
    omega (arith, ints, rest, here, split)

unscaled : (f : ℤ) → f ≢ pos 0 → (ks : List ℤ) → AllZero (map (λ k. f *ℤ k) ks) → AllZero ks
unscaled f other [] none zero = refl
unscaled f other [] none (suc j) = refl
unscaled f other (k ∷ ks) none zero = elim (*ℤ-zero_cases f k (none 0)) [ inl is ↦ absurd (other is) | inr is ↦ is ]
unscaled f other (k ∷ ks) none (suc j) = unscaled f other ks (λ i. none (suc i)) j

-- ---- a relation of the reduced rest gives one of all
module _ (m : ℕ) (vs : List (ℕ → ℤ)) (p : HasPivot m vs) (r : HasRelation m (map (reduced m p.u) p.rest)) where
  abbrev f : ℤ
  f = p.u m

  abbrev own : ℤ
  own = combination r.ks p.rest m

  count_rest : length (map (λ k. f *ℤ k) r.ks) ≡ length p.rest
  count_rest = length-map r.ks (λ k. f *ℤ k) ∙ r.count ∙ length-map p.rest (reduced m p.u)

  whole : IsSame p.u p.rest (neg_ℤ own) (map (λ k. f *ℤ k) r.ks) vs
  whole = p.back (neg_ℤ own) (map (λ k. f *ℤ k) r.ks) count_rest

  turned_round : (c : ℕ) → combination whole.ls vs c ≡ f *ℤ combination r.ks p.rest c -ℤ own *ℤ p.u c
  turned_round c =
      let a = whole.same c in
      let b = neg_ℤ-*ℤ own (p.u c) in
      let d = scaled f r.ks p.rest c in
      omega (arith, ints, a, b, d)

  gone : (c : ℕ) → c < suc m → combination whole.ls vs c ≡ pos 0
  gone c less = elim (cases_eq c m) [
    | inl same ↦ subst (λ k. combination whole.ls vs k ≡ pos 0) (sym same) (let a = turned_round m in let b = *ℤ_comm f own in omega (arith, ints, a, b))
    | inr apart ↦ turned_round c ∙ sym (combined m c p.u r.ks p.rest) ∙ r.nothing c (omega (arith, less, apart))
  ]

  from_rest : HasRelation (suc m) vs
  from_rest = record {
    ks = whole.ls;
    count = whole.count;
    nothing = gone;
    some = λ none. r.some (unscaled f p.other r.ks (whole.zeros none).1);
  }

zeros_like : List (ℕ → ℤ) → List ℤ
zeros_like [] = []
zeros_like (v ∷ vs) = pos 0 ∷ zeros_like vs

count_zeros : (vs : List (ℕ → ℤ)) → length (zeros_like vs) ≡ length vs
unfolding zeros_like
count_zeros [] = refl
count_zeros (v ∷ vs) = ap suc (count_zeros vs)

below_more : (m : ℕ) (vs : List (ℕ → ℤ)) → AreZeroAt m vs → HasRelation m vs → HasRelation (suc m) vs
below_more m vs all r = record {
  ks = r.ks;
  count = r.count;
  nothing = λ c less. elim (cases_eq c m) [
    | inl same ↦ subst (λ k. combination r.ks vs k ≡ pos 0) (sym same) (zero_row m r.ks vs all)
    | inr apart ↦ r.nothing c (omega (arith, less, apart))
  ];
  some = r.some;
}

relation : (n : ℕ) (vs : List (ℕ → ℤ)) → n < length vs → HasRelation n vs
relation zero [] less = absurd (omega (arith, less))
relation zero (v ∷ vs) less = record {
  ks = pos 1 ∷ zeros_like vs;
  count = ap suc (count_zeros vs);
  nothing = λ c small. absurd (omega (arith, small));
  some = λ none. absurd (let first = none 0 in omega (arith, ints, first));
}
relation (suc m) vs less = by_cases (find m vs) (relation m)
  where
    by_cases : HasPivot m vs ⊎ AreZeroAt m vs → ((ws : List (ℕ → ℤ)) → m < length ws → HasRelation m ws) → HasRelation (suc m) vs
    by_cases (inr all) before = below_more m vs all (before vs (omega (arith, less)))
    by_cases (inl p) before =
        let many : m < length (map (reduced m p.u) p.rest) = (let e = length-map p.rest (reduced m p.u) in let k = p.count in omega (arith, e, k, less)) in
        from_rest m vs p (before (map (reduced m p.u) p.rest) many)

-- ---- columns
abbrev vector : Column → ℕ → ℤ
vector b c = cond (serves b c) (pos 1) (pos 0)

chosen : (t : Bool) (k : ℤ) → cond t k (pos 0) ≡ k *ℤ cond t (pos 1) (pos 0)
chosen true k = omega (arith, ints)
chosen false k = omega (arith, ints)

covers : (ks : List ℤ) (bs : List Column) (c : ℕ) → covering ks bs c ≡ combination ks (map vector bs) c
covers [] bs c = refl
covers (k ∷ ks) [] c = refl
covers (k ∷ ks) (b ∷ bs) c =
    let here = chosen (serves b c) k in
    let rest = covers ks bs c in
    omega (arith, ints, here, rest)

pub dependent : (n : ℕ) (bs : List Column) → n < length bs → AreIndependent n bs → ⊥
dependent n bs less free =
    let e = length-map bs vector in
    let r = relation n (map vector bs) (omega (arith, less, e)) in
    r.some (free r.ks (r.count ∙ e) (λ c small. covers r.ks bs c ∙ r.nothing c small))

-- behind as many columns as there are customers, no helper follows
pub none_follow : (n more c : ℕ) (before : List Column) → length before ≡ n → Follow n more c before []
none_follow n zero c before count = tt
none_follow n (suc more) c before count = (
  dependent n (before ++ helper c ∷ []) (let e = length-append before (helper c ∷ []) in omega (arith, e, count)),
  none_follow n more (suc c) before count,
)
