-- The sets that are counted on the way, found and narrowed.
use Rattle.std.proofs.Common.{◌≡◌, ◌∙◌, ℕ, zero, suc, ◌+◌, ◌<◌, ◌≤◌, Bool, true, false, List, [], ◌∷◌, ◌++◌, None, Some, length, map, refl, sym, ap, subst, arith, inl, inr, nat_eq, get_or, drop, ◌↔◌}
use Rattle.std.specs.List.{All}
use Rattle.std.specs.List.Sorted.{IsStrictlyIncreasing}
use Rattle.std.specs.Prelude.{IsTrue, slice_index_or}
use Rattle.std.proofs.Math.ListN.{drop_of_length-le, set}
use Rattle.std.proofs.Math.Seq.{drop-cons}
use Rattle.std.proofs.lemmas.Bool.{and_from, and_parts, cases_Bool, eq-eqb, eqb-true, false≢true}
use Rattle.std.proofs.lemmas.List.Elements.{All-cons, All-head, All-nil, All-tail}
use Rattle.std.proofs.lemmas.Option.{none-some, same_Some}
use Rattle.customer_sets.specs.CustSet.{has, IsWithin}
use Rattle.certificate_parts.proofs.Chosen.{same_set as set_by_members}
use Rattle.ev_model.specs.Network.{Network}
use Rattle.fleet_model.specs.Places.{customer_count}
use Rattle.near_tree.specs.Branches.{Branch, count_of, Counted, counted_anew, is_same, whole}
use Rattle.near_tree.specs.Counting.{counted_as, counted_by, find_same, HasSmallCount, IsSmallCount, narrow_to}
use Rattle.near_tree.specs.Paths.{branch_along, branch_at, IsPath, IsPathFrom, IsTurnAt, turn_node, turned}
use Rattle.near_tree.specs.Preorder.{at_entries, at_leaf, at_split, Node}
use Rattle.near_tree.specs.Trees.{IsCount}
use Rattle.near_tree.specs.declared.counted.CountedSet.{CountedSet}
use Rattle.near_tree.specs.declared.path.Turn.{Turn}

-- ---- sets that are one

pub one_set : (cs ds : List ℕ) → is_same cs ds ≡ true → cs ≡ ds
one_set [] [] is = refl
one_set [] (d ∷ ds) is = absurd (false≢true is)
one_set (c ∷ cs) [] is = absurd (false≢true is)
one_set (c ∷ cs) (d ∷ ds) is =
    let parts = and_parts (nat_eq c d) (is_same cs ds) is in
    let first = eqb-true c d parts.0 in
    let rest = one_set cs ds parts.1 in
    cc

own_set : (cs : List ℕ) → is_same cs cs ≡ true
own_set [] = refl
own_set (c ∷ cs) = and_from (nat_eq c c) (is_same cs cs) (eq-eqb c c refl) (own_set cs)

not_same : (cs ds : List ℕ) → (cs ≡ ds → ⊥) → false ≡ is_same cs ds
not_same cs ds apart = elim (cases_Bool (is_same cs ds)) [
  | inl is ↦ absurd (apart (one_set cs ds is))
  | inr other ↦ sym other
]

members_same : (cs ds : List ℕ) → IsWithin cs ds → IsWithin ds cs → (c : ℕ) → has cs c ≡ has ds c
members_same cs ds one other c = elim (cases_Bool (has cs c)) [
  | inl is ↦ is ∙ sym (one c is)
  | inr none ↦ elim (cases_Bool (has ds c)) [
    | inl is ↦ absurd (false≢true (sym none ∙ other c is))
    | inr too ↦ none ∙ sym too
  ]
]

pub apart_by : (cs ds : List ℕ) (m n : ℕ) → m ≡ length cs → n ≡ length ds → (m ≡ n → ⊥) → false ≡ is_same cs ds
apart_by cs ds m n one other apart = not_same cs ds (λ same. apart (one ∙ ap length same ∙ sym other))

pub apart_within : (cs ds : List ℕ) → (IsWithin cs ds → ⊥) → false ≡ is_same cs ds
apart_within cs ds apart = not_same cs ds (λ same. apart (λ c is. subst (λ xs. has xs c ≡ true) same is))

pub apart_back : (cs ds : List ℕ) → (IsWithin ds cs → ⊥) → false ≡ is_same cs ds
apart_back cs ds apart = not_same cs ds (λ same. apart (λ c is. subst (λ xs. has xs c ≡ true) (sym same) is))

pub same_by : (cs ds : List ℕ) → IsStrictlyIncreasing cs → IsStrictlyIncreasing ds → IsWithin cs ds → IsWithin ds cs → true ≡ is_same cs ds
same_by cs ds rise rises one other =
    let same = set_by_members cs ds rise rises (members_same cs ds one other) in
    sym (subst (λ xs. is_same cs xs ≡ true) same (own_set cs))

pub same_told : (cs ds : List ℕ) → IsStrictlyIncreasing cs → IsStrictlyIncreasing ds → IsWithin cs ds → (b : Bool) → (IsTrue b ↔ IsWithin ds cs) → b ≡ is_same cs ds
same_told cs ds rise rises one true tells = same_by cs ds rise rises one (tells.0 refl)
same_told cs ds rise rises one false tells = apart_back cs ds (λ other. false≢true (tells.1 other))

-- ---- where a set is counted

abbrev pub IsAt : List CountedSet → List ℕ → ℕ → Type 0
IsAt [] s k = ⊥
IsAt (c ∷ cs) s zero = is_same c.set s ≡ true
IsAt (c ∷ cs) s (suc k) = (is_same c.set s ≡ false) × IsAt cs s k

to_at : (cs : List CountedSet) (s : List ℕ) (n m : ℕ) → find_same n cs s ≡ Some m → (k : ℕ) × (m ≡ n + k) × IsAt cs s k
to_at [] s n m is = absurd (none-some m is)
to_at (c ∷ cs) s n m is = elim (cases_Bool (is_same c.set s)) [
  | inl same ↦
      let here : Some n ≡ Some m = rw same at is in
      (0, omega (arith, same_Some n m here), same)
  | inr other ↦
      let later : find_same (n + 1) cs s ≡ Some m = rw other at is in
      let rest = to_at cs s (n + 1) m later in
      (suc rest.0, omega (arith, rest.1), (other, rest.2))
]

pub found_at : (cs : List CountedSet) (s : List ℕ) (k : ℕ) → find_same 0 cs s ≡ Some k → IsAt cs s k
found_at cs s k is =
    let found = to_at cs s 0 k is in
    let same : found.0 ≡ k = omega (arith, found.1) in
    subst (IsAt cs s) same found.2

pub at_less : (cs : List CountedSet) (s : List ℕ) (k : ℕ) → IsAt cs s k → k < length cs
at_less [] s k is = absurd is
at_less (c ∷ cs) s zero is = omega arith
at_less (c ∷ cs) s (suc k) is = omega (arith, at_less cs s k is.1)

at_set : (cs : List CountedSet) (s : List ℕ) (k : ℕ) (d : CountedSet) → IsAt cs s k → (slice_index_or cs k d).set ≡ s
at_set [] s k d is = absurd is
at_set (c ∷ cs) s zero d is = one_set c.set s is
at_set (c ∷ cs) s (suc k) d is = at_set cs s k d is.1

at_count : (cs : List CountedSet) (s : List ℕ) (k : ℕ) (d : CountedSet) → IsAt cs s k → count_of (map counted_as cs) s ≡ counted_as (slice_index_or cs k d)
at_count [] s k d is = absurd is
at_count (c ∷ cs) s zero d is = rw is refl
at_count (c ∷ cs) s (suc k) d is = rw (is.0) (at_count cs s k d is.1)

at_anew : (cs : List CountedSet) (s : List ℕ) (k : ℕ) (d : Counted) (e : CountedSet) → IsAt cs s k → d.set ≡ s → counted_as e ≡ d → counted_anew (map counted_as cs) d ≡ map counted_as (set cs k e)
at_anew [] s k d e is of same = absurd is
at_anew (c ∷ cs) s zero d e is of same =
    let here : is_same c.set d.set ≡ true = subst (λ xs. is_same c.set xs ≡ true) (sym of) is in
    rw here (ap (λ q. q ∷ map counted_as cs) (sym same))
at_anew (c ∷ cs) s (suc k) d e is of same =
    let here : is_same c.set d.set ≡ false = subst (λ xs. is_same c.set xs ≡ false) (sym of) (is.0) in
    rw here (ap (λ qs. counted_as c ∷ qs) (at_anew cs s k d e is.1 of same))

pub none_count : (cs : List CountedSet) (s : List ℕ) (n : ℕ) → find_same n cs s ≡ None → count_of (map counted_as cs) s ≡ record { set = s; least = 1; most = length s }
none_count [] s n none = refl
none_count (c ∷ cs) s n none = elim (cases_Bool (is_same c.set s)) [
  | inl same ↦ absurd (none-some n (sym (rw same at none)))
  | inr other ↦ rw other (none_count cs s (n + 1) (rw other at none))
]

none_anew : (cs : List CountedSet) (s : List ℕ) (n : ℕ) (d : Counted) (e : CountedSet) → find_same n cs s ≡ None → d.set ≡ s → counted_as e ≡ d → counted_anew (map counted_as cs) d ≡ map counted_as (cs ++ e ∷ [])
none_anew [] s n d e none of same = ap (λ q. q ∷ []) (sym same)
none_anew (c ∷ cs) s n d e none of same = elim (cases_Bool (is_same c.set s)) [
  | inl is ↦ absurd (none-some n (sym (rw is at none)))
  | inr other ↦
      let here : is_same c.set d.set ≡ false = subst (λ xs. is_same c.set xs ≡ false) (sym of) other in
      rw here (ap (λ qs. counted_as c ∷ qs) (none_anew cs s (n + 1) d e (rw other at none) of same))
]

-- counting anew narrows what was counted
narrowed_is : (cs : List Counted) (s : List ℕ) (k : ℕ) (more : Bool) (c : Counted) → count_of cs s ≡ c → c.set ≡ s → counted_by (at_entries k s) more cs ≡ counted_anew cs (narrow_to c k more)
narrowed_is cs s k true c count of =
    ap (λ (q : Counted). counted_anew cs (record { set = s; least = k + 1; most = q.most })) count
    ∙ ap (λ xs. counted_anew cs (record { set = xs; least = k + 1; most = c.most })) (sym of)
narrowed_is cs s k false c count of =
    ap (λ (q : Counted). counted_anew cs (record { set = s; least = q.least; most = k })) count
    ∙ ap (λ xs. counted_anew cs (record { set = xs; least = c.least; most = k })) (sym of)

narrowed_set : (c : Counted) (k : ℕ) (more : Bool) → (narrow_to c k more).set ≡ c.set
narrowed_set c k true = refl
narrowed_set c k false = refl

pub narrows_at : (cs : List CountedSet) (s : List ℕ) (at k : ℕ) (more : Bool) (c e : CountedSet) → find_same 0 cs s ≡ Some at → c ≡ slice_index_or cs at c → counted_as e ≡ narrow_to (counted_as c) k more
    → map counted_as (set cs at e) ≡ counted_by (at_entries k s) more (map counted_as cs)
narrows_at cs s at k more c e found is made =
    let here = found_at cs s at found in
    let of : c.set ≡ s = ap (λ (q : CountedSet). q.set) is ∙ at_set cs s at c here in
    let count : count_of (map counted_as cs) s ≡ counted_as c = at_count cs s at c here ∙ ap counted_as (sym is) in
    sym (narrowed_is (map counted_as cs) s k more (counted_as c) count of
    ∙ at_anew cs s at (narrow_to (counted_as c) k more) e here (narrowed_set (counted_as c) k more ∙ of) made)

pub narrows_new : (cs : List CountedSet) (s : List ℕ) (k : ℕ) (more : Bool) (c e : CountedSet) → find_same 0 cs s ≡ None → counted_as c ≡ record { set = s; least = 1; most = length s } → counted_as e ≡ narrow_to (counted_as c) k more
    → map counted_as (cs ++ e ∷ []) ≡ counted_by (at_entries k s) more (map counted_as cs)
narrows_new cs s k more c e none whole_is made =
    let of : c.set ≡ s = ap (λ (q : Counted). q.set) whole_is in
    let count : count_of (map counted_as cs) s ≡ counted_as c = none_count cs s 0 none ∙ sym whole_is in
    sym (narrowed_is (map counted_as cs) s k more (counted_as c) count of
    ∙ none_anew cs s 0 (narrow_to (counted_as c) k more) e none (narrowed_set (counted_as c) k more ∙ of) made)

-- ---- no count is above the number of customers

abbrev IsSmall : Counted → Type 0
IsSmall c = (c.least ≤ 448) × (c.most ≤ 448)

above : (xs : List ℕ) (k : ℕ) → IsStrictlyIncreasing xs → k < length xs → k ≤ get_or xs k 0
above xs zero rises less = omega arith
above xs (suc k) rises less =
    let low = above xs k rises (omega (arith, less)) in
    let same : k + 1 ≡ suc k = omega arith in
    let next : get_or xs k 0 < get_or xs (suc k) 0 = subst (λ n. get_or xs k 0 < get_or xs n 0) same (rises k (omega (arith, less))) in
    omega (arith, low, next)

pub rising_few : (xs : List ℕ) (n : ℕ) → IsStrictlyIncreasing xs → All (λ c. c < n) xs → length xs ≤ n
rising_few [] n rises known = omega arith
rising_few (x ∷ xs) n rises known =
    let low = above (x ∷ xs) (length xs) rises (omega arith) in
    let high : get_or (x ∷ xs) (length xs) 0 < n = known (length xs) 0 (omega arith) in
    omega (arith, low, high)

count_small : (cs : List Counted) (s : List ℕ) → All IsSmall cs → length s ≤ 448 → IsSmall (count_of cs s)
count_small [] s all few = (omega arith, few)
count_small (c ∷ cs) s all few = elim (cases_Bool (is_same c.set s)) [
  | inl same ↦ rw same (All-head IsSmall c cs all)
  | inr other ↦ rw other (count_small cs s (All-tail IsSmall c cs all) few)
]

anew_small : (cs : List Counted) (d : Counted) → All IsSmall cs → IsSmall d → All IsSmall (counted_anew cs d)
anew_small [] d all small = All-cons IsSmall d [] small (All-nil IsSmall)
anew_small (c ∷ cs) d all small =
    let rest = All-tail IsSmall c cs all in
    elim (cases_Bool (is_same c.set d.set)) [
      | inl same ↦ rw same (All-cons IsSmall d cs small rest)
      | inr other ↦ rw other (All-cons IsSmall c (counted_anew cs d) (All-head IsSmall c cs all) (anew_small cs d rest small))
    ]

turned_counted : (n : Node) (second : Bool) (b : Branch) → (turned n second b).counted ≡ counted_by n second b.counted
turned_counted (at_leaf s) second b = refl
turned_counted (at_split i j) true b = refl
turned_counted (at_split i j) false b = refl
turned_counted (at_entries k s) true b = refl
turned_counted (at_entries k s) false b = refl

set_few : (g : Network) (b : Branch) (k : ℕ) (s : List ℕ) → customer_count g < 448 → IsCount g b k s → length s ≤ 448
set_few g b k s few count = let low = rising_few s (customer_count g) count.rising count.known in omega (arith, low, few)

turn_small : (g : Network) (b : Branch) (n : Node) → customer_count g < 448 → IsTurnAt g b n → All IsSmall b.counted → HasSmallCount n
turn_small g b (at_leaf s) few turn all = tt
turn_small g b (at_split i j) few turn all = tt
turn_small g b (at_entries k s) few turn all =
    let range = count_small b.counted s all (set_few g b k s few turn) in
    let high = turn.most in
    omega (arith, high, range.1)

turned_small : (g : Network) (b : Branch) (n : Node) (second : Bool) → customer_count g < 448 → IsTurnAt g b n → All IsSmall b.counted → All IsSmall (turned n second b).counted
turned_small g b (at_leaf s) second few turn all = all
turned_small g b (at_split i j) true few turn all = all
turned_small g b (at_split i j) false few turn all = all
turned_small g b (at_entries k s) true few turn all =
    let range = count_small b.counted s all (set_few g b k s few turn) in
    let high = turn.most in
    anew_small b.counted (record { set = s; least = k + 1; most = (count_of b.counted s).most }) all (omega (arith, high, range.1), range.1)
turned_small g b (at_entries k s) false few turn all =
    let range = count_small b.counted s all (set_few g b k s few turn) in
    let high = turn.most in
    anew_small b.counted (record { set = s; least = (count_of b.counted s).least; most = k }) all (range.0, omega (arith, high, range.1))

small_back : (xs : List CountedSet) → All IsSmall (map counted_as xs) → All IsSmallCount xs
small_back [] all = All-nil IsSmallCount
small_back (x ∷ xs) all =
    let here = All-head IsSmall (counted_as x) (map counted_as xs) all in
    All-cons IsSmallCount x xs (record { least = here.0; most = here.1 }) (small_back xs (All-tail IsSmall (counted_as x) (map counted_as xs) all))

-- counted so far, with what is left of the way
pub record IsCountedTo (path left : List Turn) (counted : List CountedSet) : Type 0 where
  pub branch : Branch
  pub counts : map counted_as counted ≡ branch.counted
  pub rest : branch_along branch left ≡ branch_at path
  pub valid : (g : Network) → IsPath g path → IsPathFrom g branch left
  pub small : (g : Network) → customer_count g < 448 → IsPath g path → All IsSmall branch.counted

pub counted_none : (path : List Turn) (counted : List CountedSet) → counted ≡ [] → IsCountedTo path path counted
counted_none path counted none = record {
  branch = whole;
  counts = ap (map counted_as) none;
  rest = refl;
  valid = λ g is. is;
  small = λ g few is. All-nil IsSmall;
}

module _ (path left rest : List Turn) (t : Turn) (is : left ≡ t ∷ rest) (counted : List CountedSet) (before : IsCountedTo path left counted) where
  turn_at : (g : Network) → IsPath g path → IsTurnAt g before.branch (turn_node t) × IsPathFrom g (turned (turn_node t) t.second before.branch) rest
  turn_at g valid = subst (IsPathFrom g before.branch) is (before.valid g valid)

  pub next_small : (g : Network) → customer_count g < 448 → IsPath g path → HasSmallCount (turn_node t)
  next_small g few valid = turn_small g before.branch (turn_node t) few (turn_at g valid).0 (before.small g few valid)

  pub counted_more : (more : List CountedSet) → map counted_as more ≡ counted_by (turn_node t) t.second (map counted_as counted) → IsCountedTo path rest more
  counted_more more made = record {
    branch = turned (turn_node t) t.second before.branch;
    counts = made ∙ ap (counted_by (turn_node t) t.second) before.counts ∙ sym (turned_counted (turn_node t) t.second before.branch);
    rest = sym (ap (branch_along before.branch) is) ∙ before.rest;
    valid = λ g valid. (turn_at g valid).1;
    small = λ g few valid. turned_small g before.branch (turn_node t) t.second few (turn_at g valid).0 (before.small g few valid);
  }

module _ (path left : List Turn) (none : left ≡ []) (counted : List CountedSet) (before : IsCountedTo path left counted) where
  all_counted : branch_at path ≡ before.branch
  all_counted = sym before.rest ∙ ap (branch_along before.branch) none

  pub counted_is : map counted_as counted ≡ (branch_at path).counted
  counted_is = before.counts ∙ sym (ap (λ (b : Branch). b.counted) all_counted)

  pub counted_small : (g : Network) → customer_count g < 448 → IsPath g path → All IsSmallCount counted
  counted_small g few valid = small_back counted (subst (λ cs. All IsSmall cs) (sym before.counts) (before.small g few valid))

-- what is left of a list from an index on
pub left_at : (xs : List Turn) (i : ℕ) (x : Turn) → i < length xs → x ≡ get_or xs i x → drop i xs ≡ x ∷ drop (i + 1) xs
left_at xs i x less is =
    let one : suc i ≡ i + 1 = omega arith in
    drop-cons xs i x less ∙ ap (λ y. y ∷ drop (suc i) xs) (sym is) ∙ ap (λ k. x ∷ drop k xs) one

pub left_none : (xs : List Turn) (i : ℕ) → length xs ≤ i → drop i xs ≡ []
left_none xs i past = drop_of_length-le xs past
