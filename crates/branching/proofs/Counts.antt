-- Fewer pairs are allowed in each child of a node than in the node.
use Rattle.std.proofs.Common.{◌≡◌, ◌∙◌, ℕ, zero, suc, ◌<◌, ◌≤◌, Bool, true, false, not, ◌&&◌, ◌||◌, inl, inr, refl, sym, subst, arith}
use Rattle.std.specs.Prelude.{cond, nat_eq}
use Rattle.std.specs.Int.{sum_through}
use Rattle.std.proofs.lemmas.Bool.{cases_eq, eq-eqb, and_parts}
use Rattle.customer_sets.specs.Pairs.{ForbiddenPairs, allows_of, forbid}
use Rattle.branching.specs.SearchTree.{AreChildren, IsBranchPair}
use Rattle.branching.specs.Work.{allowed_pairs}
use Rattle.branching.specs.declared.node.Node.{Node}

sum_le : (f g : ℕ → ℕ) (n : ℕ) → ((a : ℕ) → a ≤ n → f a ≤ g a) → sum_through f n ≤ sum_through g n
sum_le f g zero h = h 0 (omega arith)
sum_le f g (suc n) h =
    let rest = sum_le f g n (λ a le. h a (omega (arith, le))) in
    let here = h (suc n) (omega arith) in
    omega (arith, rest, here)

sum_lt : (f g : ℕ → ℕ) (n k : ℕ) → k ≤ n → ((a : ℕ) → a ≤ n → f a ≤ g a) → f k < g k → sum_through f n < sum_through g n
sum_lt f g zero k le h lt =
    let is : k ≡ 0 = omega (arith, le) in
    subst (λ x. f x < g x) is lt
sum_lt f g (suc n) k le h lt = elim (cases_eq k (suc n)) [
  | inl is ↦
      let here : f (suc n) < g (suc n) = subst (λ x. f x < g x) is lt in
      let rest = sum_le f g n (λ a l. h a (omega (arith, l))) in
      omega (arith, rest, here)
  | inr apart ↦
      let rest = sum_lt f g n k (omega (arith, le, apart)) (λ a l. h a (omega (arith, l))) lt in
      let here = h (suc n) (omega arith) in
      omega (arith, rest, here)
]

one_le : (s t : Bool) → (s ≡ true → t ≡ true) → cond s 1 0 ≤ cond t 1 0
one_le true t h = rw (h refl) (omega arith)
one_le false t h = omega arith

counted : (n : ℕ) (new old : ℕ → ℕ → Bool) → ((a b : ℕ) → a ≤ n → b ≤ n → new a b ≡ true → old a b ≡ true) → (a b : ℕ) → a ≤ n → b ≤ n → old a b ≡ true → new a b ≡ false
    → sum_through (λ x. sum_through (λ y. cond (new x y) 1 0) n) n < sum_through (λ x. sum_through (λ y. cond (old x y) 1 0) n) n
counted n new old h a b la lb was now =
    let row : (x : ℕ) → x ≤ n → sum_through (λ y. cond (new x y) 1 0) n ≤ sum_through (λ y. cond (old x y) 1 0) n = λ x lx. sum_le (λ y. cond (new x y) 1 0) (λ y. cond (old x y) 1 0) n (λ y ly. one_le (new x y) (old x y) (h x y lx ly)) in
    let one : cond (new a b) 1 0 < cond (old a b) 1 0 = rw (was, now) (omega arith) in
    let less : sum_through (λ y. cond (new a y) 1 0) n < sum_through (λ y. cond (old a y) 1 0) n = sum_lt (λ y. cond (new a y) 1 0) (λ y. cond (old a y) 1 0) n b lb (λ y ly. one_le (new a y) (old a y) (h a y la ly)) one in
    sum_lt (λ x. sum_through (λ y. cond (new x y) 1 0) n) (λ x. sum_through (λ y. cond (old x y) 1 0) n) n a la row less

fewer : (p q : ForbiddenPairs) → q.customers ≡ p.customers → ((a b : ℕ) → a ≤ p.customers → b ≤ p.customers → allows_of q a b ≡ true → allows_of p a b ≡ true)
    → (a b : ℕ) → a ≤ p.customers → b ≤ p.customers → allows_of p a b ≡ true → allows_of q a b ≡ false → allowed_pairs q < allowed_pairs p
unfolding allowed_pairs
fewer p q among h a b la lb was now =
    let less = counted p.customers (allows_of q) (allows_of p) h a b la lb was now in
    subst (λ n. sum_through (λ x. sum_through (λ y. cond (allows_of q x y) 1 0) n) n < sum_through (λ x. sum_through (λ y. cond (allows_of p x y) 1 0) p.customers) p.customers) (sym among) less

pub fewer_apart : (n i j section bound : ℕ) (node one two : Node) → node.pairs.customers ≡ n → AreChildren node i j section bound one two → IsBranchPair n (allows_of node.pairs) i j → allowed_pairs one.pairs < allowed_pairs node.pairs
fewer_apart n i j section bound node one two among are pair =
    let same_i : nat_eq i i ≡ true = eq-eqb i i refl in
    let same_j : nat_eq j j ≡ true = eq-eqb j j refl in
    let gone : forbid i j (allows_of node.pairs) i j ≡ false = rw (pair.allowed, same_i, same_j) refl in
    fewer node.pairs one.pairs are.customers.0
    (λ a b la lb h. (and_parts (allows_of node.pairs a b) (not (nat_eq a i && nat_eq b j)) (sym (are.forbids a b) ∙ h)).0)
    i j (omega (arith, pair.first.1, among)) (omega (arith, pair.second.1, among)) pair.allowed (are.forbids i j ∙ gone)

pub fewer_together : (n i j section bound : ℕ) (node one two : Node) → node.pairs.customers ≡ n → AreChildren node i j section bound one two → IsBranchPair n (allows_of node.pairs) i j → allowed_pairs two.pairs < allowed_pairs node.pairs
fewer_together n i j section bound node one two among are pair =
    let facts = pair.narrows in
    let a = facts.0 in
    let b = facts.1 in
    let la : a ≤ node.pairs.customers = omega (arith, facts.2, among) in
    let lb : b ≤ node.pairs.customers = omega (arith, facts.3, among) in
    fewer node.pairs two.pairs are.customers.1
    (λ x y lx ly h. (and_parts (allows_of node.pairs x y) (nat_eq x y || (not (nat_eq x i && not (nat_eq y j)) && not (nat_eq y j && not (nat_eq x i)))) (sym (are.demands x y lx ly) ∙ h)).0)
    a b la lb facts.4 (are.demands a b la lb ∙ facts.5)
