-- The children of a node have the pairs that are forbidden on the way to them.
use Rattle.std.proofs.Common.{◌≡◌, ◌∙◌, ℕ, zero, suc, ◌-◌, ◌<◌, ◌≤◌, Bool, true, false, not, ◌&&◌, ◌||◌, List, ◌⊎◌, inl, inr, refl, sym, ap, subst, arith, Some}
use Rattle.std.specs.Prelude.{nat_eq, Option}
use Rattle.std.proofs.lemmas.Bool.{cases_Bool, cases_lt, eqb-true, and_parts}
use Rattle.customer_sets.specs.Pairs.{ForbiddenPairs, allows_of, forbid, is_forbidden, IsPairs, require}
use Rattle.fleet_model.specs.Tree.{BranchTree, leaf, split}
use Rattle.branching.specs.Nodes.{HasNode, node_at}
use Rattle.branching.specs.SearchTree.{AreChildren, HasPairs, IsBranchPair, IsTreeUnder, leaves_with}
use Rattle.branching.specs.declared.node.Node.{Node}
use Rattle.branching.proofs.Under.{Splits}

or_true : (b : Bool) → (b || true) ≡ true
or_true true = refl
or_true false = refl

-- no pair of another place is forbidden
outside : (p : ForbiddenPairs) (a b : ℕ) → IsPairs p → (p.customers < a) ⊎ (p.customers < b) → is_forbidden p a b ≡ true → ⊥
outside p a zero ok out is =
    let end = ok.ends (a - 1) is in
    elim out [ inl far ↦ omega (arith, far, end) | inr far ↦ omega (arith, far) ]
outside p a (suc c) ok out is =
    let place = ok.places a c is in
    elim out [ inl far ↦ omega (arith, far, place.0) | inr far ↦ omega (arith, far, place.1) ]

allowed_outside : (p : ForbiddenPairs) (a b : ℕ) → IsPairs p → (p.customers < a) ⊎ (p.customers < b) → allows_of p a b ≡ true
allowed_outside p a b ok out = elim (cases_Bool (is_forbidden p a b)) [
  | inl is ↦ absurd (outside p a b ok out is)
  | inr free ↦ rw free (or_true (nat_eq a b))
]

module _ (n i j : ℕ) (allows : ℕ → ℕ → Bool) (p : ForbiddenPairs) (has : HasPairs n allows p) where
  pub branch_pair : IsBranchPair n (allows_of p) i j → IsBranchPair n allows i j
  branch_pair pair = record {
    first = pair.first;
    second = pair.second;
    apart = pair.apart;
    allowed = sym (has.same i j pair.first.1 pair.second.1) ∙ pair.allowed;
    narrows =
        let facts = pair.narrows in
        let a = facts.0 in
        let b = facts.1 in
        let same = has.same a b facts.2 facts.3 in (
          a,
          b,
          facts.2,
          facts.3,
          sym same ∙ facts.4,
          sym (ap (λ t. t && (nat_eq a b || (not (nat_eq a i && not (nat_eq b j)) && not (nat_eq b j && not (nat_eq a i))))) same) ∙ facts.5,
        );
  }

  pub apart_pairs : (q : ForbiddenPairs) → q.customers ≡ p.customers → ((a b : ℕ) → allows_of q a b ≡ forbid i j (allows_of p) a b) → HasPairs n (forbid i j allows) q
  apart_pairs q among is = record {
    customers = among ∙ has.customers;
    same = λ a b la lb. is a b ∙ ap (λ t. t && not (nat_eq a i && nat_eq b j)) (has.same a b la lb);
    more = λ a b h.
        let parts = and_parts (allows a b) (not (nat_eq a i && nat_eq b j)) h in
        is a b ∙ rw (has.more a b parts.0) parts.1;
  }

  pub together_pairs : (q : ForbiddenPairs) → q.customers ≡ p.customers → IsPairs q
      → ((a b : ℕ) → a ≤ p.customers → b ≤ p.customers → allows_of q a b ≡ require i j (allows_of p) a b) → HasPairs n (require i j allows) q
  together_pairs q among ok is = record {
    customers = among ∙ has.customers;
    same = λ a b la lb.
        is a b (omega (arith, la, has.customers)) (omega (arith, lb, has.customers))
        ∙ ap (λ t. t && (nat_eq a b || (not (nat_eq a i && not (nat_eq b j)) && not (nat_eq b j && not (nat_eq a i))))) (has.same a b la lb);
    more = λ a b h.
        let parts = and_parts (allows a b) (nat_eq a b || (not (nat_eq a i && not (nat_eq b j)) && not (nat_eq b j && not (nat_eq a i)))) h in
        elim (cases_lt q.customers a) [
          | inl far ↦ allowed_outside q a b ok (inl far)
          | inr near ↦ elim (cases_lt q.customers b) [
            | inl far ↦ allowed_outside q a b ok (inr far)
            | inr close ↦ is a b (omega (arith, near, among)) (omega (arith, close, among)) ∙ rw (has.more a b parts.0) parts.1
          ]
        ];
  }

pub children_split : (n i j section bound : ℕ) (node one two : Node) → AreChildren node i j section bound one two → IsPairs two.pairs → IsBranchPair n (allows_of node.pairs) i j → Splits n i j node one two
children_split n i j section bound node one two are ok pair = record {
  pair = λ allows has. branch_pair n i j allows node.pairs has pair;
  forbids = λ allows has. apart_pairs n i j allows node.pairs has one.pairs are.customers.0 are.forbids;
  demands = λ allows has. together_pairs n i j allows node.pairs has two.pairs are.customers.1 ok are.demands;
}

-- the node of a key that some leaf names is made for as many customers as the tree
pub named_customers : (n : ℕ) (nodes : List (Option Node)) (key : ℕ) (allows : ℕ → ℕ → Bool) (t : BranchTree) → 0 < leaves_with key t → IsTreeUnder n nodes allows t → HasNode nodes key (λ node. node.pairs.customers ≡ n)
named_customers n nodes key allows (leaf k) some under = elim (cases_Bool (nat_eq k key)) [
  | inl hit ↦
      let is : k ≡ key = eqb-true k key hit in
      record {
        node = under.node;
        here = subst (λ x. node_at nodes x ≡ Some under.node) is under.here;
        is = under.is.customers;
      }
  | inr miss ↦
      let none : leaves_with key (leaf k) ≡ 0 = rw miss refl in
      absurd (omega (arith, some, none))
]
named_customers n nodes key allows (split i j apart together) some under = elim (cases_lt 0 (leaves_with key apart)) [
  | inl here ↦ named_customers n nodes key (forbid i j allows) apart here under.1.0
  | inr none ↦
      let rest : 0 < leaves_with key together = omega (arith, some, none) in
      named_customers n nodes key (require i j allows) together rest under.1.1
]
