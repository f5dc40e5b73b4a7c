-- The tree stands under its pairs after a node is written and after a leaf is split.
use Rattle.std.proofs.Common.{◌≡◌, ◌≢◌, ◌∙◌, ℕ, Bool, true, false, List, inl, inr, sym, ap, subst, Option, Some, None}
use Rattle.std.specs.Prelude.{nat_eq}
use Rattle.std.proofs.lemmas.Bool.{cases_eq, eq-eqb, ne_eqb}
use Rattle.std.proofs.lemmas.Option.{none-some, same_Some}
use Rattle.customer_sets.specs.Pairs.{forbid, require}
use Rattle.fleet_model.specs.Tree.{BranchTree, leaf, split}
use Rattle.branching.specs.Nodes.{HasNode, node_at}
use Rattle.branching.specs.SearchTree.{grown, HasPairs, IsBranchPair, IsTreeUnder}
use Rattle.branching.specs.declared.node.Node.{Node}

module _ (n : ℕ) (nodes changed : List (Option Node)) (key : ℕ) (old new : Node) (here : node_at nodes key ≡ Some old) (there : node_at changed key ≡ Some new)
    (others : (k : ℕ) → k ≢ key → node_at changed k ≡ node_at nodes k) (same : new.pairs ≡ old.pairs) where
  pub under_set : (allows : ℕ → ℕ → Bool) (t : BranchTree) → IsTreeUnder n nodes allows t → IsTreeUnder n changed allows t
  under_set allows (leaf k) under = elim (cases_eq k key) [
    | inl is ↦
        let at : node_at nodes key ≡ Some under.node = subst (λ x. node_at nodes x ≡ Some under.node) is under.here in
        let node : old ≡ under.node = same_Some old under.node (sym here ∙ at) in
        record {
          node = new;
          here = subst (λ x. node_at changed x ≡ Some new) (sym is) there;
          is = subst (HasPairs n allows) (sym (same ∙ ap (λ (m : Node). m.pairs) node)) under.is;
        }
    | inr apart ↦ record { node = under.node; here = others k apart ∙ under.here; is = under.is }
  ]
  under_set allows (split i j apart together) under = (
    under.0,
    (under_set (forbid i j allows) apart under.1.0, under_set (require i j allows) together under.1.1),
  )

-- a node may be split into two under whatever is allowed where it stands
pub record Splits (n : ℕ) (i j : ℕ) (node apart together : Node) : Type 0 where
  pub pair : (allows : ℕ → ℕ → Bool) → HasPairs n allows node.pairs → IsBranchPair n allows i j
  pub forbids : (allows : ℕ → ℕ → Bool) → HasPairs n allows node.pairs → HasPairs n (forbid i j allows) apart.pairs
  pub demands : (allows : ℕ → ℕ → Bool) → HasPairs n allows node.pairs → HasPairs n (require i j allows) together.pairs

module _ (n : ℕ) (nodes changed : List (Option Node)) (key other i j : ℕ) (node one two : Node) (here : node_at nodes key ≡ Some node) (free : node_at nodes other ≡ None)
    (first : node_at changed key ≡ Some one) (second : node_at changed other ≡ Some two) (others : (k : ℕ) → k ≢ key → k ≢ other → node_at changed k ≡ node_at nodes k)
    (splits : Splits n i j node one two) where
  pub under_grown : (allows : ℕ → ℕ → Bool) (t : BranchTree) → IsTreeUnder n nodes allows t → IsTreeUnder n changed allows (grown key i j other t)
  under_grown allows (leaf k) under = elim (cases_eq k key) [
    | inl is ↦
        let at : node_at nodes key ≡ Some under.node = subst (λ x. node_at nodes x ≡ Some under.node) is under.here in
        let same : under.node ≡ node = same_Some under.node node (sym at ∙ here) in
        let has : HasPairs n allows node.pairs = subst (λ (m : Node). HasPairs n allows m.pairs) same under.is in
        let test : nat_eq k key ≡ true = eq-eqb k key is in
        let left : HasNode changed key (λ m. HasPairs n (forbid i j allows) m.pairs) = record { node = one; here = first; is = splits.forbids allows has } in
        let right : HasNode changed other (λ m. HasPairs n (require i j allows) m.pairs) = record { node = two; here = second; is = splits.demands allows has } in
        rw test (splits.pair allows has, (left, right))
    | inr apart ↦
        let test : nat_eq k key ≡ false = ne_eqb k key apart in
        let used : k ≢ other = λ e. none-some under.node (sym free ∙ subst (λ x. node_at nodes x ≡ Some under.node) e under.here) in
        let old : HasNode changed k (λ m. HasPairs n allows m.pairs) = record { node = under.node; here = others k apart used ∙ under.here; is = under.is } in
        rw test old
  ]
  under_grown allows (split a b apart together) under = (
    under.0,
    (under_grown (forbid a b allows) apart under.1.0, under_grown (require a b allows) together under.1.1),
  )
