-- A tree has one verdict: two rules are not both the first that is broken.
use Rattle.std.proofs.Common.{◌≡◌, ◌∙◌, ℕ, ◌<◌, ◌⊎◌, Option, refl, sym, ap, subst, arith, inl, inr}
use Rattle.ev_model.specs.Network.{Network}
use Rattle.near_tree.specs.Bounds.{IsAccepted}
use Rattle.near_tree.specs.Rules.{at_bound, at_home, at_start, at_step, ComesBefore, IsFirstBroken, IsSooner, leaf_number, part, Place}
use Rattle.near_tree.specs.Trees.{NearTree}
use Rattle.near_tree.specs.Verdicts.{IsVerdict, IsVerdictOn}
use Rattle.near_tree.specs.declared.proof.TreeProof.{TreeProof}
use Rattle.near_tree.specs.declared.verdict.TreeVerdict.{TreeVerdict}
use Rattle.near_tree.specs.declared.verdict.TreeVerdict.TheVariants.{Accepted, Bound, Home, Start, Step}
use Rattle.near_tree.proofs.Preorder.{one_tree}
use Rattle.near_tree.proofs.Rules.{not_broken}

not_apart : (m n : ℕ) → (m < n → ⊥) → (n < m → ⊥) → m ≡ n
not_apart m n one other = grind (arith, one, other)

-- neither of two places of one part comes before the other
record AreBeside (a b : Place) : Type 0 where
  is_part : part a ≡ part b
  one : ComesBefore a b → ⊥
  other : ComesBefore b a → ⊥

module _ (a b : Place) (beside : AreBeside a b) where
  one_leaf : leaf_number a ≡ leaf_number b
  one_leaf = not_apart (leaf_number a) (leaf_number b)
      (λ l. beside.one (inr (beside.is_part, inl l)))
      (λ l. beside.other (inr (sym beside.is_part, inl l)))

  not_sooner : IsSooner a b → ⊥
  not_sooner soon = beside.one (inr (beside.is_part, inr (one_leaf, soon)))

  not_later : IsSooner b a → ⊥
  not_later soon = beside.other (inr (sym beside.is_part, inr (sym one_leaf, soon)))

-- two places are one where neither comes before the other
same_step : (m n j k x y : ℕ) → AreBeside (at_step m j x) (at_step n k y) →
    at_step m j x ≡ at_step n k y
same_step m n j k x y beside =
    let a = at_step m j x in
    let b = at_step n k y in
    let leaf_is : m ≡ n = one_leaf a b beside in
    let label_is : j ≡ k = not_apart j k
    (λ l. not_sooner a b beside (inl l)) (λ l. not_later a b beside (inl l)) in
    let node_is : x ≡ y = not_apart x y
    (λ l. not_sooner a b beside (inr (label_is, l)))
    (λ l. not_later a b beside (inr (sym label_is, l))) in
    cc

same_home : (m n j k : ℕ) → AreBeside (at_home m j) (at_home n k) → at_home m j ≡ at_home n k
same_home m n j k beside =
    let a = at_home m j in
    let b = at_home n k in
    let leaf_is : m ≡ n = one_leaf a b beside in
    let label_is : j ≡ k = not_apart j k (not_sooner a b beside) (not_later a b beside) in
    cc

same_beside : (a b : Place) → AreBeside a b → a ≡ b
same_beside (at_start m) (at_start n) d = ap at_start (one_leaf (at_start m) (at_start n) d)
same_beside (at_start m) (at_step n k y) d =
    absurd (not_sooner (at_start m) (at_step n k y) d tt)
same_beside (at_start m) (at_home n k) d = absurd (not_sooner (at_start m) (at_home n k) d tt)
same_beside (at_start m) (at_bound n) d = absurd (let e = d.is_part in omega (arith, e))
same_beside (at_step m j x) (at_start n) d =
    absurd (not_later (at_step m j x) (at_start n) d tt)
same_beside (at_step m j x) (at_step n k y) d = same_step m n j k x y d
same_beside (at_step m j x) (at_home n k) d =
    absurd (not_sooner (at_step m j x) (at_home n k) d tt)
same_beside (at_step m j x) (at_bound n) d = absurd (let e = d.is_part in omega (arith, e))
same_beside (at_home m j) (at_start n) d = absurd (not_later (at_home m j) (at_start n) d tt)
same_beside (at_home m j) (at_step n k y) d =
    absurd (not_later (at_home m j) (at_step n k y) d tt)
same_beside (at_home m j) (at_home n k) d = same_home m n j k d
same_beside (at_home m j) (at_bound n) d = absurd (let e = d.is_part in omega (arith, e))
same_beside (at_bound m) (at_start n) d = absurd (let e = d.is_part in omega (arith, e))
same_beside (at_bound m) (at_step n k y) d = absurd (let e = d.is_part in omega (arith, e))
same_beside (at_bound m) (at_home n k) d = absurd (let e = d.is_part in omega (arith, e))
same_beside (at_bound m) (at_bound n) d = ap at_bound (one_leaf (at_bound m) (at_bound n) d)

same_place : (a b : Place) → (ComesBefore a b → ⊥) → (ComesBefore b a → ⊥) → a ≡ b
same_place a b one other = same_beside a b (record {
  is_part = not_apart (part a) (part b) (λ l. one (inl l)) (λ l. other (inl l));
  one = one;
  other = other;
})

-- the verdict that a rule is broken at a place
verdict_at : Place → TreeVerdict
verdict_at (at_start leaf) = Start leaf
verdict_at (at_step leaf label node) = Step leaf label node
verdict_at (at_home leaf label) = Home leaf label
verdict_at (at_bound leaf) = Bound leaf

module _ (g : Network) (bound : Option ℕ) (t : NearTree) where
  -- what a verdict says: the tree is accepted, or its first broken rule is at a place
  Says : TreeVerdict → Type 0
  Says v = ((v ≡ Accepted) × IsAccepted g bound t)
      ⊎ ((at : Place) × (v ≡ verdict_at at) × IsFirstBroken g bound t at)

  says : (v : TreeVerdict) → IsVerdictOn g bound t v → Says v
  unfolding Says verdict_at
  says Accepted is = inl (refl, is)
  says (Start leaf) is = inr (at_start leaf, refl, is)
  says (Step leaf label node) is = inr (at_step leaf label node, refl, is)
  says (Home leaf label) is = inr (at_home leaf label, refl, is)
  says (Bound leaf) is = inr (at_bound leaf, refl, is)

  one_place : (a b : Place) → IsFirstBroken g bound t a → IsFirstBroken g bound t b → a ≡ b
  one_place a b first other =
      same_place a b (λ l. other.first a l first.broken) (λ l. first.first b l other.broken)

  both_say : (v w : TreeVerdict) → Says v → Says w → v ≡ w
  unfolding Says
  both_say v w (inl one) (inl other) = one.0 ∙ sym other.0
  both_say v w (inl one) (inr other) =
      absurd (not_broken g bound t one.1 other.0 other.2.broken)
  both_say v w (inr one) (inl other) =
      absurd (not_broken g bound t other.1 one.0 one.2.broken)
  both_say v w (inr one) (inr other) =
      one.1 ∙ (ap verdict_at (one_place one.0 other.0 one.2 other.2) ∙ sym other.1)

  one_on : (v w : TreeVerdict) → IsVerdictOn g bound t v → IsVerdictOn g bound t w → v ≡ w
  one_on v w one other = both_say v w (says v one) (says w other)

pub one_verdict : (g : Network) (p : TreeProof) (v w : TreeVerdict) →
    IsVerdict g p v → IsVerdict g p w → v ≡ w
one_verdict g p v w one other =
    let same : other.0 ≡ one.0 = one_tree p.nodes other.0 one.0 other.1 one.1 in
    let second = subst (λ (t : NearTree). IsVerdictOn g p.bound t w) same other.2 in
    one_on g p.bound one.0 v w one.2 second
