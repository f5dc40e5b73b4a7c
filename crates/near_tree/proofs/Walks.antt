-- Along the nodes of a tree in preorder, leaf by leaf.
use Rattle.std.proofs.Common.{◌≡◌, ◌∙◌, ℕ, zero, suc, ◌+◌, ◌<◌, ◌≤◌, Bool, true, false, List, [], ◌∷◌, ◌++◌, Option, None, Some, length, length-append, map, drop, refl, sym, ap, subst, arith, inl, inr, append_assoc, append-nil, get_or}
use Rattle.std.specs.List.{All}
use Rattle.std.specs.Prelude.{MatchBool, slice_get}
use Rattle.std.proofs.Math.ListN.{drop_of_length-le}
use Rattle.std.proofs.Math.Seq.{drop-cons}
use Rattle.std.proofs.lemmas.List.Elements.{All-append, All-cons, All-head, All-nil, All-tail}
use Rattle.std.proofs.lemmas.Option.{same_Some, slice_get_within}
use Rattle.ev_model.specs.Network.{Network}
use Rattle.near_tree.specs.Bounds.{IsAcceptedAt}
use Rattle.near_tree.specs.Branches.{apart_at, at_least, at_most, Branch, together_at, whole}
use Rattle.near_tree.specs.Judging.{fault_place, IsFaultAt, IsFirstFault}
use Rattle.near_tree.specs.Paths.{IsTurnAt, turned}
use Rattle.near_tree.specs.Preorder.{at_entries, at_leaf, at_split, Node, node_of, nodes_of}
use Rattle.near_tree.specs.Ranges.{CountsFew, IsFitTree}
use Rattle.near_tree.specs.Rules.{at_bound, at_home, at_start, at_step, ComesBefore, IsBroken, IsFirstBroken, IsSooner, Leaf, leaf_number, leaves_of, part, Place}
use Rattle.near_tree.specs.Sections.{NearSection}
use Rattle.near_tree.specs.Trees.{AtEachLeaf, entries, IsSectionAt, IsTreeAt, leaf, NearTree, split}
use Rattle.near_tree.specs.Verdicts.{IsLeafBounded, IsLeafClosed, IsVerdictOn, next_unbounded, verdict_by, verdict_of}
use Rattle.near_tree.specs.Walks.{AreTreesAt, IsWalkedTo, leaves_along, TellsUnbounded}
use Rattle.near_tree.specs.declared.faults.LeafFault.{LeafFault}
use Rattle.near_tree.specs.declared.faults.LeafFault.TheVariants as fault
use Rattle.near_tree.specs.declared.proof.TreeNode.{TreeNode}
use Rattle.near_tree.proofs.ClosedLeaves.{no_fault}

-- ---- a tree along its nodes

are_trees : (g : Network) (b : Branch) (t : NearTree) (bs : List Branch) (rest : List Node) → IsTreeAt g b t → AtEachLeaf CountsFew b t → AreTreesAt g bs rest → AreTreesAt g (b ∷ bs) (nodes_of t ++ rest)
are_trees g b (leaf s) bs rest is few more = (is, few, more)
are_trees g b (split i j c d) bs rest is few more =
    let behind = are_trees g (together_at i j b) d bs rest is.2 few.1 more in
    let both = are_trees g (apart_at i j b) c (together_at i j b ∷ bs) (nodes_of d ++ rest) is.1 few.0 behind in
    let joined : AreTreesAt g (apart_at i j b ∷ together_at i j b ∷ bs) ((nodes_of c ++ nodes_of d) ++ rest) = rw append_assoc both in
    (is.0, joined)
are_trees g b (entries k set c d) bs rest is few more =
    let behind = are_trees g (at_least k set b) d bs rest is.2 few.1 more in
    let both = are_trees g (at_most k set b) c (at_least k set b ∷ bs) (nodes_of d ++ rest) is.1 few.0 behind in
    let joined : AreTreesAt g (at_most k set b ∷ at_least k set b ∷ bs) ((nodes_of c ++ nodes_of d) ++ rest) = rw append_assoc both in
    (is.0, joined)

leaves_tree : (b : Branch) (t : NearTree) (bs : List Branch) (rest : List Node) → leaves_along (b ∷ bs) (nodes_of t ++ rest) ≡ leaves_of b t ++ leaves_along bs rest
leaves_tree b (leaf s) bs rest = refl
leaves_tree b (split i j c d) bs rest =
    let first = leaves_tree (apart_at i j b) c (together_at i j b ∷ bs) (nodes_of d ++ rest) in
    let second = leaves_tree (together_at i j b) d bs rest in
    simp append_assoc (first ∙ ap (λ ls. leaves_of (apart_at i j b) c ++ ls) second)
leaves_tree b (entries k set c d) bs rest =
    let first = leaves_tree (at_most k set b) c (at_least k set b ∷ bs) (nodes_of d ++ rest) in
    let second = leaves_tree (at_least k set b) d bs rest in
    simp append_assoc (first ∙ ap (λ ls. leaves_of (at_most k set b) c ++ ls) second)

no_nodes : (bs : List Branch) → leaves_along bs [] ≡ []
no_nodes [] = refl
no_nodes (b ∷ bs) = refl

pub walk_begins : (g : Network) (bound : Option ℕ) (nodes : List TreeNode) (t : NearTree) → IsFitTree g nodes t → IsWalkedTo g bound t (whole ∷ []) (map node_of nodes) 0 None
walk_begins g bound nodes t fit =
    let ends : nodes_of t ++ [] ≡ nodes_of t = append-nil (nodes_of t) in
    let same : nodes_of t ++ [] ≡ map node_of nodes = ends ∙ sym fit.nodes_are in
    record {
      trees_are = subst (AreTreesAt g (whole ∷ [])) same (are_trees g whole t [] [] fit.tree fit.few tt);
      passed = [];
      count = refl;
      all = sym (ap (leaves_along (whole ∷ [])) (sym same) ∙ leaves_tree whole t [] [] ∙ append-nil (leaves_of whole t));
      closed = All-nil (IsLeafClosed g);
      bounded = All-nil (IsLeafBounded bound);
    }

-- ---- a node that is no leaf

-- a node that is no leaf
abbrev pub IsInner : Node → Type 0
IsInner (at_leaf s) = ⊥
IsInner (at_split i j) = Unit {0}
IsInner (at_entries k set) = Unit {0}

inner_trees : (g : Network) (b : Branch) (bs : List Branch) (n : Node) (left : List Node) → IsInner n → AreTreesAt g (b ∷ bs) (n ∷ left) → IsTurnAt g b n × AreTreesAt g (turned n false b ∷ turned n true b ∷ bs) left
inner_trees g b bs (at_leaf s) left inner are = absurd inner
inner_trees g b bs (at_split i j) left inner are = are
inner_trees g b bs (at_entries k set) left inner are = are

inner_leaves : (b : Branch) (bs : List Branch) (n : Node) (left : List Node) → IsInner n → leaves_along (b ∷ bs) (n ∷ left) ≡ leaves_along (turned n false b ∷ turned n true b ∷ bs) left
inner_leaves b bs (at_leaf s) left inner = absurd inner
inner_leaves b bs (at_split i j) left inner = refl
inner_leaves b bs (at_entries k set) left inner = refl

module _ (g : Network) (bound : Option ℕ) (t : NearTree) (b : Branch) (bs : List Branch) (n : Node) (left : List Node) (number : ℕ) (unbounded : Option ℕ) (walked : IsWalkedTo g bound t (b ∷ bs) (n ∷ left) number unbounded) where
  pub inner_turn : IsInner n → IsTurnAt g b n
  inner_turn inner = (inner_trees g b bs n left inner walked.trees_are).0

  pub walk_down : IsInner n → IsWalkedTo g bound t (turned n false b ∷ turned n true b ∷ bs) left number unbounded
  walk_down inner = record {
    trees_are = (inner_trees g b bs n left inner walked.trees_are).1;
    passed = walked.passed;
    count = walked.count;
    all = walked.all ∙ ap (λ ls. walked.passed ++ ls) (inner_leaves b bs n left inner);
    closed = walked.closed;
    bounded = walked.bounded;
  }

-- ---- a leaf

middle : (xs : List Leaf) (y : Leaf) (ys : List Leaf) → slice_get (xs ++ y ∷ ys) (length xs) ≡ Some y
middle [] y ys = refl
middle (x ∷ xs) y ys = middle xs y ys

early : (xs ys : List Leaf) (n : ℕ) → n < length xs → slice_get (xs ++ ys) n ≡ slice_get xs n
early [] ys n less = absurd (omega (arith, less))
early (x ∷ xs) ys zero less = refl
early (x ∷ xs) ys (suc n) less = early xs ys n (omega (arith, less))

given : Leaf → Option Leaf → Leaf
given d None = d
given d (Some x) = x

numbered : (P : Leaf → Type 0) (xs : List Leaf) (n : ℕ) (x : Leaf) → All P xs → slice_get xs n ≡ Some x → P x
unfolding given
numbered P [] n x all is = absurd (grind (arith, is))
numbered P (y ∷ ys) zero x all is = subst P (ap (given x) is) (All-head P y ys all)
numbered P (y ∷ ys) (suc n) x all is = numbered P ys n x (All-tail P y ys all) is

one_leaf : (P : Leaf → Type 0) (x : Leaf) → P x → All P (x ∷ [])
one_leaf P x is = All-cons P x [] is (All-nil P)

unbounded_more : (bound : Option ℕ) (fs : List Leaf) (f : Leaf) (u : Option ℕ) (bounded : Bool) → TellsUnbounded bound fs u → MatchBool bounded (IsLeafBounded bound f) (IsLeafBounded bound f → ⊥) → TellsUnbounded bound (fs ++ f ∷ []) (next_unbounded u (length fs) bounded)
unbounded_more bound fs f None true all is = All-append (IsLeafBounded bound) fs (f ∷ []) all (one_leaf (IsLeafBounded bound) f is)
unbounded_more bound fs f None false all is = (
  f,
  middle fs f [],
  is,
  λ n h low at. numbered (IsLeafBounded bound) fs n h all (sym (early fs (f ∷ []) n low) ∙ at),
)
unbounded_more bound fs f (Some m) bounded told is =
    let within : m < length fs = slice_get_within fs m told.0 told.1 in (
      told.0,
      early fs (f ∷ []) m within ∙ told.1,
      told.2,
      λ n h low at. told.3 n h low (sym (early fs (f ∷ []) n (omega (arith, low, within))) ∙ at),
    )

-- the leaf after those that were passed
module _ (g : Network) (bound : Option ℕ) (t : NearTree) (b : Branch) (bs : List Branch) (s : NearSection) (left : List Node) (number : ℕ) (unbounded : Option ℕ) (walked : IsWalkedTo g bound t (b ∷ bs) (at_leaf s ∷ left) number unbounded) where
  this : Leaf
  this = record { branch = b; section = s }

  pub leaf_section : IsSectionAt g b s
  leaf_section = walked.trees_are.0

  pub leaf_few : CountsFew b s
  leaf_few = walked.trees_are.1

  pub walk_past : (bounded : Bool) (more : ℕ) → more ≡ number + 1 → IsLeafClosed g (record { branch = b; section = s }) → MatchBool bounded (IsLeafBounded bound (record { branch = b; section = s })) (IsLeafBounded bound (record { branch = b; section = s }) → ⊥) → IsWalkedTo g bound t bs left more (next_unbounded unbounded number bounded)
  walk_past bounded more is closed tells = record {
    trees_are = walked.trees_are.2;
    passed = walked.passed ++ record { branch = b; section = s } ∷ [];
    count = (let grown = length-append walked.passed (record { branch = b; section = s } ∷ []) in omega (arith, grown, walked.count, is));
    all = simp append_assoc (walked.all);
    closed = All-append (IsLeafClosed g) walked.passed (record { branch = b; section = s } ∷ []) walked.closed (one_leaf (IsLeafClosed g) (record { branch = b; section = s }) closed);
    bounded = subst (λ n. TellsUnbounded bound (walked.passed ++ record { branch = b; section = s } ∷ []) (next_unbounded unbounded n bounded)) walked.count (unbounded_more bound walked.passed (record { branch = b; section = s }) unbounded bounded walked.bounded tells);
  }

  there : slice_get (leaves_of whole t) number ≡ Some (record { branch = b; section = s })
  there = ap (λ ls. slice_get ls number) walked.all ∙ ap (λ n. slice_get (walked.passed ++ record { branch = b; section = s } ∷ leaves_along bs left) n) (sym walked.count) ∙ middle walked.passed (record { branch = b; section = s }) (leaves_along bs left)

  earlier : (n : ℕ) (f : Leaf) → n < number → slice_get (leaves_of whole t) n ≡ Some f → IsLeafClosed g f
  earlier n f low at =
      let within : n < length walked.passed = omega (arith, low, walked.count) in
      numbered (IsLeafClosed g) walked.passed n f walked.closed (sym (early walked.passed (leaves_along (b ∷ bs) (at_leaf s ∷ left)) n within) ∙ sym (ap (λ ls. slice_get ls n) walked.all) ∙ at)

  -- a broken rule of a leaf, of that leaf
  same_leaf : (f : Leaf) (n : ℕ) → n ≡ number → slice_get (leaves_of whole t) n ≡ Some f → f ≡ record { branch = b; section = s }
  same_leaf f n same at = sym (same_Some (record { branch = b; section = s }) f (sym there ∙ subst (λ k. slice_get (leaves_of whole t) k ≡ Some f) same at))

  rules_here : (other : Place) → part other ≡ 1 → leaf_number other ≡ number → IsBroken g bound t other → IsFaultAt g (record { branch = b; section = s }) other
  rules_here (at_start n) one same broken = subst (λ (f : Leaf). IsFaultAt g f (at_start n)) (same_leaf broken.0 n same broken.1) broken.2
  rules_here (at_step n k x) one same broken = subst (λ (f : Leaf). IsFaultAt g f (at_step n k x)) (same_leaf broken.0 n same broken.1) broken.2
  rules_here (at_home n k) one same broken = subst (λ (f : Leaf). IsFaultAt g f (at_home n k)) (same_leaf broken.0 n same broken.1) broken.2
  rules_here (at_bound n) one same broken = absurd (omega (arith, one))

  rules_before : (other : Place) → part other ≡ 1 → leaf_number other < number → IsBroken g bound t other → ⊥
  rules_before (at_start n) one low broken = no_fault g broken.0 (earlier n broken.0 low broken.1) (at_start n) broken.2
  rules_before (at_step n k x) one low broken = no_fault g broken.0 (earlier n broken.0 low broken.1) (at_step n k x) broken.2
  rules_before (at_home n k) one low broken = no_fault g broken.0 (earlier n broken.0 low broken.1) (at_home n k) broken.2
  rules_before (at_bound n) one low broken = absurd (omega (arith, one))

  soon_any : (x : LeafFault) (other : Place) → IsSooner other (fault_place number x) → IsSooner other (fault_place 0 x)
  soon_any fault.Start (at_start n) soon = soon
  soon_any fault.Start (at_step n k y) soon = soon
  soon_any fault.Start (at_home n k) soon = soon
  soon_any fault.Start (at_bound n) soon = soon
  soon_any (fault.Step label node) (at_start n) soon = soon
  soon_any (fault.Step label node) (at_step n k y) soon = soon
  soon_any (fault.Step label node) (at_home n k) soon = soon
  soon_any (fault.Step label node) (at_bound n) soon = soon
  soon_any (fault.Home label) (at_start n) soon = soon
  soon_any (fault.Home label) (at_step n k y) soon = soon
  soon_any (fault.Home label) (at_home n k) soon = soon
  soon_any (fault.Home label) (at_bound n) soon = soon

  place_part : (x : LeafFault) → part (fault_place number x) ≡ 1
  place_part fault.Start = refl
  place_part (fault.Step label node) = refl
  place_part (fault.Home label) = refl

  place_number : (x : LeafFault) → leaf_number (fault_place number x) ≡ number
  place_number fault.Start = refl
  place_number (fault.Step label node) = refl
  place_number (fault.Home label) = refl

  some_part : (other : Place) → 1 ≤ part other
  some_part (at_start n) = omega arith
  some_part (at_step n k y) = omega arith
  some_part (at_home n k) = omega arith
  some_part (at_bound n) = omega arith

  broken_here : (x : LeafFault) → IsFaultAt g (record { branch = b; section = s }) (fault_place 0 x) → IsBroken g bound t (fault_place number x)
  broken_here fault.Start is = (record { branch = b; section = s }, there, is)
  broken_here (fault.Step label node) is = (record { branch = b; section = s }, there, is)
  broken_here (fault.Home label) is = (record { branch = b; section = s }, there, is)

  module _ (x : LeafFault) (is : IsFirstFault g (record { branch = b; section = s }) (fault_place 0 x)) where
    before : (other : Place) → ComesBefore other (fault_place number x) → IsBroken g bound t other → ⊥
    before other (inl low) broken = (let one = place_part x in let some = some_part other in omega (arith, low, one, some))
    before other (inr (same, inl low)) broken = rules_before other (same ∙ place_part x) (subst (λ n. leaf_number other < n) (place_number x) low) broken
    before other (inr (same, inr (here, soon))) broken = is.first other (soon_any x other soon) (rules_here other (same ∙ place_part x) (here ∙ place_number x) broken)

    first_fault : IsFirstBroken g bound t (fault_place number x)
    first_fault = record { broken = broken_here x is.broken; first = before }

  pub fault_verdict : (x : LeafFault) → IsFirstFault g (record { branch = b; section = s }) (fault_place 0 x) → IsVerdictOn g bound t (verdict_by number x)
  fault_verdict fault.Start is = first_fault fault.Start is
  fault_verdict (fault.Step label node) is = first_fault (fault.Step label node) is
  fault_verdict (fault.Home label) is = first_fault (fault.Home label) is

-- ---- the end

all_first : (P : Leaf → Type 0) (xs ys : List Leaf) → All P (xs ++ ys) → All P xs
all_first P [] ys all = All-nil P
all_first P (x ∷ xs) ys all = All-cons P x xs (All-head P x (xs ++ ys) all) (all_first P xs ys (All-tail P x (xs ++ ys) all))

all_second : (P : Leaf → Type 0) (xs ys : List Leaf) → All P (xs ++ ys) → All P ys
all_second P [] ys all = all
all_second P (x ∷ xs) ys all = all_second P xs ys (All-tail P x (xs ++ ys) all)

at_each : (g : Network) (bound : Option ℕ) (b : Branch) (t : NearTree) → All (IsLeafClosed g) (leaves_of b t) → All (IsLeafBounded bound) (leaves_of b t) → AtEachLeaf (IsAcceptedAt g bound) b t
at_each g bound b (leaf s) closed bounded = record {
  closed = All-head (IsLeafClosed g) (record { branch = b; section = s }) [] closed;
  bounded = All-head (IsLeafBounded bound) (record { branch = b; section = s }) [] bounded;
}
at_each g bound b (split i j c d) closed bounded =
    let xs = leaves_of (apart_at i j b) c in
    let ys = leaves_of (together_at i j b) d in (
      at_each g bound (apart_at i j b) c (all_first (IsLeafClosed g) xs ys closed) (all_first (IsLeafBounded bound) xs ys bounded),
      at_each g bound (together_at i j b) d (all_second (IsLeafClosed g) xs ys closed) (all_second (IsLeafBounded bound) xs ys bounded),
    )
at_each g bound b (entries k set c d) closed bounded =
    let xs = leaves_of (at_most k set b) c in
    let ys = leaves_of (at_least k set b) d in (
      at_each g bound (at_most k set b) c (all_first (IsLeafClosed g) xs ys closed) (all_first (IsLeafBounded bound) xs ys bounded),
      at_each g bound (at_least k set b) d (all_second (IsLeafClosed g) xs ys closed) (all_second (IsLeafBounded bound) xs ys bounded),
    )

module _ (g : Network) (bound : Option ℕ) (t : NearTree) (fs : List Leaf) (are : leaves_of whole t ≡ fs) (closed : All (IsLeafClosed g) fs) where
  closed_at : (n : ℕ) (f : Leaf) → slice_get (leaves_of whole t) n ≡ Some f → IsLeafClosed g f
  closed_at n f at = numbered (IsLeafClosed g) fs n f closed (sym (ap (λ ls. slice_get ls n) are) ∙ at)

  rules_hold : (m : ℕ) (other : Place) → ComesBefore other (at_bound m) → IsBroken g bound t other → ((n : ℕ) (h : Leaf) → n < m → slice_get fs n ≡ Some h → IsLeafBounded bound h) → ⊥
  rules_hold m (at_start n) before broken bounded = no_fault g broken.0 (closed_at n broken.0 broken.1) (at_start n) broken.2
  rules_hold m (at_step n k x) before broken bounded = no_fault g broken.0 (closed_at n broken.0 broken.1) (at_step n k x) broken.2
  rules_hold m (at_home n k) before broken bounded = no_fault g broken.0 (closed_at n broken.0 broken.1) (at_home n k) broken.2
  rules_hold m (at_bound n) (inl low) broken bounded = omega (arith, low)
  rules_hold m (at_bound n) (inr (same, inl low)) broken bounded = broken.2 (bounded n broken.0 low (sym (ap (λ ls. slice_get ls n) are) ∙ broken.1))
  rules_hold m (at_bound n) (inr (same, inr (here, soon))) broken bounded = soon

  pub last_verdict : (u : Option ℕ) → TellsUnbounded bound fs u → IsVerdictOn g bound t (verdict_of u)
  last_verdict None bounded = at_each g bound whole t (subst (λ ls. All (IsLeafClosed g) ls) (sym are) closed) (subst (λ ls. All (IsLeafBounded bound) ls) (sym are) bounded)
  last_verdict (Some m) told = record {
    broken = (told.0, ap (λ ls. slice_get ls m) are ∙ told.1, told.2);
    first = λ other before broken. rules_hold m other before broken told.3;
  }

-- where no leaf is left
pub walk_ends : (g : Network) (bound : Option ℕ) (t : NearTree) (bs : List Branch) (left : List Node) (number : ℕ) (u : Option ℕ) → leaves_along bs left ≡ [] → IsWalkedTo g bound t bs left number u → IsVerdictOn g bound t (verdict_of u)
walk_ends g bound t bs left number u none walked =
    last_verdict g bound t walked.passed (walked.all ∙ ap (λ ls. walked.passed ++ ls) none ∙ append-nil walked.passed) walked.closed u walked.bounded

pub no_trees : (bs : List Branch) (left : List Node) → bs ≡ [] → leaves_along bs left ≡ []
no_trees bs left none = ap (λ (cs : List Branch). leaves_along cs left) none

pub no_left : (bs : List Branch) (nodes : List TreeNode) (i : ℕ) → length nodes ≤ i → leaves_along bs (map node_of (drop i nodes)) ≡ []
no_left bs nodes i past = ap (λ (ns : List TreeNode). leaves_along bs (map node_of ns)) (drop_of_length-le nodes past) ∙ no_nodes bs

-- the next node
pub node_next : (nodes : List TreeNode) (i : ℕ) (n : TreeNode) → i < length nodes → n ≡ get_or nodes i n → map node_of (drop i nodes) ≡ node_of n ∷ map node_of (drop (i + 1) nodes)
node_next nodes i n less is =
    let one : suc i ≡ i + 1 = omega arith in
    ap (map node_of) (drop-cons nodes i n less ∙ ap (λ m. m ∷ drop (suc i) nodes) (sym is) ∙ ap (λ k. n ∷ drop k nodes) one)
