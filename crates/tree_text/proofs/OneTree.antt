-- What is written of a tree tells it.
use Rattle.std.proofs.Common.{◌≡◌, ◌∙◌, ℕ, suc, ℤ, ◌+◌, ◌<◌, Bool, true, false, not, List, [], ◌∷◌, Option, None, Some, is_none, map, refl, sym, ap, ap₂, subst, append-nil, arith, if◌then◌else◌}
use Rattle.std.specs.List.{All}
use Rattle.std.proofs.lemmas.Bool.{false≢true}
use Rattle.std.proofs.lemmas.List.Elements.{All-cons, All-head, All-nil, All-tail}
use Rattle.ev_model.specs.Network.{Network, curve_at, is_customer}
use Rattle.fleet_model.proofs.Numbers.{counted}
use Rattle.certificate_parts.specs.Ranges.{customer_count}
use Rattle.certificate_parts.specs.Written.{customer_node}
use Rattle.certificate_parts.proofs.OneWritten.{same_items}
use Rattle.certificate_parts.proofs.PlaceOrder.{customer_is_some, same_by_node}
use Rattle.near_proof.specs.Ranges.{AreAmong}
use Rattle.near_text.specs.Written.{written_set}
use Rattle.near_tree.specs.Branches.{Counted, count_of, whole}
use Rattle.near_tree.specs.Preorder.{last_of, node_of, nodes_of}
use Rattle.near_tree.specs.Ranges.{IsLastAmong, LastFits, LeafSectionFits, NodeFits, SectionLabelFits, TreeFits}
use Rattle.near_tree.specs.Sections.{Last, after, anybody}
use Rattle.near_tree.specs.declared.proof.LastServed.{LastServed}
use Rattle.near_tree.specs.declared.proof.LastServed.TheVariants.{Anybody, Customer, Nobody}
use Rattle.near_tree.specs.declared.proof.LeafSection.{LeafSection}
use Rattle.near_tree.specs.declared.proof.SectionLabel.{SectionLabel}
use Rattle.near_tree.specs.declared.proof.TreeNode.{TreeNode}
use Rattle.near_tree.specs.declared.proof.TreeNode.TheVariants as node
use Rattle.near_tree.specs.declared.proof.TreeProof.{TreeProof}
use Rattle.tree_text.specs.Standing.{IsGoodSet}
use Rattle.tree_text.specs.TreeIn.{HasMemory, IsKeptNode, IsKeptSection, IsKeptSet}
use Rattle.tree_text.specs.Written.{WrittenLast, WrittenNode, WrittenSection, WrittenSectionLabel, WrittenTree, is_station, named, named_last, narrowed, star, unwritten, written_entries, written_last, written_leaf, written_node, written_section, written_section_label, written_split, written_tree}
use Rattle.tree_text.proofs.Forests.{AllStand, tree_stands}
use Rattle.tree_text.proofs.Nodes.{all_among, good_set}
use Rattle.tree_text.proofs.SetLaws.{one_set}

all_both : {A : Type 0} (P Q : A → Type 0) (xs : List A) → All P xs → All Q xs → All (λ a. P a × Q a) xs
all_both P Q [] ps qs = All-nil (λ a. P a × Q a)
all_both P Q (x ∷ xs) ps qs = All-cons (λ a. P a × Q a) x xs (All-head P x xs ps, All-head Q x xs qs) (all_both P Q xs (All-tail P x xs ps) (All-tail Q x xs qs))

no_curve : {A : Type 0} (o : Option A) → not (is_none o) ≡ false → o ≡ None
no_curve None is = refl
no_curve (Some curve) is = absurd (false≢true (sym is))

-- ---- whom a vehicle served last

place_in : Last → ℕ
place_in anybody = 0
place_in (after place) = place

named_node : WrittenLast → ℕ
named_node unwritten = 0
named_node star = 0
named_node (named n) = n

same_place : (l m : LastServed) → last_of l ≡ last_of m → l ≡ m
unfolding place_in
same_place Nobody Nobody same = refl
same_place Nobody (Customer c) same = let e : 0 ≡ c + 1 = ap place_in same in absurd (omega (arith, e))
same_place Nobody Anybody same = absurd cc
same_place (Customer c) Nobody same = let e : c + 1 ≡ 0 = ap place_in same in absurd (omega (arith, e))
same_place (Customer c) (Customer d) same = let e : c + 1 ≡ d + 1 = ap place_in same in ap (λ (n : ℕ). Customer n) (omega (arith, e))
same_place (Customer c) Anybody same = absurd cc
same_place Anybody Nobody same = absurd cc
same_place Anybody (Customer d) same = absurd cc
same_place Anybody Anybody same = refl

abbrev label_from : ℕ → LastServed → List ℕ → ℤ → List (ℕ × ℕ) → SectionLabel
label_from x last memory earned value = record { node = x; last = last; memory = memory; earned = earned; value = value }

abbrev section_from : ℕ → List ℤ → List (List ℕ) → List ℤ → List SectionLabel → LeafSection
section_from weight prices sets entry_prices labels = record { weight = weight; prices = prices; sets = sets; entry_prices = entry_prices; labels = labels }

abbrev tree_from : Option ℕ → List TreeNode → TreeProof
tree_from bound nodes = record { bound = bound; nodes = nodes }

first_of : WrittenNode → ℕ
first_of (written_split i j) = i
first_of (written_entries k set) = k
first_of (written_leaf s) = 0

second_of : WrittenNode → ℕ
second_of (written_split i j) = j
second_of (written_entries k set) = 0
second_of (written_leaf s) = 0

set_of : WrittenNode → List ℕ
set_of (written_split i j) = []
set_of (written_entries k set) = set
set_of (written_leaf s) = []

section_in : WrittenSection → WrittenNode → WrittenSection
section_in d (written_split i j) = d
section_in d (written_entries k set) = d
section_in d (written_leaf s) = s

module _ (g : Network) where
  same_named : (l m : LastServed) → IsLastAmong (customer_count g) (last_of l) → IsLastAmong (customer_count g) (last_of m) → named_last g l ≡ named_last g m → l ≡ m
  unfolding named_node
  same_named Nobody Nobody fits fit same = refl
  same_named Nobody (Customer c) fits fit same =
      let e : 0 ≡ customer_node g c = ap named_node same in
      let some = customer_is_some g c (omega (arith, fit)) in
      absurd (omega (arith, e, some))
  same_named Nobody Anybody fits fit same = absurd cc
  same_named (Customer c) Nobody fits fit same =
      let e : customer_node g c ≡ 0 = ap named_node same in
      let some = customer_is_some g c (omega (arith, fits)) in
      absurd (omega (arith, e, some))
  same_named (Customer c) (Customer d) fits fit same =
      let nodes : customer_node g c ≡ customer_node g d = ap named_node same in
      let numbers = same_by_node g (suc c) (suc d) (omega (arith, fits)) (omega (arith, fit)) nodes in
      ap (λ (n : ℕ). Customer n) (omega (arith, numbers))
  same_named (Customer c) Anybody fits fit same = absurd cc
  same_named Anybody Nobody fits fit same = absurd cc
  same_named Anybody (Customer d) fits fit same = absurd cc
  same_named Anybody Anybody fits fit same = refl

  -- where it isn't written, the node says it
  same_unwritten : (x : ℕ) (l m : LastServed) → LastFits g x l → LastFits g x m → is_station g x ≡ false → last_of l ≡ last_of m
  same_unwritten x l m fits fit none = by (is_customer g x) refl
    where
      by : (b : Bool) → is_customer g x ≡ b → last_of l ≡ last_of m
      by true e = fits.customer e ∙ sym (fit.customer e)
      by false e = fits.depot e (no_curve (curve_at g x) none) ∙ sym (fit.depot e (no_curve (curve_at g x) none))

  same_last : (x : ℕ) (l m : LastServed) → LastFits g x l → LastFits g x m → written_last g x l ≡ written_last g x m → l ≡ m
  same_last x l m fits fit same = by (is_station g x) refl same
    where
      by : (b : Bool) → is_station g x ≡ b → (if b then named_last g l else unwritten) ≡ (if b then named_last g m else unwritten) → l ≡ m
      by true e told = same_named l m fits.known fit.known told
      by false e told = same_place l m (same_unwritten x l m fits fit e)

  -- ---- sections

  abbrev SetKept : List ℕ → Type 0
  SetKept set = AreAmong (customer_count g) set × IsKeptSet set

  same_set : (set other : List ℕ) → SetKept set → SetKept other → written_set g set ≡ written_set g other → set ≡ other
  same_set set other is was same = one_set g set other (good_set g set is.1 is.0) (good_set g other was.1 was.0) same

  abbrev LabelKept : SectionLabel → Type 0
  LabelKept l = SectionLabelFits g l × HasMemory l

  same_label : (l m : SectionLabel) → LabelKept l → LabelKept m → written_section_label g l ≡ written_section_label g m → l ≡ m
  same_label l m (fits, is) (fit, was) same =
      let x : l.node ≡ m.node = ap (λ (w : WrittenSectionLabel). w.node) same in
      let own = subst (λ (n : ℕ). LastFits g n m.last) (sym x) fit.last in
      let lasts : written_last g l.node l.last ≡ written_last g m.node m.last = ap (λ (w : WrittenSectionLabel). w.last) same in
      let last : l.last ≡ m.last = same_last l.node l.last m.last fits.last own (lasts ∙ ap (λ (n : ℕ). written_last g n m.last) (sym x)) in
      let memory : l.memory ≡ m.memory = same_set l.memory m.memory (fits.memory, is) (fit.memory, was) (ap (λ (w : WrittenSectionLabel). w.memory) same) in
      let earned : l.earned ≡ m.earned = ap (λ (w : WrittenSectionLabel). w.earned) same in
      let value : l.value ≡ m.value = ap (λ (w : WrittenSectionLabel). w.points) same in
      λ i. label_from (x i) (last i) (memory i) (earned i) (value i)

  abbrev SectionKept : LeafSection → Type 0
  SectionKept s = LeafSectionFits g s × IsKeptSection s

  same_section : (s t : LeafSection) → SectionKept s → SectionKept t → written_section g s ≡ written_section g t → s ≡ t
  same_section s t (fits, is) (fit, was) same =
      let weight : s.weight ≡ t.weight = ap (λ (w : WrittenSection). w.weight) same in
      let prices : s.prices ≡ t.prices = ap (λ (w : WrittenSection). w.prices) same in
      let sets : s.sets ≡ t.sets = same_items (written_set g) SetKept same_set s.sets t.sets
      (all_both (AreAmong (customer_count g)) IsKeptSet s.sets fits.sets.among is.sets) (all_both (AreAmong (customer_count g)) IsKeptSet t.sets fit.sets.among was.sets) (ap (λ (w : WrittenSection). w.sets) same) in
      let entry_prices : s.entry_prices ≡ t.entry_prices = ap (λ (w : WrittenSection). w.entry_prices) same in
      let labels : s.labels ≡ t.labels = same_items (written_section_label g) LabelKept same_label s.labels t.labels
      (all_both (SectionLabelFits g) HasMemory s.labels fits.labels is.memories) (all_both (SectionLabelFits g) HasMemory t.labels fit.labels was.memories) (ap (λ (w : WrittenSection). w.labels) same) in
      λ i. section_from (weight i) (prices i) (sets i) (entry_prices i) (labels i)

  -- ---- nodes

  -- what a node of a tree is beside how it is written
  abbrev IsOwn : TreeNode → Type 0
  IsOwn (node.Split i j) = (i < customer_count g) × (j < customer_count g)
  IsOwn (node.Entries k set) = IsGoodSet g set
  IsOwn (node.Leaf s) = SectionKept s

  same_node : (n m : TreeNode) → IsOwn n → IsOwn m → written_node g n ≡ written_node g m → n ≡ m
  unfolding first_of second_of set_of section_in
  same_node (node.Split i j) (node.Split k l) is was same =
      let firsts : customer_node g i ≡ customer_node g k = ap first_of same in
      let seconds : customer_node g j ≡ customer_node g l = ap second_of same in
      let first = same_by_node g (suc i) (suc k) (omega (arith, is.0)) (omega (arith, was.0)) firsts in
      let second = same_by_node g (suc j) (suc l) (omega (arith, is.1)) (omega (arith, was.1)) seconds in
      ap₂ (λ (a b : ℕ). node.Split a b) (omega (arith, first)) (omega (arith, second))
  same_node (node.Entries k set) (node.Entries l other) is was same =
      let most : k ≡ l = ap first_of same in
      let sets : written_set g set ≡ written_set g other = ap set_of same in
      ap₂ (λ (a : ℕ) (b : List ℕ). node.Entries a b) most (one_set g set other is was sets)
  same_node (node.Leaf s) (node.Leaf t) is was same =
      let sections : written_section g s ≡ written_section g t = ap (section_in (written_section g s)) same in
      ap (λ (a : LeafSection). node.Leaf a) (same_section s t is was sections)
  same_node (node.Split i j) (node.Entries l other) is was same = absurd cc
  same_node (node.Split i j) (node.Leaf t) is was same = absurd cc
  same_node (node.Entries k set) (node.Split i j) is was same = absurd cc
  same_node (node.Entries k set) (node.Leaf t) is was same = absurd cc
  same_node (node.Leaf s) (node.Split i j) is was same = absurd cc
  same_node (node.Leaf s) (node.Entries l other) is was same = absurd cc

  -- nodes that stand, each of which fits and is kept
  own_nodes : (nodes : List TreeNode) (states : List (List Counted)) → All (NodeFits g) nodes → All IsKeptNode nodes → AllStand g states (map node_of nodes) → All IsOwn nodes
  own_nodes [] states fit kept all = All-nil IsOwn
  own_nodes (n ∷ nodes) [] fit kept all = absurd all
  own_nodes (node.Leaf s ∷ nodes) (cs ∷ states) fit kept all =
      All-cons IsOwn (node.Leaf s) nodes (All-head (NodeFits g) (node.Leaf s) nodes fit, All-head IsKeptNode (node.Leaf s) nodes kept)
      (own_nodes nodes states (All-tail (NodeFits g) (node.Leaf s) nodes fit) (All-tail IsKeptNode (node.Leaf s) nodes kept) all.1)
  own_nodes (node.Split i j ∷ nodes) (cs ∷ states) fit kept all =
      let every = counted g in
      let first = all.0.first.1 in
      let second = all.0.second.1 in
      All-cons IsOwn (node.Split i j) nodes (omega (arith, first, every), omega (arith, second, every))
      (own_nodes nodes (cs ∷ cs ∷ states) (All-tail (NodeFits g) (node.Split i j) nodes fit) (All-tail IsKeptNode (node.Split i j) nodes kept) all.1)
  own_nodes (node.Entries k set ∷ nodes) (cs ∷ states) fit kept all =
      All-cons IsOwn (node.Entries k set) nodes (record { rising = all.0.rising; among = all_among g set all.0.known })
      (own_nodes nodes (narrowed cs set (count_of cs set).least k ∷ narrowed cs set (k + 1) (count_of cs set).most ∷ states) (All-tail (NodeFits g) (node.Entries k set) nodes fit) (All-tail IsKeptNode (node.Entries k set) nodes kept) all.1)

  own_tree : (p : TreeProof) → TreeFits g p → All IsKeptNode p.nodes → All IsOwn p.nodes
  own_tree p fits kept =
      let t = fits.tree.0 in
      let is = fits.tree.1 in
      let all = tree_stands g t whole [] [] (is.tree, is.few) tt in
      own_nodes p.nodes ([] ∷ []) fits.nodes kept (subst (AllStand g ([] ∷ [])) (append-nil (nodes_of t) ∙ sym is.nodes_are) all)

  pub one_written : (p q : TreeProof) → TreeFits g p → TreeFits g q → All IsKeptNode p.nodes → All IsKeptNode q.nodes → written_tree g p ≡ written_tree g q → p ≡ q
  one_written p q fits fit kept keeps same =
      let bound : p.bound ≡ q.bound = ap (λ (w : WrittenTree). w.bound) same in
      let nodes : p.nodes ≡ q.nodes = same_items (written_node g) IsOwn same_node p.nodes q.nodes (own_tree p fits kept) (own_tree q fit keeps) (ap (λ (w : WrittenTree). w.nodes) same) in
      λ i. tree_from (bound i) (nodes i)
