-- A list of nodes that stand as the way down asks is that of one tree, and that of a tree stands so.
use Rattle.std.proofs.Common.{◌≡◌, ◌∙◌, ℕ, List, [], ◌∷◌, ◌++◌, refl, sym, ap, subst, append_assoc, append-nil}
use Rattle.ev_model.specs.Network.{Network}
use Rattle.near_tree.specs.Branches.{Branch, Counted, apart_at, at_least, at_most, together_at, whole}
use Rattle.near_tree.specs.Preorder.{Node, at_entries, at_leaf, at_split, nodes_of}
use Rattle.near_tree.specs.Ranges.{CountsFew}
use Rattle.near_tree.specs.Sections.{NearSection}
use Rattle.near_tree.specs.Trees.{AtEachLeaf, IsCount, IsSectionAt, IsTreeAt, NearTree, entries, leaf, split}
use Rattle.tree_text.specs.Asked.{AllAsked}
use Rattle.tree_text.specs.Standing.{StandsAt, below_node, counting}

-- what a node asks of the way down speaks of counted sets alone
section_at : (g : Network) (b : Branch) (s : NearSection) → IsSectionAt g (counting b.counted) s → IsSectionAt g b s
section_at g b s is = record { one_price = is.one_price; one_set = is.one_set; one_entry_price = is.one_entry_price; full = is.full }

at_section : (g : Network) (b : Branch) (s : NearSection) → IsSectionAt g b s → IsSectionAt g (counting b.counted) s
at_section g b s is = record { one_price = is.one_price; one_set = is.one_set; one_entry_price = is.one_entry_price; full = is.full }

count_at : (g : Network) (b : Branch) (k : ℕ) (set : List ℕ) → IsCount g (counting b.counted) k set → IsCount g b k set
count_at g b k set is = record { some = is.some; rising = is.rising; known = is.known; least = is.least; most = is.most }

at_count : (g : Network) (b : Branch) (k : ℕ) (set : List ℕ) → IsCount g b k set → IsCount g (counting b.counted) k set
at_count g b k set is = record { some = is.some; rising = is.rising; known = is.known; least = is.least; most = is.most }

abbrev all_nodes : List NearTree → List Node
all_nodes [] = []
all_nodes (t ∷ ts) = nodes_of t ++ all_nodes ts

abbrev all_counted : List Branch → List (List Counted)
all_counted [] = []
all_counted (b ∷ bs) = b.counted ∷ all_counted bs

module _ (g : Network) where
  abbrev pub IsFitAt : Branch → NearTree → Type 0
  IsFitAt b t = IsTreeAt g b t × AtEachLeaf CountsFew b t

  abbrev AreTrees : List Branch → List NearTree → Type 0
  AreTrees [] [] = Unit {0}
  AreTrees [] (t ∷ ts) = ⊥
  AreTrees (b ∷ bs) [] = ⊥
  AreTrees (b ∷ bs) (t ∷ ts) = IsFitAt b t × AreTrees bs ts

  abbrev IsForest : List Branch → List Node → Type 0
  IsForest bs nodes = (ts : List NearTree) × AreTrees bs ts × (nodes ≡ all_nodes ts)

  abbrev pub AllStand : List (List Counted) → List Node → Type 0
  AllStand states nodes = AllAsked (StandsAt g) below_node states nodes

  grown_split : (i j : ℕ) (b : Branch) (bs : List Branch) (nodes : List Node) → StandsAt g b.counted (at_split i j) → (ts : List NearTree) → AreTrees (apart_at i j b ∷ together_at i j b ∷ bs) ts → nodes ≡ all_nodes ts → IsForest (b ∷ bs) (at_split i j ∷ nodes)
  grown_split i j b bs nodes is [] are same = absurd are
  grown_split i j b bs nodes is (t ∷ []) are same = absurd are.1
  grown_split i j b bs nodes is (t ∷ u ∷ ts) are same = (
    split i j t u ∷ ts,
    (((is, are.0.0, are.1.0.0), (are.0.1, are.1.0.1)), are.1.1),
    ap (λ xs. at_split i j ∷ xs) (same ∙ sym (append_assoc (nodes_of t) (nodes_of u) (all_nodes ts))),
  )

  grown_entries : (k : ℕ) (set : List ℕ) (b : Branch) (bs : List Branch) (nodes : List Node) → StandsAt g b.counted (at_entries k set) → (ts : List NearTree) → AreTrees (at_most k set b ∷ at_least k set b ∷ bs) ts → nodes ≡ all_nodes ts → IsForest (b ∷ bs) (at_entries k set ∷ nodes)
  grown_entries k set b bs nodes is [] are same = absurd are
  grown_entries k set b bs nodes is (t ∷ []) are same = absurd are.1
  grown_entries k set b bs nodes is (t ∷ u ∷ ts) are same = (
    entries k set t u ∷ ts,
    (((count_at g b k set is, are.0.0, are.1.0.0), (are.0.1, are.1.0.1)), are.1.1),
    ap (λ xs. at_entries k set ∷ xs) (same ∙ sym (append_assoc (nodes_of t) (nodes_of u) (all_nodes ts))),
  )

  forest : (nodes : List Node) (bs : List Branch) → AllStand (all_counted bs) nodes → IsForest bs nodes
  forest [] [] all = ([], tt, refl)
  forest [] (b ∷ bs) all = absurd all
  forest (n ∷ nodes) [] all = absurd all
  forest (at_leaf s ∷ nodes) (b ∷ bs) all =
      let rest = forest nodes bs all.1 in
      (leaf s ∷ rest.0, ((section_at g b s all.0.0, all.0.1), rest.1), ap (λ xs. at_leaf s ∷ xs) rest.2)
  forest (at_split i j ∷ nodes) (b ∷ bs) all =
      let rest = forest nodes (apart_at i j b ∷ together_at i j b ∷ bs) all.1 in
      grown_split i j b bs nodes all.0 rest.0 rest.1 rest.2
  forest (at_entries k set ∷ nodes) (b ∷ bs) all =
      let rest = forest nodes (at_most k set b ∷ at_least k set b ∷ bs) all.1 in
      grown_entries k set b bs nodes all.0 rest.0 rest.1 rest.2

  -- one tree
  pub tree_of : (nodes : List Node) → AllStand ([] ∷ []) nodes → (t : NearTree) × (nodes ≡ nodes_of t) × IsFitAt whole t
  tree_of nodes all = let found = forest nodes (whole ∷ []) all in by found.0 found.1 found.2
    where
      by : (ts : List NearTree) → AreTrees (whole ∷ []) ts → nodes ≡ all_nodes ts → (t : NearTree) × (nodes ≡ nodes_of t) × IsFitAt whole t
      by [] are same = absurd are
      by (t ∷ []) are same = (t, same ∙ append-nil (nodes_of t), are.0)
      by (t ∷ u ∷ ts) are same = absurd are.1

  -- and its nodes stand so
  pub tree_stands : (t : NearTree) (b : Branch) (states : List (List Counted)) (rest : List Node) → IsFitAt b t → AllStand states rest → AllStand (b.counted ∷ states) (nodes_of t ++ rest)
  tree_stands (leaf s) b states rest (is, few) all = ((at_section g b s is, few), all)
  tree_stands (split i j t u) b states rest (is, few) all =
      let second = tree_stands u (together_at i j b) states rest (is.2, few.1) all in
      let first = tree_stands t (apart_at i j b) (b.counted ∷ states) (nodes_of u ++ rest) (is.1, few.0) second in
      (is.0, subst (AllStand (b.counted ∷ b.counted ∷ states)) (sym (append_assoc (nodes_of t) (nodes_of u) rest)) first)
  tree_stands (entries k set t u) b states rest (is, few) all =
      let second = tree_stands u (at_least k set b) states rest (is.2, few.1) all in
      let first = tree_stands t (at_most k set b) ((at_least k set b).counted ∷ states) (nodes_of u ++ rest) (is.1, few.0) second in
      (at_count g b k set is.0, subst (AllStand ((at_most k set b).counted ∷ (at_least k set b).counted ∷ states)) (sym (append_assoc (nodes_of t) (nodes_of u) rest)) first)
