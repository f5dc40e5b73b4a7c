-- What is to be read below a node, in front of what was.
use Rattle.std.proofs.Common.{◌≡◌, ◌∙◌, ◌⊎◌, inl, inr, Bool, true, false, List, [], ◌∷◌, ◌++◌, refl, reverse, ap, ap₂, if◌then◌else◌}
use Rattle.std.proofs.lemmas.List.{reverse-append}
use Rattle.near_tree.specs.Branches.{Counted}
use Rattle.near_tree.specs.Preorder.{node_of}
use Rattle.near_tree.specs.declared.proof.TreeNode.{TreeNode}
use Rattle.near_tree.specs.declared.proof.TreeNode.TheVariants as node
use Rattle.tree_text.specs.Standing.{below_node}
use Rattle.tree_text.specs.Ways.{AreOpen, GoesBelow, counted_in, left_of, opened}
use Rattle.tree_text.specs.declared.ways.CountedSet.{CountedSet}

pub turned : {A : Type 0} (xs : List A) (x : A) → reverse (xs ++ x ∷ []) ≡ x ∷ reverse xs
turned xs x = reverse-append xs (x ∷ [])

-- a list is empty, or has a last item
pub has_last : {A : Type 0} (xs : List A) → (xs ≡ []) ⊎ ((rest : List A) × (a : A) × (xs ≡ rest ++ a ∷ []))
has_last [] = inl refl
has_last (x ∷ xs) = elim (has_last xs) [
  | inl none ↦ inr ([], x, ap (λ ys. x ∷ ys) none)
  | inr h ↦ inr (x ∷ h.0, h.1, ap (λ ys. x ∷ ys) h.2)
]

-- the last item is one
pub one_last : {A : Type 0} (xs ys : List A) (x y : A) → xs ++ x ∷ [] ≡ ys ++ y ∷ [] → (xs ≡ ys) × (x ≡ y)
one_last [] [] x y is = (refl, (cc))
one_last [] (b ∷ []) x y is = absurd (cc)
one_last [] (b ∷ c ∷ ys) x y is = absurd (cc)
one_last (a ∷ []) [] x y is = absurd (cc)
one_last (a ∷ c ∷ xs) [] x y is = absurd (cc)
one_last (a ∷ xs) (b ∷ ys) x y is =
    let first : a ≡ b = cc in
    let others : xs ++ x ∷ [] ≡ ys ++ y ∷ [] = cc in
    let rest = one_last xs ys x y others in
    (ap₂ (λ z zs. z ∷ zs) first rest.0, rest.1)

abbrev Ways : Type 0
Ways = List (List CountedSet)

abbrev pub left_first : Bool → Ways → List CountedSet → Ways
left_first last rest way = if last then rest else way ∷ rest

turned_left : (last : Bool) (rest : Ways) (way : List CountedSet) → reverse (left_of last rest way) ≡ left_first last (reverse rest) way
turned_left true rest way = refl
turned_left false rest way = turned rest way

abbrev Both : List Bool → Ways → List (List Counted) → Type 0
Both lasts ways states = AreOpen lasts ways × (opened lasts ways ≡ states)

-- what is to be read, with the next one first
pub below_opened : (last : Bool) (n : TreeNode) (rest : Ways) (way : List CountedSet) (lasts more : List Bool) (ways : Ways) → GoesBelow last n rest way lasts more ways → AreOpen (last ∷ reverse lasts) (way ∷ reverse rest)
    → Both (reverse more) (reverse ways) (below_node (counted_in way) (node_of n) ++ opened (reverse lasts) (left_first last (reverse rest) way))
below_opened last (node.Split before after) rest way lasts more ways (lasts_are, ways_are) are =
    let first : reverse more ≡ false ∷ last ∷ reverse lasts = ap reverse lasts_are ∙ turned (lasts ++ last ∷ []) false ∙ ap (λ xs. false ∷ xs) (turned lasts last) in
    let second : reverse ways ≡ way ∷ reverse rest = ap reverse ways_are ∙ turned rest way in
    rw (first, second) (are, refl)
below_opened last (node.Leaf s) rest way lasts more ways (lasts_are, ways_are) are =
    let first : reverse more ≡ reverse lasts = ap reverse lasts_are in
    let second : reverse ways ≡ left_first last (reverse rest) way = ap reverse ways_are ∙ turned_left last rest way in
    rw (first, second) (are, refl)
below_opened last (node.Entries most set) rest way lasts more ways (few, many, few_are, many_are, lasts_are, ways_are) are =
    let first : reverse more ≡ true ∷ true ∷ reverse lasts = ap reverse lasts_are ∙ turned (lasts ++ true ∷ []) true ∙ ap (λ xs. true ∷ xs) (turned lasts true) in
    let second : reverse ways ≡ few ∷ many ∷ left_first last (reverse rest) way = ap reverse ways_are ∙ turned (left_of last rest way ++ many ∷ []) few ∙ ap (λ xs. few ∷ xs) (turned (left_of last rest way) many) ∙ ap (λ xs. few ∷ many ∷ xs) (turned_left last rest way) in
    rw (first, second) (are, ap₂ (λ x y. x ∷ y ∷ opened (reverse lasts) (left_first last (reverse rest) way)) few_are many_are)
