-- The lines that close one tree are those of a tree in preorder.
use Rattle.std.proofs.Common.{◌≡◌, ◌∙◌, ◌↔◌, ℕ, zero, suc, ◌+◌, ◌<◌, ◌≤◌, false, List, [], ◌∷◌, ◌++◌, length, drop, get_or, refl, sym, ap, subst, append_assoc, append-nil, add-one, drop-cons, length-drop, arith, IsTrue}
use Rattle.std.proofs.lemmas.Bool.{false≢true}
use Rattle.fleet_model.specs.Tree.{BranchTree, leaf, split}
use Rattle.bound_certificate.specs.Trees.{Closes, IsWholeTree, lines_of, open_behind}
use Rattle.bound_certificate.specs.declared.certificate.TreeLine.{TreeLine}
use Rattle.bound_certificate.specs.declared.certificate.TreeLine.TheVariants.{Split, Leaf}

-- the lines of trees, one behind the other
abbrev forest_lines : List BranchTree → List TreeLine
forest_lines [] = []
forest_lines (t ∷ ts) = lines_of t ++ forest_lines ts

-- the lines of a tree close one of the open trees
closes_one : (t : BranchTree) (trees : ℕ) (rest : List TreeLine) → Closes trees rest → Closes (suc trees) (lines_of t ++ rest)
closes_one (leaf section) trees rest closes = closes
closes_one (split i j apart together) trees rest closes =
    subst (Closes (suc (suc trees))) (sym (append_assoc (lines_of apart) (lines_of together) rest))
    (closes_one apart (suc trees) (lines_of together ++ rest) (closes_one together trees rest closes))

-- lines that close so many trees are those of so many trees
record IsForest (trees : ℕ) (lines : List TreeLine) : Type 0 where
  forest : List BranchTree
  many : length forest ≡ trees
  is : lines ≡ forest_lines forest

with_leaf : (section trees : ℕ) (lines : List TreeLine) → IsForest trees lines → IsForest (suc trees) (Leaf section ∷ lines)
with_leaf section trees lines f = record {
  forest = leaf section ∷ f.forest;
  many = ap (λ n. suc n) f.many;
  is = ap (λ ls. Leaf section ∷ ls) f.is;
}

with_split : (i j trees : ℕ) (lines : List TreeLine) → IsForest (suc (suc trees)) lines → IsForest (suc trees) (Split i j ∷ lines)
with_split i j trees lines f = by f.forest f.many f.is
  where
    by : (ts : List BranchTree) → length ts ≡ suc (suc trees) → lines ≡ forest_lines ts → IsForest (suc trees) (Split i j ∷ lines)
    by [] many is = absurd (omega (arith, many))
    by (a ∷ []) many is = absurd (omega (arith, many))
    by (a ∷ b ∷ ts) many is = record {
      forest = split i j a b ∷ ts;
      many = omega (arith, many);
      is = ap (λ ls. Split i j ∷ ls) (is ∙ sym (append_assoc (lines_of a) (lines_of b) (forest_lines ts)));
    }

forest_of : (trees : ℕ) (lines : List TreeLine) → Closes trees lines → IsForest trees lines
forest_of zero [] closes = record { forest = []; many = refl; is = refl }
forest_of zero (line ∷ lines) closes = absurd closes
forest_of (suc trees) [] closes = absurd closes
forest_of (suc trees) (Leaf section ∷ lines) closes = with_leaf section trees lines (forest_of trees lines closes)
forest_of (suc trees) (Split i j ∷ lines) closes = with_split i j trees lines (forest_of (suc (suc trees)) lines closes)

one_tree : (lines : List TreeLine) → IsForest 1 lines → IsWholeTree lines
one_tree lines f = by f.forest f.many f.is
  where
    by : (ts : List BranchTree) → length ts ≡ 1 → lines ≡ forest_lines ts → IsWholeTree lines
    by [] many is = absurd (omega (arith, many))
    by (t ∷ []) many is = (t, is ∙ append-nil (lines_of t))
    by (t ∷ u ∷ ts) many is = absurd (omega (arith, many))

pub whole_where_closed : (lines : List TreeLine) → Closes 1 lines ↔ IsWholeTree lines
whole_where_closed lines = (
  λ closes. one_tree lines (forest_of 1 lines closes),
  λ whole. subst (Closes 1) (append-nil (lines_of whole.0) ∙ sym whole.1) (closes_one whole.0 0 [] tt),
)

-- a walk along the lines, with the number of open trees

pub few_behind : (line : TreeLine) (trees i after : ℕ) → trees ≤ i + 1 → after ≡ open_behind line trees → after ≤ i + 1 + 1
few_behind (Leaf section) trees i after few is = omega arith
few_behind (Split a b) trees i after few is = omega arith

pub line_closes : (lines : List TreeLine) (i trees after : ℕ) (d : TreeLine) → i < length lines → 0 < trees → after ≡ open_behind (get_or lines i d) trees
    → (Closes trees (drop i lines) ↔ Closes 1 lines) → (Closes after (drop (i + 1) lines) ↔ Closes 1 lines)
line_closes lines i trees after d within some is told = by (get_or lines i d) refl trees some is told
  where
    at : drop i lines ≡ get_or lines i d ∷ drop (i + 1) lines
    at = rw add-one (drop-cons lines i d within)

    by : (line : TreeLine) → get_or lines i d ≡ line → (before : ℕ) → 0 < before → after ≡ open_behind line before → (Closes before (drop i lines) ↔ Closes 1 lines) → (Closes after (drop (i + 1) lines) ↔ Closes 1 lines)
    by line there zero some is told = absurd (omega (arith, some))
    by (Leaf section) there (suc before) some is told =
        let same : after ≡ before = omega (arith, is) in
        subst (λ n. Closes n (drop (i + 1) lines) ↔ Closes 1 lines) (sym same)
        (subst (λ ls. Closes (suc before) ls ↔ Closes 1 lines) (at ∙ ap (λ l. l ∷ drop (i + 1) lines) there) told)
    by (Split a b) there (suc before) some is told =
        let same : after ≡ suc (suc before) = omega (arith, is) in
        subst (λ n. Closes n (drop (i + 1) lines) ↔ Closes 1 lines) (sym same)
        (subst (λ ls. Closes (suc before) ls ↔ Closes 1 lines) (at ∙ ap (λ l. l ∷ drop (i + 1) lines) there) told)

-- a line behind the last open tree
pub closed_too_early : (lines : List TreeLine) (i trees : ℕ) → i < length lines → trees ≡ 0 → (Closes trees (drop i lines) ↔ Closes 1 lines) → IsTrue false ↔ Closes 1 lines
closed_too_early lines i trees within none told =
    (λ no. absurd (false≢true no), λ closes. absurd (by (drop i lines) (omega (arith, length-drop i lines)) (subst (λ n. Closes n (drop i lines)) none (told.1 closes))))
  where
    by : (ls : List TreeLine) → 0 < length ls → Closes 0 ls → ⊥
    by [] some closes = omega (arith, some)
    by (l ∷ ls) some closes = closes
