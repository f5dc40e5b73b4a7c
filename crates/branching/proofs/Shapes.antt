-- The lines of a shape give their tree back, and grow as it does.
use Rattle.std.proofs.Common.{◌≡◌, ◌∙◌, ℕ, List, [], ◌∷◌, ◌++◌, map, inl, inr, refl, sym, ap, append_assoc, append-nil}
use Rattle.std.specs.Prelude.{nat_eq, Option}
use Rattle.std.specs.List.{flat_map}
use Rattle.std.proofs.lemmas.Bool.{cases_Bool}
use Rattle.std.proofs.lemmas.Grind.{flat_map-append}
use Rattle.std.proofs.lemmas.List.{map-append}
use Rattle.bound_certificate.specs.Trees.{lines_of}
use Rattle.bound_certificate.specs.declared.certificate.TreeLine.TheVariants.{Split as SplitLine}
use Rattle.fleet_model.specs.Tree.{BranchTree, leaf, split}
use Rattle.branching.specs.SearchTree.{grown, sections_named}
use Rattle.branching.specs.Shape.{first_tree, joined, key_lines, named_line, split_line, tree_of, trees_of}
use Rattle.branching.specs.declared.node.Node.{Node}
use Rattle.branching.specs.declared.shape.Line.{Line}
use Rattle.branching.specs.declared.shape.Line.TheVariants.{Split}

trees_of-append : (t : BranchTree) (lines : List Line) → trees_of (key_lines t ++ lines) ≡ t ∷ trees_of lines
trees_of-append (leaf key) lines = refl
trees_of-append (split i j apart together) lines =
    let first = trees_of-append apart (key_lines together ++ lines) in
    let second = ap (λ ts. apart ∷ ts) (trees_of-append together lines) in
    let all = ap trees_of (append_assoc (key_lines apart) (key_lines together) lines) in
    ap (joined i j) (all ∙ first ∙ second)

pub tree_of-lines : (t : BranchTree) → tree_of (key_lines t) ≡ t
tree_of-lines t =
    let bare = ap trees_of (sym (append-nil (key_lines t))) in
    ap first_tree (bare ∙ trees_of-append t [])

pub key_lines-grown : (key i j other : ℕ) (t : BranchTree) → key_lines (grown key i j other t) ≡ flat_map (split_line key i j other) (key_lines t)
key_lines-grown key i j other (leaf k) = elim (cases_Bool (nat_eq k key)) [
  | inl hit ↦ rw hit refl
  | inr miss ↦ rw miss refl
]
key_lines-grown key i j other (split a b apart together) =
    let first = key_lines-grown key i j other apart in
    let second = key_lines-grown key i j other together in
    let both = flat_map-append (split_line key i j other) (key_lines apart) (key_lines together) in
    ap (λ ls. Split a b ∷ ls) (rw (first, second) (sym both))

pub named-lines : (nodes : List (Option Node)) (t : BranchTree) → map (named_line nodes) (key_lines t) ≡ lines_of (sections_named nodes t)
named-lines nodes (leaf key) = refl
named-lines nodes (split i j apart together) =
    let first = named-lines nodes apart in
    let second = named-lines nodes together in
    let both = map-append (named_line nodes) (key_lines apart) (key_lines together) in
    ap (λ ls. SplitLine i j ∷ ls) (both ∙ rw (first, second) refl)
