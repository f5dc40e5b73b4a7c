-- The lines of a verdict on a tree: that it is accepted, and its bound, or the first rule that it
-- breaks.
use Rattle.std.specs.Prelude.{ℕ, ◌++◌, ◌∷◌, [], List, Option, decimal, codes}
use Rattle.report_lines.specs.Lines.{scaled_line}
use Rattle.near_tree.specs.declared.verdict.TreeVerdict.{TreeVerdict}
use Rattle.near_tree.specs.declared.verdict.TreeVerdict.TheVariants.{Accepted, Bound, Home, Start, Step}

abbrev pub rejected_line : List ℕ → List ℕ
rejected_line rule = codes "rejected tree " ++ rule ++ 10 ∷ []

abbrev pub labelled : ℕ → ℕ → List ℕ
labelled leaf label = decimal leaf ++ codes " label " ++ decimal label

-- a broken rule is told by its number, and what breaks it: the leaf; at a step its label and the
-- node too, and at a step home its label
abbrev pub tree_verdict_text : ℕ → Option ℕ → TreeVerdict → List ℕ
tree_verdict_text denominator bound Accepted =
    codes "accepted" ++ 10 ∷ scaled_line (codes "bound ") denominator bound
tree_verdict_text denominator bound (Start leaf) =
    rejected_line (codes "1 leaf " ++ decimal leaf)
tree_verdict_text denominator bound (Step leaf label node) =
    rejected_line (codes "2 leaf " ++ labelled leaf label ++ codes " node " ++ decimal node)
tree_verdict_text denominator bound (Home leaf label) =
    rejected_line (codes "3 leaf " ++ labelled leaf label)
tree_verdict_text denominator bound (Bound leaf) =
    rejected_line (codes "4 leaf " ++ decimal leaf)
