-- The texts of trees over near sections: each has one spelling, in lines that end with a line feed.
use Rattle.std.specs.Prelude.{ℕ, ℤ, List, [], ◌∷◌, ◌++◌, codes, decimal, length}
use Rattle.std.specs.Fmt.{signed_decimal}
use Rattle.ev_text.specs.Texts.{joined_texts, marked_texts}
use Rattle.certificate_parts.specs.Texts.{bound_text, point_text, prices_text, set_text}
use Rattle.near_text.specs.NearTexts.{near_line, section_line}
use Rattle.tree_text.specs.Written.{WrittenLast, WrittenNode, WrittenSection, WrittenSectionLabel, WrittenTree, named, star, unwritten, written_entries, written_leaf, written_split}

-- a last, and the space behind it
abbrev pub last_text : WrittenLast → List ℕ
last_text unwritten = []
last_text star = codes "* "
last_text (named node) = decimal node ++ codes " "

-- the line of a label, up to its points
abbrev pub head_text : WrittenSectionLabel → List ℕ
head_text l =
    codes "label " ++ (decimal l.node ++ (codes " " ++ (last_text l.last ++ (set_text l.memory
    ++ (codes " " ++ signed_decimal l.earned)))))

abbrev pub section_label_text : WrittenSectionLabel → List ℕ
section_label_text l =
    head_text l ++ (marked_texts (codes " ") point_text l.points ++ 10 ∷ [])

-- the line of the price of the entries into a set
abbrev pub entry_line : ℤ → List ℕ
entry_line price = codes "entry " ++ (signed_decimal price ++ 10 ∷ [])

abbrev pub section_text : WrittenSection → List ℕ
section_text s =
    section_line s.weight (length s.labels)
    ++ (prices_text s.prices
    ++ (joined_texts near_line s.sets
    ++ (joined_texts entry_line s.entry_prices
    ++ joined_texts section_label_text s.labels)))

-- the lines of a node, without the trees below it
abbrev pub node_text : WrittenNode → List ℕ
node_text (written_split i j) =
    codes "split " ++ (decimal i ++ (codes " " ++ (decimal j ++ 10 ∷ [])))
node_text (written_entries k set) =
    codes "entries " ++ (decimal k ++ (codes " " ++ (set_text set ++ 10 ∷ [])))
node_text (written_leaf s) = codes "leaf" ++ 10 ∷ section_text s

-- the text behind its first line
abbrev pub tree_body_text : WrittenTree → List ℕ
tree_body_text w = bound_text w.bound ++ joined_texts node_text w.nodes

abbrev pub tree_text : WrittenTree → List ℕ
tree_text w = codes "evroute near tree 1" ++ 10 ∷ tree_body_text w
