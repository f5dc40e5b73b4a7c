-- How the text of a tree is read from left to right: the tree as it is written, or the first fault.
use Rattle.std.specs.Prelude.{ℕ, ◌+◌, ℤ, Bool, true, false, ◌&&◌, ◌||◌, not, List, [], ◌∷◌, ◌++◌, Option, None, Some, codes, decimal, length, nat_eq, nat_le, nat_lt, if◌then◌else◌}
use Rattle.ev_model.specs.Network.{Network, node_count}
use Rattle.ev_text.specs.Readers.{Reader, answer, behind_word, choice_at, optional_at, signed_at, so_many, then_reads}
use Rattle.ev_text.specs.Scans.{whole_at}
use Rattle.certificate_parts.specs.Limits.{greatest_bound, greatest_price, greatest_weight, most_items}
use Rattle.certificate_parts.specs.Ranges.{customer_count}
use Rattle.certificate_parts.specs.Reading.{bound_at, is_customer_node, is_place, node_where, points_at, prices_at, set_at, set_behind}
use Rattle.near_text.specs.Reading.{nears_at}
use Rattle.near_tree.specs.Branches.{Counted, count_of, is_same}
use Rattle.near_tree.specs.Ranges.{most_counted}
use Rattle.tree_text.specs.Asked.{each_asked, tested_at, unless_byte}
use Rattle.tree_text.specs.Written.{WrittenLast, WrittenNode, WrittenSection, WrittenSectionLabel, WrittenTree, counted_below, is_station, named, star, unwritten, written_entries, written_leaf, written_split}

-- two different customers
abbrev pub split_at : Network → Reader WrittenNode
split_at g =
    then_reads (node_where (is_customer_node g)) (λ i.
    behind_word (codes " ")
    (then_reads (node_where (λ node. is_customer_node g node && not (nat_eq node i))) (λ j.
    behind_word (10 ∷ []) (answer (written_split i j)))))

-- a count and a set, which isn't empty
abbrev pub count_at : Network → Reader (ℕ × List ℕ)
count_at g =
    then_reads (whole_at (customer_count g)) (λ k.
    behind_word (codes " ") (then_reads (unless_byte 45 (set_behind g 10 false)) (λ set.
    answer (k, set))))

-- some entries into the set are below the count, or at it, and some are above
abbrev pub is_between : List Counted → ℕ → List ℕ → Bool
is_between counted k set =
    nat_le (count_of counted set).least k && nat_lt k (count_of counted set).most

-- the set is counted already
abbrev pub is_counted : List Counted → List ℕ → Bool
is_counted [] set = false
is_counted (c ∷ cs) set = is_same c.set set || is_counted cs set

-- where a count is out of the range of its set, at the count; where the set is one too many, at the
-- set, which stands behind a space
abbrev pub broken_count : List Counted → ℕ × List ℕ → Option ℕ
broken_count counted c =
    if not (is_between counted c.0 c.1) then Some 0
    else if is_counted counted c.1 || nat_lt (length counted) most_counted then None
    else Some (length (decimal c.0) + 1)

abbrev pub entries_at : Network → List Counted → Reader WrittenNode
entries_at g counted =
    then_reads (tested_at (count_at g) (broken_count counted)) (λ c.
    answer (written_entries c.0 c.1))

-- a last at a station, and the space behind it
abbrev pub named_behind : Network → Bool → Reader WrittenLast
named_behind g true = behind_word (codes " ") (answer star)
named_behind g false =
    then_reads (node_where (is_place g)) (λ node. behind_word (codes " ") (answer (named node)))

abbrev pub last_at : Network → Bool → Reader WrittenLast
last_at g false = answer unwritten
last_at g true = then_reads (optional_at (codes "*")) (named_behind g)

abbrev pub section_label_at : Network → Reader WrittenSectionLabel
section_label_at g =
    behind_word (codes "label ")
    (then_reads (node_where (λ node. nat_lt node (node_count g))) (λ node.
    behind_word (codes " ") (then_reads (last_at g (is_station g node)) (λ last.
    then_reads (set_at g 32) (λ memory.
    then_reads (signed_at greatest_bound) (λ earned.
    behind_word (codes " ") (then_reads (points_at g) (λ points.
    answer (record {
      node = node;
      last = last;
      memory = memory;
      earned = earned;
      points = points;
    })))))))))

abbrev pub entry_at : Reader ℤ
entry_at =
    behind_word (codes "entry ") (then_reads (signed_at greatest_price) (λ price.
    behind_word (10 ∷ []) (answer price)))

-- the lines behind that with the weight and the number of labels
abbrev pub section_lines_at : Network → ℕ → ℕ → ℕ → Reader WrittenSection
section_lines_at g entries weight count =
    then_reads (prices_at g) (λ prices.
    then_reads (nears_at g (customer_count g) 0) (λ sets.
    then_reads (so_many entries entry_at) (λ entry_prices.
    then_reads (so_many count (section_label_at g)) (λ labels.
    answer (record {
      weight = weight;
      prices = prices;
      sets = sets;
      entry_prices = entry_prices;
      labels = labels;
    })))))

-- a section with so many entry prices
abbrev pub section_at : Network → ℕ → Reader WrittenSection
section_at g entries =
    behind_word (codes "section ") (then_reads (whole_at greatest_weight) (λ weight.
    behind_word (codes " ") (then_reads (whole_at most_items) (λ count.
    behind_word (10 ∷ []) (section_lines_at g entries weight count)))))

abbrev pub leaf_at : Network → List Counted → Reader WrittenNode
leaf_at g counted =
    behind_word (codes "leaf" ++ 10 ∷ []) (then_reads (section_at g (length counted)) (λ s.
    answer (written_leaf s)))

-- the lines of a node, behind one of three words
abbrev pub entries_or_leaf : Network → List Counted → Bool → Reader WrittenNode
entries_or_leaf g counted true = entries_at g counted
entries_or_leaf g counted false = leaf_at g counted

abbrev pub split_or_other : Network → List Counted → Bool → Reader WrittenNode
split_or_other g counted true = split_at g
split_or_other g counted false =
    then_reads (choice_at (codes "entries ")) (entries_or_leaf g counted)

abbrev pub node_at : Network → List Counted → Reader WrittenNode
node_at g counted = then_reads (choice_at (codes "split ")) (split_or_other g counted)

-- the nodes of a tree in preorder
abbrev pub nodes_at : Network → Reader (List WrittenNode)
nodes_at g = each_asked (node_at g) counted_below ([] ∷ [])

abbrev pub tree_body_at : Network → Reader WrittenTree
tree_body_at g =
    then_reads bound_at (λ bound.
    then_reads (nodes_at g) (λ nodes.
    answer (record { bound = bound; nodes = nodes })))

abbrev pub tree_at : Network → Reader WrittenTree
tree_at g = behind_word (codes "evroute near tree 1" ++ 10 ∷ []) (tree_body_at g)
