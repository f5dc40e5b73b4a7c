-- How the text of a certificate is read from left to right: the certificate as it is written, or the first fault.
use Rattle.std.specs.Prelude.{ℕ, zero, suc, Bool, true, false, ◌&&◌, ◌||◌, not, List, [], ◌∷◌, ◌++◌, Option, None, Some, Err, codes, length, nat_eq, nat_le, nat_lt}
use Rattle.ev_model.specs.Network.{Network}
use Rattle.ev_text.specs.Readers.{Reader, answer, behind_word, choice_at, many_from, number_where, so_many, then_reads}
use Rattle.ev_text.specs.Scans.{whole_at}
use Rattle.ev_text.specs.declared.TextFault.TheVariants.{End}
use Rattle.route_plan.specs.declared.plan.RoutePlan.{RoutePlan}
use Rattle.bound_certificate.specs.CertificateTexts.{is_first_version}
use Rattle.certificate_parts.specs.Limits.{greatest_weight, most_items}
use Rattle.bound_certificate.specs.Limits.{most_pairs}
use Rattle.bound_certificate.specs.Trees.{open_behind}
use Rattle.bound_certificate.specs.Written.{Written, WrittenSection}
use Rattle.bound_certificate.specs.declared.certificate.Root.{Root}
use Rattle.bound_certificate.specs.declared.certificate.Root.TheVariants as root
use Rattle.bound_certificate.specs.declared.certificate.Share.{Share}
use Rattle.bound_certificate.specs.declared.certificate.TreeLine.{TreeLine}
use Rattle.bound_certificate.specs.declared.certificate.TreeLine.TheVariants.{Split, Leaf}
use Rattle.certificate_parts.specs.Reading.{basis_at, bound_at, is_customer_node, is_place, label_at, node_where, plan_line, prices_at, weight_at}

abbrev pub share_at : Reader Share
share_at =
    behind_word (codes "share ") (then_reads weight_at (λ share.
    behind_word (codes " ") (then_reads plan_line (λ plan.
    answer (record { share = share; plan = plan })))))

abbrev pub column_at : Reader RoutePlan
column_at = behind_word (codes "column ") plan_line

abbrev pub exact_at : Reader Root
exact_at =
    then_reads weight_at (λ over.
    behind_word (codes " ") (then_reads (whole_at most_items) (λ count.
    behind_word (10 ∷ []) (then_reads (so_many count share_at) (λ shares.
    answer (root.Exact over shares))))))

abbrev pub wide_at : Network → Reader Root
wide_at g =
    then_reads (whole_at most_items) (λ count.
    behind_word (10 ∷ []) (then_reads (so_many count column_at) (λ columns.
    then_reads (basis_at g count) (λ basis. answer (root.Wide columns basis)))))

abbrev pub exact_or_wide : Network → Bool → Reader Root
exact_or_wide g true = exact_at
exact_or_wide g false = behind_word (codes "root wide ") (wide_at g)

abbrev pub none_or_other : Network → Bool → Reader Root
none_or_other g true = answer root.None
none_or_other g false = then_reads (choice_at (codes "root exact ")) (exact_or_wide g)

abbrev pub root_at : Network → Reader Root
root_at g = then_reads (choice_at (codes "root none" ++ 10 ∷ [])) (none_or_other g)

-- a pair may follow another
abbrev pub rises_from : Option (ℕ × ℕ) → ℕ × ℕ → Bool
rises_from None p = true
rises_from (Some q) p = nat_lt q.0 p.0 || (nat_eq q.0 p.0 && nat_lt q.1 p.1)

-- a pair; that it rises is told at its second number
abbrev pub pair_at : Network → Option (ℕ × ℕ) → Reader (ℕ × ℕ)
pair_at g last =
    behind_word (codes "pair ") (then_reads (node_where (is_place g)) (λ i.
    behind_word (codes " ")
    (then_reads (node_where (λ j. is_place g j
    && (not (nat_eq i j) && rises_from last (i, j)))) (λ j.
    behind_word (10 ∷ []) (answer (i, j))))))

-- the lines of a section behind the first, which has the counts
abbrev pub section_behind : Network → ℕ → ℕ → ℕ → Reader WrittenSection
section_behind g weight pairs labels =
    then_reads (prices_at g) (λ prices.
    then_reads (many_from (pair_at g) (λ before pair. Some pair) pairs None) (λ pairs.
    then_reads (so_many labels (label_at g)) (λ labels.
    answer (record { weight = weight; prices = prices; pairs = pairs; labels = labels }))))

abbrev pub section_at : Network → Reader WrittenSection
section_at g =
    behind_word (codes "section ") (then_reads (whole_at greatest_weight) (λ weight.
    behind_word (codes " ") (then_reads (whole_at most_pairs) (λ pairs.
    behind_word (codes " ") (then_reads (whole_at most_items) (λ labels.
    behind_word (10 ∷ []) (section_behind g weight pairs labels)))))))

abbrev pub sections_at : Network → Reader (List WrittenSection)
sections_at g =
    behind_word (codes "sections ")
    (then_reads (number_where most_items (λ n. nat_le 1 n)) (λ count.
    behind_word (10 ∷ []) (so_many count (section_at g))))

-- a line of the tree; that the two customers differ is told at the second
abbrev pub split_or_leaf : Network → ℕ → Bool → Reader TreeLine
split_or_leaf g sections true =
    then_reads (node_where (is_customer_node g)) (λ i.
    behind_word (codes " ")
    (then_reads (node_where (λ j. is_customer_node g j && not (nat_eq i j))) (λ j.
    behind_word (10 ∷ []) (answer (Split i j)))))
split_or_leaf g sections false =
    behind_word (codes "leaf ") (then_reads (number_where most_items (λ n. nat_lt n sections)) (λ n.
    behind_word (10 ∷ []) (answer (Leaf n))))

abbrev pub line_at : Network → ℕ → Reader TreeLine
line_at g sections = then_reads (choice_at (codes "split ")) (split_or_leaf g sections)

-- lines until no tree is open, and at most so many
abbrev pub few_lines : Reader TreeLine → ℕ → ℕ → Reader (List TreeLine)
few_lines read most zero s = answer [] s
few_lines read zero (suc trees) s = Err (End s.1)
few_lines read (suc most) (suc trees) s =
    then_reads read (λ line.
    then_reads (few_lines read most (open_behind line (suc trees))) (λ others.
    answer (line ∷ others))) s

-- the lines of one tree; no text has more of them than bytes
abbrev pub tree_at : Reader TreeLine → Reader (List TreeLine)
tree_at read s = few_lines read (length s.0) 1 s

-- the text behind its first lines
abbrev pub body_at : Network → Reader Written
body_at g =
    then_reads bound_at (λ bound.
    then_reads (root_at g) (λ root_part.
    then_reads (sections_at g) (λ sections.
    then_reads (tree_at (line_at g (length sections))) (λ tree.
    answer (record { bound = bound; root = root_part; sections = sections; tree = tree })))))

-- behind the first lines of each version
abbrev pub behind_head : Bool → ℕ → ℕ → Reader Written → Reader Written
behind_head true reserve home read = behind_word (codes "evroute certificate 1" ++ 10 ∷ []) read
behind_head false reserve home read =
    behind_word (codes "evroute certificate 2" ++ 10 ∷ [])
    (behind_word (codes "levels ") (then_reads (node_where (λ n. nat_eq n reserve)) (λ first.
    behind_word (codes " ") (then_reads (node_where (λ n. nat_eq n home)) (λ second.
    behind_word (10 ∷ []) read)))))

abbrev pub certificate_at : Network → Reader Written
certificate_at g = behind_head (is_first_version g) g.reserve g.home_level (body_at g)
