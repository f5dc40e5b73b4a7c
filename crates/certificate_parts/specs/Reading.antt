-- How parts of a certificate are read from left to right: the part as it is written, or the first fault.
use Rattle.std.specs.Prelude.{ℕ, zero, suc, ◌-◌, ◌%◌, ℤ, Bool, true, false, ◌&&◌, ◌||◌, not, List, [], ◌∷◌, ◌++◌, Option, None, Some, codes, nat_eq, nat_le, nat_lt}
use Rattle.std.specs.List.{list_any}
use Rattle.ev_model.specs.Network.{Network, is_customer, node_count, scaled_limit}
use Rattle.ev_text.specs.Readers.{Reader, answer, behind_word, choice_at, each_from, exactly_from, list_at, number_where, optional_at, signed_at, then_reads}
use Rattle.ev_text.specs.Scans.{whole_at}
use Rattle.ev_text.specs.Lines.{line_of}
use Rattle.route_plan.specs.Limits.{greatest_number}
use Rattle.route_plan.specs.PlanReading.{stop_at}
use Rattle.route_plan.specs.declared.plan.RoutePlan.{RoutePlan}
use Rattle.certificate_parts.specs.Limits.{greatest_bound, greatest_price, greatest_weight, most_items}
use Rattle.certificate_parts.specs.Ranges.{customer_count, same_entry}
use Rattle.certificate_parts.specs.Written.{WrittenLabel}
use Rattle.certificate_parts.specs.declared.entry.BasisEntry.{BasisEntry}
use Rattle.certificate_parts.specs.declared.entry.BasisEntry.TheVariants.{Helper, Column}

-- the node is that of a customer
abbrev pub is_customer_node : Network → ℕ → Bool
is_customer_node g node = nat_lt node (node_count g) && is_customer g node

-- the depot or a customer
abbrev pub is_place : Network → ℕ → Bool
is_place g node = nat_eq node 0 || is_customer_node g node

-- a node that keeps a rule
abbrev pub node_where : (ℕ → Bool) → Reader ℕ
node_where keeps = number_where greatest_number keeps

-- a weight of shares, or a share
abbrev pub weight_at : Reader ℕ
weight_at = number_where greatest_weight (λ n. nat_le 1 n)

-- the bound, or none
abbrev pub bound_behind : Bool → Reader (Option ℕ)
bound_behind true = answer None
bound_behind false =
    then_reads (whole_at greatest_bound) (λ bound. behind_word (10 ∷ []) (answer (Some bound)))

abbrev pub bound_at : Reader (Option ℕ)
bound_at =
    behind_word (codes "bound ") (then_reads (choice_at (codes "none" ++ 10 ∷ [])) bound_behind)

-- the stops of a plan, up to the end of the line
abbrev pub plan_line : Reader RoutePlan
plan_line =
    then_reads (list_at (codes " ") (10 ∷ []) stop_at) (λ stops. answer (record { stops = stops }))

-- an entry of a basis that is none of the earlier ones
abbrev pub entry_behind : Network → ℕ → List BasisEntry → Bool → Reader BasisEntry
entry_behind g columns earlier true =
    then_reads (node_where (λ node. is_customer_node g node
    && not (list_any (same_entry (Helper node)) earlier))) (λ node. answer (Helper node))
entry_behind g columns earlier false =
    then_reads (number_where most_items (λ number. nat_lt number columns
    && not (list_any (same_entry (Column number)) earlier))) (λ number. answer (Column number))

abbrev pub entry_at : Network → ℕ → List BasisEntry → Reader BasisEntry
entry_at g columns earlier = then_reads (optional_at (codes "h")) (entry_behind g columns earlier)

abbrev pub basis_at : Network → ℕ → Reader (List BasisEntry)
basis_at g columns =
    line_of (codes "basis") (entry_at g columns) (λ earlier entry. entry ∷ earlier)
    (customer_count g) []

-- so many entries, parted by spaces, up to the end of the line
abbrev pub entries_at : Network → ℕ → ℕ → Reader (List BasisEntry)
entries_at g columns zero = behind_word (10 ∷ []) (answer [])
entries_at g columns (suc count) =
    then_reads (entry_at g columns []) (λ first.
    then_reads (exactly_from (codes " ") (10 ∷ []) (entry_at g columns)
    (λ earlier entry. entry ∷ earlier) count (first ∷ [])) (λ others.
    answer (first ∷ others)))

-- a customer above the one before
abbrev pub is_above : Option ℕ → ℕ → Bool
is_above None node = true
is_above (Some before) node = nat_lt before node

abbrev pub customer_at : Network → Option ℕ → Reader ℕ
customer_at g last = node_where (λ node. is_customer_node g node && is_above last node)

-- a set, and the byte that ends it
abbrev pub set_behind : Network → ℕ → Bool → Reader (List ℕ)
set_behind g mark true = behind_word (mark ∷ []) (answer [])
set_behind g mark false =
    then_reads (customer_at g None) (λ first.
    then_reads (each_from (codes ",") (mark ∷ []) (customer_at g) (λ before node. Some node)
    (Some first))
    (λ others. answer (first ∷ others)))

abbrev pub set_at : Network → ℕ → Reader (List ℕ)
set_at g mark = then_reads (optional_at (codes "-")) (set_behind g mark)

-- a level above the one before, and a time that may follow the one before
abbrev pub is_higher : Option (ℕ × ℕ) → ℕ → Bool
is_higher None level = true
is_higher (Some before) level = nat_lt before.0 level

abbrev pub is_later : Option (ℕ × ℕ) → ℕ → ℕ → Bool
is_later None level time = true
is_later (Some before) level time =
    nat_le before.1 time && nat_eq ((time - before.1) % (level - before.0)) 0

abbrev pub point_at : Network → Option (ℕ × ℕ) → Reader (ℕ × ℕ)
point_at g last =
    then_reads (number_where g.capacity (is_higher last)) (λ level.
    behind_word (codes ":")
    (then_reads (number_where (scaled_limit g) (is_later last level)) (λ time.
    answer (level, time))))

-- the points of a label: one at least, parted by spaces, up to the end of the line
abbrev pub points_at : Network → Reader (List (ℕ × ℕ))
points_at g =
    then_reads (point_at g None) (λ first.
    then_reads (each_from (codes " ") (10 ∷ []) (point_at g) (λ before point. Some point)
    (Some first))
    (λ others. answer (first ∷ others)))

abbrev pub label_at : Network → Reader WrittenLabel
label_at g =
    behind_word (codes "label ") (then_reads (node_where (is_place g)) (λ last.
    behind_word (codes " ") (then_reads (node_where (λ node. nat_lt node (node_count g))) (λ node.
    behind_word (codes " ") (then_reads (set_at g 32) (λ served.
    then_reads (points_at g) (λ points.
    answer (record { last = last; node = node; served = served; points = points }))))))))

-- so many prices, parted by spaces, up to the end of the line
abbrev pub price_row : ℕ → Reader (List ℤ)
price_row zero = behind_word (10 ∷ []) (answer [])
price_row (suc count) =
    then_reads (signed_at greatest_price) (λ first.
    then_reads (exactly_from {S = Unit {0}} (codes " ") (10 ∷ []) (λ none. signed_at greatest_price)
    (λ none price. none) count (tt {0})) (λ others.
    answer (first ∷ others)))

-- a price for each customer; none depends on another
abbrev pub prices_at : Network → Reader (List ℤ)
prices_at g =
    line_of (codes "prices") (λ none. signed_at greatest_price) (λ none price. none)
    (customer_count g) (tt {0})
