-- How the text of a near proof is read from left to right: the proof as it is written, or the first
-- fault.
use Rattle.std.specs.Prelude.{ℕ, zero, suc, ◌+◌, Bool, true, false, ◌||◌, List, [], ◌∷◌, ◌++◌, Option, None, Some, Ok, Err, codes, length, nat_eq, nat_lt, if◌then◌else◌}
use Rattle.ev_model.specs.Network.{Network, node_count}
use Rattle.ev_text.specs.Readers.{Reader, answer, behind_word, exactly_from, many_from, optional_at, so_many, then_reads}
use Rattle.ev_text.specs.Scans.{and_then, rest_of, whole_at}
use Rattle.ev_text.specs.declared.TextFault.TheVariants.{TooLarge, End}
use Rattle.ev_text.specs.Lines.{line_of}
use Rattle.route_plan.specs.declared.plan.RoutePlan.{RoutePlan}
use Rattle.certificate_parts.specs.Limits.{greatest_bound, most_items}
use Rattle.certificate_parts.specs.Ranges.{customer_count}
use Rattle.certificate_parts.specs.Reading.{bound_at, customer_at, node_where, plan_line, points_at, set_at}
use Rattle.certificate_parts.specs.Written.{customer_node}
use Rattle.near_proof.specs.Ranges.{greatest_near_price, tight_count}
use Rattle.near_text.specs.Written.{WrittenNear, WrittenNearLabel}

abbrev pub price_at : Unit {0} → Reader ℕ
price_at none = whole_at greatest_near_price

-- so many prices, parted by spaces, up to the end of the line
abbrev pub price_row : ℕ → Reader (List ℕ)
price_row zero = behind_word (10 ∷ []) (answer [])
price_row (suc count) =
    then_reads (whole_at greatest_near_price) (λ first.
    then_reads (exactly_from {S = Unit {0}} (codes " ") (10 ∷ []) price_at (λ none price. none)
    count (tt {0})) (λ others. answer (first ∷ others)))

-- a price for each customer; none depends on another
abbrev pub prices_at : Network → Reader (List ℕ)
prices_at g =
    line_of (codes "prices") price_at (λ none price. none) (customer_count g) (tt {0})

-- the end of a set: where it has its own customer, the line feed; where it lacks it, the last
-- number, which stands at a place, is out of range. A text that ends here may go on with a comma,
-- so it ends too early
abbrev pub own_end : Bool → ℕ → Reader (List ℕ)
own_end true at s = behind_word (10 ∷ []) (answer []) s
own_end false at s =
    if nat_eq (length (rest_of s)) 0 then Err (End s.1) else Err (TooLarge at)

-- customers in rising order, parted by commas, and the end of the set; at most so many. Whether the
-- set's own customer was among those before is told
abbrev pub few_own : Network → ℕ → ℕ → Bool → Option ℕ → Reader (List ℕ)
few_own g own zero had last s = Err (End s.1)
few_own g own (suc most) had last s =
    and_then (customer_at g last s) (λ first.
    and_then (and_then (optional_at (codes ",") first.1) (λ marked.
    if marked.0 then few_own g own most (had || nat_eq first.0 own) (Some first.0) marked.1
    else own_end (had || nat_eq first.0 own) s.1 marked.1)) (λ others.
    Ok (first.0 ∷ others.0, others.1)))

-- a set that has the customer at the node `own`, up to the end of the line; no text has more
-- customers than bytes
abbrev pub own_set_at : Network → ℕ → Reader (List ℕ)
own_set_at g own s =
    and_then (optional_at (codes "-") s) (λ marked.
    if marked.0 then Err (TooLarge s.1)
    else few_own g own (length s.0) false None marked.1)

-- the near set of the customer with a number
abbrev pub near_at : Network → ℕ → Reader (List ℕ)
near_at g c = behind_word (codes "near ") (own_set_at g (customer_node g c))

-- the near sets of the customers from a number on
abbrev pub nears_at : Network → ℕ → ℕ → Reader (List (List ℕ))
nears_at g count c = many_from (near_at g) (λ c set. c + 1) count c

abbrev pub near_label_at : Network → Reader WrittenNearLabel
near_label_at g =
    behind_word (codes "label ")
    (then_reads (node_where (λ node. nat_lt node (node_count g))) (λ node.
    behind_word (codes " ") (then_reads (set_at g 32) (λ memory.
    then_reads (whole_at (customer_count g)) (λ count.
    behind_word (codes " ") (then_reads (whole_at greatest_bound) (λ earned.
    behind_word (codes " ") (then_reads (points_at g) (λ points.
    answer (record {
      node = node;
      memory = memory;
      count = count;
      earned = earned;
      points = points;
    }))))))))))

abbrev pub tight_at : Reader RoutePlan
tight_at = behind_word (codes "tight ") plan_line

-- the lines behind that with the weight and the number of labels
abbrev pub lines_at : Network → Option ℕ → ℕ → ℕ → Reader WrittenNear
lines_at g bound weight count =
    then_reads (prices_at g) (λ prices.
    then_reads (nears_at g (customer_count g) 0) (λ sets.
    then_reads (so_many count (near_label_at g)) (λ labels.
    then_reads (so_many (tight_count (customer_count g) bound) tight_at) (λ tight.
    answer (record {
      bound = bound;
      weight = weight;
      prices = prices;
      sets = sets;
      labels = labels;
      tight = tight;
    })))))

-- the text behind its first line
abbrev pub near_body_at : Network → Reader WrittenNear
near_body_at g =
    then_reads bound_at (λ bound.
    behind_word (codes "section ") (then_reads (whole_at 1) (λ weight.
    behind_word (codes " ") (then_reads (whole_at most_items) (λ count.
    behind_word (10 ∷ []) (lines_at g bound weight count))))))

abbrev pub near_proof_at : Network → Reader WrittenNear
near_proof_at g = behind_word (codes "evroute near 1" ++ 10 ∷ []) (near_body_at g)
