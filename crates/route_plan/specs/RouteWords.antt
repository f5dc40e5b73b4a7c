-- The word of a route: decimal numbers joined by single commas.
use Rattle.std.specs.Prelude.{◌≡◌, ◌≢◌, ℕ, zero, suc, ◌≤◌, ◌==◌, List, [], ◌∷◌, ◌++◌, length, decimal, if◌then◌else◌, Result, Ok, Err}
use Rattle.std.specs.List.{All}
use Rattle.ev_text.specs.Scans.{and_then, rest_of, whole_at, word_at}
use Rattle.ev_text.specs.declared.TextFault.{TextFault}
use Rattle.route_plan.specs.Limits.{greatest_number}
use Rattle.route_plan.specs.declared.route.RouteFault.{RouteFault}
use Rattle.route_plan.specs.declared.route.RouteFault.TheVariants.{Text}

-- the nodes as numbers joined by commas
abbrev pub route_text : List ℕ → List ℕ
route_text [] = []
route_text (n ∷ []) = decimal n
route_text (n ∷ m ∷ ns) = decimal n ++ 44 ∷ route_text (m ∷ ns)

-- the word spells these nodes: at least one, each at most 10^9
pub record SpellsRoute (word nodes : List ℕ) : Type 0 where
  pub some : nodes ≢ []
  pub small : All (λ node. node ≤ greatest_number) nodes
  pub text : word ≡ route_text nodes

-- what was taken, or else a number or a comma was expected where the scan stands
abbrev pub or_text : {A : Type 0} → List ℕ × ℕ → Result A TextFault → Result A RouteFault
or_text s (Ok taken) = Ok taken
or_text s (Err fault) = Err (Text s.1)

-- the number of a node at the scan
abbrev pub read_node : List ℕ × ℕ → Result (ℕ × (List ℕ × ℕ)) RouteFault
read_node s = or_text s (whole_at (greatest_number) s)

-- a comma at the scan
abbrev pub read_comma : List ℕ × ℕ → Result (List ℕ × ℕ) RouteFault
read_comma s = or_text s (word_at (44 ∷ []) s)

-- a comma and the number of the next node at the scan
abbrev pub read_next : List ℕ × ℕ → Result (ℕ × (List ℕ × ℕ)) RouteFault
read_next s = and_then (read_comma s) read_node

-- nodes in front of others
abbrev pub with_nodes : List ℕ → Result (List ℕ) RouteFault → Result (List ℕ) RouteFault
with_nodes first (Ok rest) = Ok (first ++ rest)
with_nodes first (Err fault) = Err fault

-- the nodes that follow, each behind a comma, up to the end of the word; no word has more of them than bytes
abbrev pub more_nodes : ℕ → List ℕ × ℕ → Result (List ℕ) RouteFault
more_nodes zero s = Ok []
more_nodes (suc most) s =
    if length (rest_of s) == 0 then Ok []
    else and_then (read_next s) (λ found. with_nodes (found.0 ∷ []) (more_nodes most found.1))

-- the nodes of a word, or where its first number or comma is missing
abbrev pub nodes_in : List ℕ → Result (List ℕ) RouteFault
nodes_in word =
    and_then (read_node (word, 0))
    (λ found. with_nodes (found.0 ∷ []) (more_nodes (length word) found.1))

-- the bytes begin the word of a route: they are one, or can be continued to one
abbrev pub BeginsRouteWord : List ℕ → Type 0
BeginsRouteWord bytes = (more : List ℕ) × ((nodes : List ℕ) × SpellsRoute (bytes ++ more) nodes)
