-- A depot and three customers, of whom a battery reaches two: worked trees with counts of routes.
use Rattle.std.specs.Prelude.{ℕ, ℤ, pos, negsuc, List, [], ◌∷◌, None}
use Rattle.ev_model.specs.Network.{Network}
use Rattle.near_tree.specs.Branches.{at_most, Branch, whole}
use Rattle.near_tree.specs.Examples.Labels.{at_start, label}
use Rattle.near_tree.specs.Sections.{after, LeafLabel, NearSection}
use Rattle.near_tree.specs.Trees.{entries, leaf, NearTree}

-- to each customer it is an arc of 10, and between two of them an arc of `between`
abbrev pub three_customers : ℕ → Network
three_customers between = record {
  capacity = 4;
  reserve = 0;
  home_level = 0;
  energies = (0 ∷ 1 ∷ 1 ∷ 1 ∷ []) ∷ (1 ∷ 0 ∷ 2 ∷ 2 ∷ []) ∷ (1 ∷ 2 ∷ 0 ∷ 2 ∷ []) ∷
      (1 ∷ 2 ∷ 2 ∷ 0 ∷ []) ∷ [];
  times = (0 ∷ 10 ∷ 10 ∷ 10 ∷ []) ∷ (10 ∷ 0 ∷ between ∷ between ∷ []) ∷
      (10 ∷ between ∷ 0 ∷ between ∷ []) ∷ (10 ∷ between ∷ between ∷ 0 ∷ []) ∷ [];
  process_times = 0 ∷ 0 ∷ 0 ∷ 0 ∷ [];
  curves = None ∷ None ∷ None ∷ None ∷ [];
  plug_times = 0 ∷ 0 ∷ 0 ∷ 0 ∷ [];
  denominator = 1;
  limit = 1000;
}

abbrev pub all_three : List ℕ
all_three = 0 ∷ 1 ∷ 2 ∷ []

-- each customer has the same price; the entries into the set of all three have one
abbrev section : ℕ → ℕ → ℤ → List LeafLabel → NearSection
section weight price entry_price labels = record {
  weight = weight;
  prices = pos price ∷ pos price ∷ pos price ∷ [];
  sets = (0 ∷ []) ∷ (1 ∷ []) ∷ (2 ∷ []) ∷ [];
  entry_prices = entry_price ∷ [];
  labels = labels;
}

-- a vehicle behind each customer
abbrev behind : ℤ → ℕ → ℕ → List LeafLabel
behind earned level time =
    label (after 1) 1 (0 ∷ []) earned level (time ∷ [])
    ∷ label (after 2) 2 (1 ∷ []) earned level (time ∷ [])
    ∷ label (after 3) 3 (2 ∷ []) earned level (time ∷ []) ∷ []

-- where two customers are as near to each other as to the depot, two routes are needed. With one
-- route there is no plan: each customer earns 1 and each route -2, so none earns anything, and
-- three customers less one route are 1
abbrev pub one_route : NearSection
one_route = section 0 1 (negsuc 1) (at_start 4 ∷
    label (after 1) 1 (0 ∷ []) (negsuc 0) 3 (10 ∷ [])
    ∷ label (after 2) 2 (1 ∷ []) (negsuc 0) 3 (10 ∷ [])
    ∷ label (after 3) 3 (2 ∷ []) (negsuc 0) 3 (10 ∷ [])
    ∷ behind (pos 0) 1 20)

-- with two routes at least each route earns 10 too
abbrev pub more_routes : NearSection
more_routes = section 1 10 (pos 10) (at_start 4 ∷ behind (pos 20) 3 10)

abbrev pub by_routes : NearTree
by_routes = entries 1 all_three (leaf one_route) (leaf more_routes)

-- where they are three times as far from each other, a route for each is best. With two routes at
-- most each customer earns 30 and each route -10: two of them, though there might be one
abbrev pub two_routes : NearSection
two_routes = section 1 30 (negsuc 9) (at_start 4 ∷ behind (pos 20) 3 10)

abbrev pub three_routes : NearSection
three_routes = section 1 20 (pos 0) (at_start 4 ∷ behind (pos 20) 3 10)

abbrev pub up_to_two : Branch
up_to_two = at_most 2 all_three whole

abbrev pub far_apart : NearTree
far_apart = entries 2 all_three (leaf two_routes) (leaf three_routes)
