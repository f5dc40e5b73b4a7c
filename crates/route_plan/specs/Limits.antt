-- The limits of routes and of texts.
use Rattle.std.specs.Prelude.{ℕ, ◌^◌}

-- the greatest number of a node, and the greatest amount, in a text
abbrev pub greatest_number : ℕ
greatest_number = 10 ^ 9

-- the most nodes of a route
abbrev pub most_route_nodes : ℕ
most_route_nodes = 400

-- the most routes of a fleet plan in a text
abbrev pub most_routes : ℕ
most_routes = 10 ^ 6

-- the most bytes of a text
abbrev pub most_bytes : ℕ
most_bytes = 2 ^ 26
