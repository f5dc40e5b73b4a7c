-- The table before any pivot: the basis is the helpers.
use Rattle.std.specs.Prelude.{ℕ, ◌+◌, ℤ, pos, map, cond, nat_eq, nat_lt}
use Rattle.std.specs.List.{range_with_len}
use Rattle.fleet_model.specs.Equations.{helpers}
use Rattle.master_table.specs.Tableau.{Equation, Limits, Tableau}

-- the entry of row i at the helper of customer c: 1 in the customer's own row, 0 in the cost row, 1 in the helper row
abbrev pub fresh_entry : ℕ → ℕ → ℕ → ℤ
fresh_entry n i c =
    cond (nat_lt i n) (cond (nat_eq c i) (pos 1) (pos 0)) (cond (nat_eq i n) (pos 0) (pos 1))

abbrev pub fresh_row : ℕ → ℕ → Equation
fresh_row n i = record {
  weight = cond (nat_lt i n) (pos 0) (pos 1);
  right = cond (nat_lt i n) (pos 1) (cond (nat_eq i n) (pos 0) (pos n));
  entries = map (fresh_entry n i) (range_with_len 0 n);
}

abbrev pub fresh : ℕ → Limits → Tableau
fresh n caps = record {
  rows = map (fresh_row n) (range_with_len 0 (n + 2));
  basis = range_with_len 0 n;
  columns = helpers n;
  caps = caps;
}
