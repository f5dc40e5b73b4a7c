use Rattle.std.proofs.Common.{◌≡◌, ◌++◌, map, drop}
use Rattle.bound_certificate.specs.Meaning.{route_shares}
use Rattle.column_pool.specs.Columns.{share_of}
use Rattle.column_pool.proofs.exact.shares_of.Given as goal

abbrev pub invariant-loop-column : goal.invariant-loop-column
invariant-loop-column l = route_shares l.found.items ++ map (share_of l.helpers l.routes) (drop l.column-index l.shares) ≡ map (share_of l.helpers l.routes) l.shares
