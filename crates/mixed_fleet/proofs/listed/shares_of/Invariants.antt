use Rattle.std.proofs.Common.{◌≡◌, ◌++◌, drop, map}
use Rattle.mixed_fleet.specs.Shares.{share_at}
use Rattle.mixed_fleet.proofs.listed.shares_of.Given as goal

abbrev pub invariant-loop-column : goal.invariant-loop-column
invariant-loop-column l = l.found.items ++ map (share_at l.helpers l.routes) (drop l.column-index l.shares) ≡ map (share_at l.helpers l.routes) l.shares
