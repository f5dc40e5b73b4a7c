use Rattle.std.proofs.Common.{◌≡◌, ◌++◌, drop, map}
use Rattle.mixed_fleet.specs.declared.searched.Searched.{Searched}
use Rattle.mixed_fleet.proofs.listed.columns_of.Given as goal

abbrev pub invariant-loop-searched : goal.invariant-loop-searched
invariant-loop-searched l = l.columns.items ++ map (λ (r : Searched). r.route) (drop l.searched-index l.routes) ≡ map (λ (r : Searched). r.route) l.routes
