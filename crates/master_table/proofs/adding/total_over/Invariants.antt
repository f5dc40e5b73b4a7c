use Rattle.std.proofs.Common.{◌≡◌, ◌≤◌, ◌*◌, ◌^◌, ◌+ℤ◌, drop, unsigned_abs}
use Rattle.fleet_model.specs.Equations.{serves, route, total_from}
use Rattle.master_table.proofs.adding.total_over.Given as goal

abbrev pub invariant-loop-c : goal.invariant-loop-c
invariant-loop-c l = record {
  sum : l.sum +ℤ total_from (serves (route l.set 0)) l.c (drop l.c l.multipliers) ≡ total_from (serves (route l.set 0)) 0 l.multipliers;
  small : unsigned_abs l.sum ≤ l.c * 2 ^ 84;
}
