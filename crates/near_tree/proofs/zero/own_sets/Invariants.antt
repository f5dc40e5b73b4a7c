use Rattle.std.proofs.Common.{◌≡◌}
use Rattle.std.specs.List.{All}
use Rattle.customer_sets.specs.SetBelow.{IsSetBelow}
use Rattle.near_tree.specs.Zero.{singles}
use Rattle.near_tree.proofs.zero.own_sets.Given as goal

abbrev pub invariant-loop-number : goal.invariant-loop-number
invariant-loop-number l = record {
  sets : l.sets.items ≡ singles l.number;
  kept : All (IsSetBelow 448) l.sets.items;
}
