use Rattle.std.proofs.Common.{◌≡◌, ◌+◌, ◌*◌, ◌^◌, ◌<◌, ◌≤◌, ◌++◌, ◌∷◌, [], drop, length}
use Rattle.frvcp_labels.specs.Bounds.{lists_in, way_sum}
use Rattle.frvcp_labels.proofs.bounds.WayCosts.sum.Given as goal

abbrev pub invariant-loop-to : goal.invariant-loop-to
invariant-loop-to l = record {
  from : l.from < length l.self.layers.items;
  small : l.sum ≤ l.to-index * 2 ^ 64;
  rest : l.sum + way_sum (lists_in l.self.layers.items) l.from (drop l.to-index l.order ++ 0 ∷ [])
      ≡ way_sum (lists_in l.self.layers.items) 0 (l.order ++ 0 ∷ []);
}
