use Rattle.std.proofs.Common.{◌≡◌, ℕ, ◌+◌, ◌*◌, ◌<◌, ◌≤◌, Some, None, length}
use Rattle.level_table.specs.Places.{entry_count}
use Rattle.level_table.specs.Table.{entry_at}
use Rattle.level_table.proofs.trip.Trip.mark_home.Given as goal

abbrev pub invariant-loop-index : goal.invariant-loop-index
invariant-loop-index l = record {
  count : length l.entries ≡ entry_count l.self.network l.self.route + (l.self.network.capacity + 1) * 2;
  before : (i : ℕ) → i < entry_count l.self.network l.self.route → entry_at l.entries i ≡ None;
  home : (i : ℕ) → entry_count l.self.network l.self.route ≤ i → i < l.index → entry_at l.entries i ≡ Some (record { time = 0; steps = 0 });
}
