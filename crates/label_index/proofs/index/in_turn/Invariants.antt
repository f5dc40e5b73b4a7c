use Rattle.std.specs.List.{All}
use Rattle.label_index.specs.Entries.{HasEntries, IsEntry}
use Rattle.label_index.proofs.index.in_turn.Given as goal

abbrev pub invariant-loop-number : goal.invariant-loop-number
invariant-loop-number g l = record {
  each : All (IsEntry (g.I.Indexing.key_of l.indexing) g.I.Indexing.value_of (g.I.Indexing.keeps l.indexing) l.labels) l.entries.items;
  every : HasEntries l.number l.entries.items;
}
