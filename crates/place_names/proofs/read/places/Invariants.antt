use Rattle.std.proofs.Common.{◌≡◌, ◌++◌, map, drop}
use Rattle.serde_json.specs.View.{view}
use Rattle.place_names.specs.Entries.{place_in}
use Rattle.place_names.specs.Reading.{entries_fault}
use Rattle.place_names.proofs.read.places.Given as goal

abbrev pub invariant-loop-index : goal.invariant-loop-index
invariant-loop-index l = record {
  kind : entries_fault l.points_needed l.index (map view (drop l.index l.entries))
      ≡ entries_fault l.points_needed 0 (map view l.entries);
  value : l.places.items ++ map place_in (map view (drop l.index l.entries)) ≡ map place_in (map view l.entries);
}
