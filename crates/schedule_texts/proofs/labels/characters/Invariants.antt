use Rattle.std.proofs.Common.{◌≡◌, ◌≤◌, ◌+◌, drop}
use Rattle.schedule_texts.specs.Labels.{characters}
use Rattle.schedule_texts.proofs.labels.characters.Given as goal

abbrev pub invariant-loop-byte : goal.invariant-loop-byte
invariant-loop-byte l = record {
  value : l.count + characters (drop l.byte-index l.text) ≡ characters l.text;
  few : l.count ≤ l.byte-index;
}
