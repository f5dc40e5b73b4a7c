use Rattle.std.proofs.Common.{◌≡◌, ◌≤◌, length, take, ◌-◌}
use Rattle.ev_outside.proofs.streams.write_whole.Given as goal

abbrev pub invariant-loop-at : goal.invariant-loop-at
invariant-loop-at g l = record {
  takes : g.S.Stream.takes l.initial.stream (take l.at l.bytes) l.stream;
  within : l.at ≤ length l.bytes;
  stays : g.S.Stream.failed l.stream ≡ g.S.Stream.failed l.initial.stream;
  asked : g.S.Stream.asked l.stream ≡ g.S.Stream.asked l.initial.stream;
}

abbrev pub decreases-loop-at : goal.decreases-loop-at
decreases-loop-at g l = length l.bytes - l.at
