use Rattle.std.proofs.Common.{◌≡◌}
use Rattle.ev_outside.proofs.StreamLemmas.{HasRead}
use Rattle.ev_outside.specs.Storage.{files_of, rest_of}
use Rattle.ev_outside.proofs.streams.read_up_to.Given as goal

abbrev pub invariant-loop-left : goal.invariant-loop-left
invariant-loop-left g l = record {
  read : HasRead (rest_of (g.S.Storage.told l.initial.storage)) (rest_of (g.S.Storage.told l.storage)) l.initial.into.items l.into.items l.most l.left;
  files : files_of (g.S.Storage.told l.storage) ≡ files_of (g.S.Storage.told l.initial.storage);
  stays : g.S.Stream.failed l.storage ≡ g.S.Stream.failed l.initial.storage;
  asked : g.S.Stream.asked l.storage ≡ g.S.Stream.asked l.initial.storage;
}

abbrev pub decreases-loop-left : goal.decreases-loop-left
decreases-loop-left g l = l.left
