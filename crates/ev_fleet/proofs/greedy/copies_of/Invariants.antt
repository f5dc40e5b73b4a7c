use Rattle.std.proofs.Common.{◌≡◌, ◌++◌, drop}
use Rattle.ev_fleet.proofs.greedy.copies_of.Given as goal

abbrev pub invariant-loop-share : goal.invariant-loop-share
invariant-loop-share l = l.copies.items ++ drop l.share-index l.shares ≡ l.shares
