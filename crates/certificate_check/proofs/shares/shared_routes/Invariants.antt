use Rattle.std.proofs.Common.{take}
use Rattle.certificate_check.specs.Shares.{AreShared}
use Rattle.certificate_check.proofs.shares.shared_routes.Given as goal

abbrev pub invariant-loop-share : goal.invariant-loop-share
invariant-loop-share l = AreShared l.inst (take l.share-index l.shares) l.routes.items
