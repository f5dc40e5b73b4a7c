use Rattle.std.proofs.Common.{take}
use Rattle.std.specs.List.{AllZip}
use Rattle.mixed_model.specs.Tellings.{IsSharedIn}
use Rattle.mixed_model.proofs.routes.shared_routes.Given as goal

abbrev pub invariant-loop-share : goal.invariant-loop-share
invariant-loop-share l = AllZip (IsSharedIn l.kinds) (take l.share-index l.shares) l.routes.items
