use Rattle.std.proofs.Common.{take}
use Rattle.std.specs.List.{All}
use Rattle.bound_certificate.specs.Ranges.{ShareFits}
use Rattle.bound_certificate.proofs.ranges.root.each_share_fits.Given as goal

abbrev pub invariant-loop-share : goal.invariant-loop-share
invariant-loop-share l = All (ShareFits) (take l.share-index l.shares)
