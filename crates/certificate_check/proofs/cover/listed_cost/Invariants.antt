use Rattle.std.proofs.Common.{◌≡◌, ◌+◌, drop}
use Rattle.certificate_check.specs.Shares.{listed_cost}
use Rattle.certificate_check.proofs.cover.listed_cost.Given as goal

abbrev pub invariant-loop-share : goal.invariant-loop-share
invariant-loop-share l = l.cost + listed_cost (drop l.share-index l.shares) ≡ listed_cost l.shares
