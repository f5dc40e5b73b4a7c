use Rattle.std.proofs.Common.{◌≡◌, ◌+◌, ◌*◌, ◌^◌, ◌≤◌, drop}
use Rattle.certificate_check.specs.Shares.{shares_at}
use Rattle.certificate_check.proofs.cover.shares_at.Given as goal

abbrev pub invariant-loop-share : goal.invariant-loop-share
invariant-loop-share l = record {
  told : l.sum + shares_at l.customer (drop l.share-index l.shares) ≡ shares_at l.customer l.shares;
  small : l.sum ≤ l.share-index * 2 ^ 64;
}
