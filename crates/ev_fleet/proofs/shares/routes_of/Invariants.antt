use Rattle.std.proofs.Common.{◌≡◌, ◌++◌, drop, map}
use Rattle.ev_fleet.proofs.shares.routes_of.Given as goal

abbrev pub invariant-loop-share : goal.invariant-loop-share
invariant-loop-share l =
    l.routes.items ++ map (λ x. x.plan) (drop l.share-index l.shares) ≡ map (λ x. x.plan) l.shares
