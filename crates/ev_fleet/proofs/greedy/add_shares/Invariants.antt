use Rattle.std.proofs.Common.{◌≡◌, drop, map}
use Rattle.ev_fleet.specs.Greedy.{with_all_apart}
use Rattle.ev_fleet.proofs.greedy.add_shares.Given as goal

abbrev pub invariant-loop-share : goal.invariant-loop-share
invariant-loop-share l =
    with_all_apart l.routes.items (map (λ x. x.plan) (drop l.share-index l.shares))
    ≡ with_all_apart l.initial.routes.items (map (λ x. x.plan) l.shares)
