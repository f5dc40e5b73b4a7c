use Rattle.std.proofs.Common.{◌≡◌, ◌++◌, drop, map}
use Rattle.mixed_model.specs.declared.proof.MixedShare.{MixedShare}
use Rattle.mixed_fleet.proofs.whole.routes_of.Given as goal

abbrev pub invariant-loop-share : goal.invariant-loop-share
invariant-loop-share l = l.routes.items ++ map (λ (x : MixedShare). x.route) (drop l.share-index l.shares) ≡ map (λ (x : MixedShare). x.route) l.shares
