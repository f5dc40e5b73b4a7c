use Rattle.std.proofs.Common.{ℕ, ◌<◌, List, subst, sym}
use Rattle.std.specs.List.{All}
use Rattle.mixed_fleet.specs.Fleets.{AreFleetKinds}
use Rattle.mixed_fleet.proofs.Once.{numbers_small}
use Rattle.mixed_fleet.proofs.earners.KindsEarnersEarners.set.Goals as goal

pub set_of-requires : goal.set_of-requires
set_of-requires c =
    let fleet = subst AreFleetKinds c.self.view_is c.self.invariant in
    subst (λ (ns : List ℕ). All (λ x. x < 128) ns) (sym c.as_slice.ensures) (numbers_small c.args.self.now fleet c.args.route.now c.requires)
