use Rattle.std.proofs.Common.{ℕ, ◌<◌, List, length, subst, sym}
use Rattle.std.specs.List.{All}
use Rattle.mixed_fleet.specs.Fleets.{AreFleetKinds}
use Rattle.mixed_fleet.proofs.Once.{numbers_below}
use Rattle.mixed_fleet.proofs.earners.KindsEarnersEarners.worth.Goals as goal

pub worth-requires : goal.worth-requires
worth-requires c =
    let fleet = subst AreFleetKinds c.self.view_is c.self.invariant in
    let below = numbers_below c.args.self.now fleet c.args.route.now c.requires.route in
    let within = subst (λ (n : ℕ). All (λ x. x < n) c.args.route.now.numbers) (sym c.requires.one_price) below in
    subst (λ (ns : List ℕ). All (λ x. x < length c.args.of.now) ns) (sym c.as_slice.ensures) within
