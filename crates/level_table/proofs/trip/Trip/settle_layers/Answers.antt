use Rattle.std.proofs.Common.{◌+◌, ◌-◌, ◌*◌, ◌≤◌, length, arith}
use Rattle.std.proofs.lemmas.Grind.{common_steps}
use Rattle.std.proofs.Math.Nat.{mul-le-mul_right}
use Rattle.level_table.specs.Stations.{stations}
use Rattle.level_table.proofs.trip.Trip.settle_layers.Goals as goal

pub settle-requires-clause-end : goal.settle-requires-clause-end
settle-requires-clause-end c =
    let layer = (length (stations c.args.self.now.network) + 1) * (c.args.self.now.network.capacity + 1) * 2 in
    let layers : (c.loop-passed.passed - 1 + 1) * layer ≤ (length c.args.self.now.route - 1) * layer =
    mul-le-mul_right layer (omega (arith, c.loop-passed.invariant.passed, c.loop-passed-test.true)) in
    rw (c.slots.ensures.value, c.levels.ensures.value) (omega (arith, layers))

pub loop-passed-preserved : goal.loop-passed-preserved
loop-passed-preserved = grind (arith, common_steps)

pub overflow_mul-passed : goal.overflow_mul-passed
overflow_mul-passed = grind (arith, common_steps)

pub loop-passed-init : goal.loop-passed-init
loop-passed-init = grind (arith, common_steps)
