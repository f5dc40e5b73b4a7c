use Rattle.std.proofs.Common.{arith}
use Rattle.route_proof.proofs.EntryLooks.{past_bar}
use Rattle.route_proof.proofs.asking.AskedCovering.reach.Goals as goal

pub returns-then-bar-time-clause-some : goal.returns-then-bar-time-clause-some
returns-then-bar-time-clause-some c =
    past_bar c.args.self.now.judged.now c.args.self.now.place c.args.value.now c.args.level c.last_level.result c.last_level.ensures.valid c.requires.level c.last_level.ensures.value
    (omega (arith, c.if-bar-time.true, c.bar.ensures, c.in-Some.ensures.some))
