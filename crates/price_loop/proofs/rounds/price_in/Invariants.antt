use Rattle.std.proofs.Common.{◌-◌, ◌^◌, length}
use Rattle.price_loop.specs.Masters.{IsMaster}
use Rattle.price_loop.proofs.rounds.price_in.Given as goal

abbrev pub invariant-loop-lp : goal.invariant-loop-lp
invariant-loop-lp g l = IsMaster (g.E.Earners.problem l.earners) l.fn.master.table.caps l.master

abbrev pub decreases-loop-lp : goal.decreases-loop-lp
decreases-loop-lp g l = 2 ^ 64 - length l.master.routes.items
