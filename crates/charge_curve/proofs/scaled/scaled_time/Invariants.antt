use Rattle.std.proofs.Common.{◌≡◌, drop}
use Rattle.ev_model.specs.Curve.{charge_time}
use Rattle.charge_curve.proofs.scaled.scaled_time.Given as goal

-- the level is on the breakpoints that are left
abbrev pub invariant-loop-index : goal.invariant-loop-index
invariant-loop-index l = charge_time l.d (drop l.index l.points) l.level ≡ charge_time l.d l.points l.level
