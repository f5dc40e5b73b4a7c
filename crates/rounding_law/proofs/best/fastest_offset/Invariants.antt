use Rattle.rounding_law.proofs.Fastest.{IsBestBelow}
use Rattle.rounding_law.proofs.best.fastest_offset.Given as goal

-- the fastest among the offsets that were tried
abbrev pub invariant-loop-j : goal.invariant-loop-j
invariant-loop-j l = IsBestBelow l.inst l.p.k l.start l.p.stops l.j l.fastest l.least
