use Rattle.std.specs.List.{All}
use Rattle.ev_fleet.specs.Splitting.{IsChoice}
use Rattle.ev_fleet.proofs.pair.partly_used.Given as goal

abbrev pub invariant-loop : goal.invariant-loop
invariant-loop l = All (IsChoice l.tree l.key) l.chosen.items
