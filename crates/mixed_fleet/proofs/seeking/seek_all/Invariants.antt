use Rattle.std.specs.List.{All}
use Rattle.price_loop.specs.Problems.{IsEarning}
use Rattle.mixed_fleet.specs.Problem.{problem_of}
use Rattle.mixed_fleet.proofs.seeking.seek_all.Given as goal

abbrev pub invariant-loop-kind : goal.invariant-loop-kind
invariant-loop-kind l = All (IsEarning (problem_of l.kinds) l.weight l.prices) l.found.items
