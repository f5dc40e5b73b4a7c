use Rattle.std.proofs.Common.{◌≡◌, drop}
use Rattle.tree_text.specs.Reading.{is_counted}
use Rattle.tree_text.specs.Ways.{counted_in}
use Rattle.tree_text.proofs.ways.is_counted.Given as goal

abbrev pub invariant-loop-c : goal.invariant-loop-c
invariant-loop-c l = is_counted (counted_in (drop l.c-index l.counted)) l.set ≡ is_counted (counted_in l.counted) l.set
