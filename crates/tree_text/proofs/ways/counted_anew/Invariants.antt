use Rattle.std.proofs.Common.{◌≡◌, ◌++◌, drop}
use Rattle.tree_text.specs.Ways.{counted_in}
use Rattle.tree_text.specs.Written.{narrowed}
use Rattle.tree_text.proofs.Counts.{anew_from}
use Rattle.tree_text.proofs.ways.counted_anew.Given as goal

abbrev pub invariant-loop-c : goal.invariant-loop-c
invariant-loop-c l = counted_in l.made.items ++ anew_from l.is_known (counted_in (drop l.c-index l.counted)) (record { set = l.set; least = l.least; most = l.most }) ≡ narrowed (counted_in l.counted) l.set l.least l.most
