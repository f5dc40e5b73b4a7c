use Rattle.std.proofs.Common.{◌≡◌, length}
use Rattle.label_search.proofs.groups.no_labels.Given as goal

abbrev pub invariant-loop : goal.invariant-loop
invariant-loop l = length l.all.items ≡ l.counter
