use Rattle.std.proofs.Common.{◌≡◌, ◌++◌, drop}
use Rattle.certificate_parts.specs.Written.{nodes_in}
use Rattle.tree_text.proofs.writing.sets.nodes_in.Given as goal

abbrev pub invariant-loop-number : goal.invariant-loop-number
invariant-loop-number l = l.nodes.items ++ nodes_in l.set l.number (drop l.number l.customers) ≡ nodes_in l.set 0 l.customers
