use Rattle.std.proofs.Common.{◌≡◌, ◌-◌, ◌++◌, length, replicate}
use Rattle.instance_reader.proofs.build.pad_with_zeros.Given as goal

abbrev pub invariant-loop-node : goal.invariant-loop-node
invariant-loop-node l =
    l.process_times.items ≡ l.initial.process_times.items ++ replicate (l._node - length l.initial.process_times.items) 0
