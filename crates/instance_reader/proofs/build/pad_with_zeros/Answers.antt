use Rattle.std.proofs.Common.{◌≡◌, ◌+◌, ◌-◌, ◌≤◌, length, refl, arith, append_assoc, rules}
use Rattle.std.proofs.lemmas.Grind.{replicate_next}
use Rattle.instance_reader.proofs.build.pad_with_zeros.Goals as goal

pub loop-node-preserved : goal.loop-node-preserved
loop-node-preserved c =
    let before = c.args.process_times.items in
    let from : length before ≤ c.loop-node._node = search rules in
    let next : c.loop-node._node + 1 - length before ≡ (c.loop-node._node - length before) + 1 = omega arith in
    rw (next, replicate_next, c.in_ok-push.ensures.items, c.loop-node.invariant, append_assoc) refl
