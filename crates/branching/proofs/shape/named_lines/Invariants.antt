use Rattle.std.proofs.Common.{◌≡◌, map, take}
use Rattle.branching.specs.Shape.{named_line}
use Rattle.branching.proofs.shape.named_lines.Given as goal

abbrev pub invariant-loop-line : goal.invariant-loop-line
invariant-loop-line l = l.lines.items ≡ map (named_line l.nodes.slots) (take l.line-index l.shape)
