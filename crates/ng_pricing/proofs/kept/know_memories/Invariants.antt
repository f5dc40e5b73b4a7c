use Rattle.std.proofs.Common.{take}
use Rattle.std.specs.List.{All}
use Rattle.near_text.specs.NearIn.{HasMemory}
use Rattle.ng_pricing.proofs.kept.know_memories.Given as goal

abbrev pub invariant-loop-label : goal.invariant-loop-label
invariant-loop-label l = All HasMemory (take l.label-index l.labels)
