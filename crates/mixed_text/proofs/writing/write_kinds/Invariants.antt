use Rattle.std.proofs.Common.{◌≡◌, ◌++◌, drop, map}
use Rattle.mixed_text.specs.MixedTexts.{kinds_text}
use Rattle.mixed_text.specs.Written.{written_labels}
use Rattle.mixed_text.proofs.writing.write_kinds.Given as goal

abbrev pub invariant-loop-kind : goal.invariant-loop-kind
invariant-loop-kind l = l.text.items ++ kinds_text l.kind (map (written_labels l.inst) (drop l.kind l.lists)) ≡ l.fn.text.items ++ kinds_text 0 (map (written_labels l.inst) l.lists)
