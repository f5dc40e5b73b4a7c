use Rattle.std.proofs.Common.{◌≡◌, ◌++◌, drop, map}
use Rattle.ev_text.specs.Texts.{joined_texts}
use Rattle.near_text.specs.NearTexts.{near_line}
use Rattle.near_text.specs.Written.{written_set}
use Rattle.tree_text.proofs.writing.sets.write_nears.Given as goal

abbrev pub invariant-loop-set : goal.invariant-loop-set
invariant-loop-set l = l.text.items ++ joined_texts near_line (map (written_set l.inst) (drop l.set-index l.sets)) ≡ l.fn.text.items ++ joined_texts near_line (map (written_set l.inst) l.sets)
