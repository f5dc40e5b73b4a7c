use Rattle.std.proofs.Common.{◌≡◌, ◌++◌, drop}
use Rattle.ev_text.specs.Texts.{joined_texts}
use Rattle.mixed_text.specs.MixedTexts.{mixed_column_text}
use Rattle.mixed_text.proofs.writing.root.write_each_column.Given as goal

abbrev pub invariant-loop-column : goal.invariant-loop-column
invariant-loop-column l = l.text.items ++ joined_texts mixed_column_text (drop l.column-index l.columns) ≡ l.fn.text.items ++ joined_texts mixed_column_text l.columns
