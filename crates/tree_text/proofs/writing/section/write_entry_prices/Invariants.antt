use Rattle.std.proofs.Common.{◌≡◌, ◌++◌, drop}
use Rattle.ev_text.specs.Texts.{joined_texts}
use Rattle.tree_text.specs.TreeTexts.{entry_line}
use Rattle.tree_text.proofs.writing.section.write_entry_prices.Given as goal

abbrev pub invariant-loop-price : goal.invariant-loop-price
invariant-loop-price l = l.text.items ++ joined_texts entry_line (drop l.price-index l.prices) ≡ l.fn.text.items ++ joined_texts entry_line l.prices
