use Rattle.std.proofs.Common.{◌≡◌, ◌++◌, codes, decimal, drop}
use Rattle.ev_text.specs.Texts.{marked_texts}
use Rattle.near_text.proofs.writing.write_each_price.Given as goal

abbrev pub invariant-loop-price : goal.invariant-loop-price
invariant-loop-price l = l.text.items ++ marked_texts (codes " ") (λ price. decimal price) (drop l.price-index l.prices) ≡ l.fn.text.items ++ marked_texts (codes " ") (λ price. decimal price) l.prices
