use Rattle.std.specs.Fmt.{signed_decimal}
use Rattle.std.proofs.Common.{◌≡◌, ◌++◌, codes, drop}
use Rattle.ev_text.specs.Texts.{marked_texts}
use Rattle.certificate_parts.proofs.writing.prices.write_each_price.Given as goal

abbrev pub invariant-loop-price : goal.invariant-loop-price
invariant-loop-price l = l.text.items ++ marked_texts (codes " ") signed_decimal (drop l.price-index l.prices) ≡ l.fn.text.items ++ marked_texts (codes " ") signed_decimal l.prices
