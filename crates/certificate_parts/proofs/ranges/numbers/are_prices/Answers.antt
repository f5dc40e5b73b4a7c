use Rattle.std.proofs.lemmas.List.Elements.{All-more}
use Rattle.certificate_parts.specs.Ranges.{IsPrice}
use Rattle.certificate_parts.proofs.EachItem.{all_hold}
use Rattle.certificate_parts.proofs.ranges.numbers.are_prices.Goals as goal

pub loop-price-preserved : goal.loop-price-preserved
loop-price-preserved c =
    All-more (IsPrice) c.args.prices.now c.loop-price.price-index _ c.loop-price-test.true c.loop-price.invariant (c.is_price.ensures.0 c.if-not-is_price.false)

pub returns : goal.returns
returns c = all_hold (IsPrice) c.args.prices.now c.loop-price.price-index c.loop-price.auto.price-index-end c.loop-price-test.false c.loop-price.invariant
