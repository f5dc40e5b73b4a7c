use Rattle.fleet_model.proofs.PriceSums.{price_sum_is_total}
use Rattle.fleet_model.proofs.laws.a_price_sum_is_a_total.Goals as goal

pub returns : goal.returns
returns c = price_sum_is_total
