use Rattle.fleet_model.proofs.PricedLabels.{are_priced, closed_by_prices, covered_by_prices}
use Rattle.fleet_model.proofs.laws.paid_sums_may_be_price_sums.Goals as goal

pub returns-clause-covered : goal.returns-clause-covered
returns-clause-covered c = covered_by_prices

pub returns-clause-closed : goal.returns-clause-closed
returns-clause-closed c = closed_by_prices

pub returns-clause-priced : goal.returns-clause-priced
returns-clause-priced c = are_priced
