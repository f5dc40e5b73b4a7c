use Rattle.fleet_model.proofs.Numbers.{counted, numbered}
use Rattle.fleet_model.proofs.laws.customers_are_numbered.Goals as goal

pub returns-clause-count : goal.returns-clause-count
returns-clause-count c = counted

pub returns-clause-number : goal.returns-clause-number
returns-clause-number c = numbered
