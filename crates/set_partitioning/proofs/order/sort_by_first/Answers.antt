use Rattle.std.proofs.Common.{rules}
use Rattle.std.proofs.lemmas.List.Sorted.{IsNonDecreasingBy-from_sort_by_key}
use Rattle.set_partitioning.specs.FirstCustomers.{first_outside}
use Rattle.set_partitioning.proofs.order.sort_by_first.Goals as goal

pub returns-clause-order : goal.returns-clause-order
returns-clause-order g c =
    IsNonDecreasingBy-from_sort_by_key (λ r. first_outside (g.R.HasStops.stops_of r)) _ c.sort_unstable_by_key.ensures.sorted (λ a r q k. search rules)
