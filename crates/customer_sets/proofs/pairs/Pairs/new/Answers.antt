use Rattle.customer_sets.proofs.PairRows.{empty_allows, empty_pairs}
use Rattle.customer_sets.proofs.pairs.Pairs.new.Goals as goal

pub invariant_of-result : goal.invariant_of-result
invariant_of-result c = empty_pairs c.args.customers c.empty.result c.empty-2.result c.requires c.empty.ensures c.empty-2.ensures

pub returns-clause-pairs : goal.returns-clause-pairs
returns-clause-pairs c = empty_allows c.args.customers c.empty.result c.empty-2.result c.empty.ensures c.empty-2.ensures
