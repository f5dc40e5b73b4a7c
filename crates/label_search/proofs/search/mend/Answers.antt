use Rattle.std.proofs.Common.{arith}
use Rattle.std.proofs.lemmas.Grind.{elements}
use Rattle.label_search.proofs.search.mend.Goals as goal

pub force-requires-clause-known : goal.force-requires-clause-known
force-requires-clause-known = grind (arith, elements)

pub force-requires-clause-leads : goal.force-requires-clause-leads
force-requires-clause-leads = grind (arith, elements)

pub index-number-requires : goal.index-number-requires
index-number-requires = grind (arith, elements)

pub keep_route-requires-clause-known : goal.keep_route-requires-clause-known
keep_route-requires-clause-known = grind (arith, elements)
