use Rattle.std.proofs.Common.{arith}
use Rattle.std.proofs.lemmas.Grind.{common_steps, elements}
use Rattle.frvcp_labels.proofs.rest.Arcs.fill_layer.Goals as goal

pub settle_layer-requires-clause-inside : goal.settle_layer-requires-clause-inside
settle_layer-requires-clause-inside = grind (arith, common_steps)

pub go_on_directly-requires-clause-inside : goal.go_on_directly-requires-clause-inside
go_on_directly-requires-clause-inside = grind (arith, common_steps)

pub returns-clause-count : goal.returns-clause-count
returns-clause-count = grind (arith, common_steps)

pub returns-clause-steady : goal.returns-clause-steady
returns-clause-steady = grind (arith, common_steps)

pub returns-clause-zero : goal.returns-clause-zero
returns-clause-zero = grind (arith, common_steps)

pub returns-clause-stays : goal.returns-clause-stays
returns-clause-stays = grind (arith, common_steps)

pub go_on_directly-requires-clause-direct : goal.go_on_directly-requires-clause-direct
go_on_directly-requires-clause-direct = grind (arith, elements)

pub returns-clause-direct : goal.returns-clause-direct
returns-clause-direct = grind (arith, elements)
