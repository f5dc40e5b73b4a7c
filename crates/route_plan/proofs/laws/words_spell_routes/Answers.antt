use Rattle.route_plan.proofs.Spelled.{reads_what_is_spelled, spells_what_is_read}
use Rattle.route_plan.proofs.laws.words_spell_routes.Goals as goal

pub returns : goal.returns
returns c = λ word nodes. (spells_what_is_read word nodes, reads_what_is_spelled word nodes)
