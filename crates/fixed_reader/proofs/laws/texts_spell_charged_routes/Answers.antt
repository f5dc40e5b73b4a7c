use Rattle.fixed_reader.proofs.FixedLaws.{fixed_is_spelled}
use Rattle.fixed_reader.proofs.laws.texts_spell_charged_routes.Goals as goal

pub returns : goal.returns
returns c = fixed_is_spelled
