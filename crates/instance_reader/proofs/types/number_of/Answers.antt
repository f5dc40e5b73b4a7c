use Rattle.std.proofs.Common.{◌∙◌}
use Rattle.instance_reader.proofs.TypesLemmas.{found_is, list_any-keys, position_or_len-keys}
use Rattle.instance_reader.proofs.types.number_of.Goals as goal

pub returns-clause-listed : goal.returns-clause-listed
returns-clause-listed c = c.get_index_of.ensures.found ∙ list_any-keys c.args.name.now c.args.names.now.keys

pub returns-clause-number : goal.returns-clause-number
returns-clause-number c =
    rw (← position_or_len-keys c.args.name.now c.args.names.now.keys) (found_is c.get_index_of.result _ _ c.get_index_of.ensures.index)
