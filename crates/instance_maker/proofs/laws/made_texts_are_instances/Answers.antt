use Rattle.instance_maker.proofs.Means.{is_instance}
use Rattle.instance_maker.proofs.laws.made_texts_are_instances.Goals as goal

pub returns : goal.returns
returns c = is_instance
